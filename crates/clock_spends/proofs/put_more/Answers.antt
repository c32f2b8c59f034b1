use Rattle.clock_spends.specs.Spending.{more_none, more_some}
use mathlib.Core.Path.{refl, ap}
use Prim.Native.Nat.{◌+◌}
use lib.ListN.{get_or}
use native.Mathlib.Omega.{arith}
use Rattle.clock_spends.proofs.put_more.Goals as goal

pub returns-then-v-eq0 : goal.returns-then-v-eq0
returns-then-v-eq0 c = more_none c.args.marks.now c.args.v c.args.n c.args.k c.if-v-eq0.true

pub overflow_add-marks : goal.overflow_add-marks
overflow_add-marks c =
    let nz = c.if-v-eq0.false in
    let s = c.seat-s.ensures.0 in
    let l = c.requires.3 (omega arith) in
    let e = ap (λ y. get_or c.args.marks.now (163 + y) 0) s in
    omega arith

pub returns : goal.returns
returns c = more_some c.args.marks.now c.args.v c.args.n c.args.k c.if-v-eq0.false c.seat-s.ensures.0 refl refl
