-- `core_set` meets its contract. The loop's invariant: the VCPUs below v are in the set as the times say.
use Prim.Native.Nat.{ℕ}
use mathlib.Core.Path.{ap}
use native.Mathlib.Omega.{arith}
use lib.Dec.{eqb}
use Rattle.clock_supplies.specs.CoreLaws.{core_none, core_more, core_all}
use Rattle.clock_supplies.proofs.core_set.Goals as goal

pub loop-v-init : goal.loop-v-init
loop-v-init c = (omega arith, omega arith, core_none _ _)

pub put-s-requires : goal.put-s-requires
put-s-requires c = let i = c.loop-v.invariant in (i.2.is_set, i.0, omega arith)

pub loop-v-preserved : goal.loop-v-preserved
loop-v-preserved c = let i = c.loop-v.invariant in
    let core = c.args.c in
    (omega arith, omega arith, core_more _ _ _ _ _ (omega arith) i.2 (ap (λ (y : ℕ). eqb y core) c.figure.ensures) c.put-s.ensures)

pub returns : goal.returns
returns c = core_all c.loop-v-test.false c.loop-v.invariant.2
