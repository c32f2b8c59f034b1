use Rattle.clock_spends.specs.Putting.{put_at_law}
use lib.ListN.{set, length-set}
use Prim.Native.Nat.{◌+◌}
use mathlib.Core.Path.{refl}
use native.Mathlib.Omega.{arith}
use Rattle.clock_spends.proofs.put.Goals as goal

pub bounds-plain-i-2 : goal.bounds-plain-i-2
bounds-plain-i-2 c =
    let l = c.requires.0 in
    let m = c.requires.1 in
    let e = length-set c.args.plain.now c.args.c c.args.k in
    omega arith

pub bounds-plain-i-3 : goal.bounds-plain-i-3
bounds-plain-i-3 c =
    let a = c.args in
    let l = c.requires.0 in
    let m = c.requires.1 in
    let e = length-set a.plain.now a.c a.k in
    let f = length-set (set a.plain.now a.c a.k) (4 + a.c) a.v in
    omega arith

pub returns : goal.returns
returns c = put_at_law c.requires.0 c.requires.1 refl
