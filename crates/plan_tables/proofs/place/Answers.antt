-- `plan_tables::place` meets its contract.
use Prim.Native.Nat.{◌*◌, ◌≤◌}
use native.Mathlib.Omega.{arith}
use native.Mathlib.Nat.{mul-le-mul}
use borrow.Author.Tests.{lt-ltb, le-ltb}
use Rattle.plan_tables.specs.RowPlaces.{place}
use Rattle.plan_tables.proofs.place.Goals as goal
use Rattle.plan_tables.proofs.place.Goals.{Then-i-lt-MOST}

small : (c : Then-i-lt-MOST) → c.args.i * c.args.w ≤ 128 * 29
small c = let l : c.args.i ≤ 128 = omega arith in mul-le-mul l c.requires

pub overflow_mul-result : goal.overflow_mul-result
overflow_mul-result c = omega (arith, small (goal.at.overflow_mul-result c).Then-i-lt-MOST)

pub returns-then-i-lt-MOST : goal.returns-then-i-lt-MOST
unfolding place
returns-then-i-lt-MOST c = record { is = simp (lt-ltb _ _ c.if-i-lt-MOST.true); small = small (goal.at.returns-then-i-lt-MOST c).Then-i-lt-MOST }

pub returns-else-i-lt-MOST : goal.returns-else-i-lt-MOST
unfolding place
returns-else-i-lt-MOST c = record { is = simp (le-ltb _ _ c.if-i-lt-MOST.false); small = omega arith }
