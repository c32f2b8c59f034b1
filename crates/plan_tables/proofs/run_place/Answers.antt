-- `plan_tables::run_place` meets its contract.
use Prim.Native.Nat.{◌+◌}
use mathlib.Core.Path.{ap}
use native.Mathlib.Omega.{arith}
use borrow.Author.Tests.{eq-eqb, ne_eqb}
use Rattle.plan_tables.specs.RowPlaces.{run_place}
use Rattle.plan_tables.proofs.run_place.Goals as goal

pub returns-then-n-eq0 : goal.returns-then-n-eq0
unfolding run_place
returns-then-n-eq0 c = record { is = simp (eq-eqb _ _ c.if-n-eq0.true); small = omega arith }

pub returns-else-n-eq0 : goal.returns-else-n-eq0
unfolding run_place
returns-else-n-eq0 c = record { is = simp (ne_eqb _ _ c.if-n-eq0.false) (ap (λ n. n + 4) c.place.ensures.is); small = omega arith }
