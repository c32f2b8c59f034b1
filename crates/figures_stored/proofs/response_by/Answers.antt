-- `response_by` meets its contract.
use Prim.Native.Nat.{◌*◌, ◌≤◌}
use Rattle.figures_slices.specs.StoredLaws.{response_without}
use mathlib.Core.Path.{refl}
use native.Mathlib.Nat.{mul-le-mul}
use native.Mathlib.Omega.{arith}
use Rattle.figures_stored.proofs.response_by.Goals as goal
use Rattle.figures_stored.proofs.response_by.Goals.{After-up_by}

product : (c : After-up_by) → c.up_by.result * c.args.gap ≤ 65000000 * 1000000
product c =
    let h : c.up_by.result ≤ 65000000 = omega arith in
    let g : c.args.gap ≤ 1000000 = omega arith in
    mul-le-mul h g

pub overflow_mul-result : goal.overflow_mul-result
overflow_mul-result c = omega (arith, product (goal.at.overflow_mul-result c).After-up_by)

pub overflow_add-result-in-WithoutOverrun : goal.overflow_add-result-in-WithoutOverrun
overflow_add-result-in-WithoutOverrun c = omega (arith, product (goal.at.overflow_add-result-in-WithoutOverrun c).After-up_by)

pub overflow_add-result-in-WithoutOverrun-2 : goal.overflow_add-result-in-WithoutOverrun-2
overflow_add-result-in-WithoutOverrun-2 c = omega (arith, product (goal.at.overflow_add-result-in-WithoutOverrun-2 c).After-up_by)

pub returns-in-Periodic : goal.returns-in-Periodic
returns-in-Periodic c = record { is = rw (c.in-WithOverrun.is, c.in-Periodic.is) refl; small = omega arith }

pub returns-in-Deferrable : goal.returns-in-Deferrable
returns-in-Deferrable c = record { is = rw (c.in-WithOverrun.is, c.in-Deferrable.is) refl; small = omega arith }

pub returns-in-WithoutOverrun : goal.returns-in-WithoutOverrun
returns-in-WithoutOverrun c = record { is = rw (c.in-WithoutOverrun.is, c.up_by.ensures.is) (response_without c.args.policy _ _ _ _); small = omega (arith, product (goal.at.returns-in-WithoutOverrun c).After-up_by) }
