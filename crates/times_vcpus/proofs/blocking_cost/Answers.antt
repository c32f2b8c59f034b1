-- `blocking_cost` meets its contract.
use Prim.Native.Nat.{◌*◌, ◌+◌, ◌≤◌}
use Rattle.figures.specs.PartLaws.{is_in, is_out, is_then, is_times}
use Rattle.plan_tables.specs.Layout.{task_row}
use Rattle.figures_slices.specs.Costs.{blocking_cost, lower_times}
use lib.ListN.{get_or}
use mathlib.Core.Path.{ap, refl}
use native.Mathlib.Nat.{mul-le-mul}
use native.Mathlib.Omega.{arith}
use Rattle.times_vcpus.proofs.blocking_cost.Goals as goal
use Rattle.times_vcpus.proofs.blocking_cost.Goals.{After-shared_slice_known-then-d-1}

product : (c : After-shared_slice_known-then-d-1) → c.lower_times.result * get_or c.args.tf.now (c.args.k * 5 + 1) 0 ≤ 16 * 8000000
product c =
    let h = c.requires in
    mul-le-mul c.lower_times.ensures.small (h.0.sums.at _ h.2).small

pub overflow_mul-result-then-d : goal.overflow_mul-result-then-d
unfolding blocking_cost task_row
overflow_mul-result-then-d c = omega (arith, product (goal.at.overflow_mul-result-then-d c).After-shared_slice_known-then-d-1)

pub returns-then-d : goal.returns-then-d
unfolding blocking_cost task_row
returns-then-d c = let h = c.requires in
    let t = is_then c.lower_times.ensures (ap (lower_times _ _) c.task_cell.ensures.is) in
    is_in refl c.if-d.true (is_times t (h.0.sums.at _ h.2))

pub returns-else-d : goal.returns-else-d
unfolding blocking_cost task_row
returns-else-d c = is_out _ _ refl c.if-d.false
