-- `size_tasks` meets its contract.
use Rattle.figures_cells.specs.Held.{system_of}
use lib.ListN.{length, get_or}
use Rattle.laws.specs.Rows.{Summed}
use Rattle.plan_tables.specs.Layout.{task_row}
use Rattle.listing.specs.Listing.{task_lines}
use Rattle.listing_sizes.proofs.size_tasks.Given as goal

abbrev pub invariant-loop-task : goal.invariant-loop-task
invariant-loop-task l = Summed (λ x. length (task_lines (system_of l.t) x)) (λ k. task_row l.t.tasks.now (get_or l.order k 0)) 976 l.n l.s l.task-index
