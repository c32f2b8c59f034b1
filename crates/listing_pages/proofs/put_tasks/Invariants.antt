-- `put_tasks` meets its contract: the lines before this one are written.
use Rattle.figures_cells.specs.Held.{system_of}
use Rattle.listing_waits.specs.Filled.{Filled}
use lib.ListN.{get_or}
use Rattle.plan_tables.specs.Layout.{task_row}
use Rattle.listing.specs.Listing.{task_lines}
use Rattle.listing_pages.proofs.put_tasks.Given as goal

abbrev pub invariant-loop-task : goal.invariant-loop-task
invariant-loop-task l = Filled (task_lines (system_of l.t)) (λ k. task_row l.t.tasks.now (get_or l.order k 0)) l.n l.initial.out l.out l.task-index l.at
