-- `size_waits` meets its contract.
use Rattle.figures_cells.specs.Held.{system_of}
use lib.ListN.{length}
use Rattle.laws.specs.Rows.{Summed}
use Rattle.plan_tables.specs.Layout.{lock_row, task_row}
use Rattle.listing_sizes.specs.Texts.{place_text}
use Rattle.listing_sizes.proofs.size_waits.Given as goal

abbrev pub invariant-loop-j : goal.invariant-loop-j
invariant-loop-j l = Summed (λ x. length (place_text (system_of l.t) (task_row l.t.tasks.now l.i) (lock_row l.t.tasks.now l.i) x)) (λ k. k) 110 l.n l.s l.j
