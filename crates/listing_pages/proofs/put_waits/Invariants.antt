-- `put_waits` meets its contract: the lines before this one are written.
use Rattle.figures_cells.specs.Held.{system_of}
use Rattle.listing_waits.specs.Filled.{Filled}
use Rattle.plan_tables.specs.Layout.{lock_row, task_row}
use Rattle.listing_sizes.specs.Texts.{place_text}
use Rattle.listing_pages.proofs.put_waits.Given as goal

abbrev pub invariant-loop-j : goal.invariant-loop-j
invariant-loop-j l = Filled (place_text (system_of l.t) (task_row l.t.tasks.now l.i) (lock_row l.t.tasks.now l.i)) (λ k. k) l.n l.initial.out l.out l.j l.at
