-- `fill_sums` meets its contract: the waits before this one are stored.
use Rattle.figures_cells.specs.Held.{system_of}
use Rattle.figures.specs.Answers.{remote_waits}
use Rattle.figures_slices.specs.Stored.{ValuesAt}
use Rattle.plan_tables.specs.Layout.{task_row}
use lib.ListN.{length}
use mathlib.Core.Path.{◌≡◌}
use Rattle.answers_sums.proofs.fill_sums.Given as goal

abbrev pub invariant-loop-i : goal.invariant-loop-i
invariant-loop-i l = (length l.ws ≡ length l.initial.ws) × ValuesAt (λ k. k) 8000000 l.i (λ k. remote_waits (system_of l.t) (task_row l.t.tasks.now k)) l.ws
