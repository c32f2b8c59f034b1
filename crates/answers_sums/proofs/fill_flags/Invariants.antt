-- `fill_flags` meets its contract: the flags before this one are stored.
use Rattle.figures_cells.specs.Held.{system_of}
use Rattle.figures.specs.Answers.{lacks_wait}
use Rattle.laws.specs.Choice.{when}
use Rattle.figures_slices.specs.Stored.{ValuesAt}
use Rattle.plan_tables.specs.Layout.{task_row}
use lib.ListN.{length}
use mathlib.Core.Path.{◌≡◌}
use Rattle.answers_sums.proofs.fill_flags.Given as goal

abbrev pub invariant-loop-i : goal.invariant-loop-i
invariant-loop-i l = (length l.fs ≡ length l.initial.fs) × ValuesAt (λ k. k) 1 l.i (λ k. when (lacks_wait (system_of l.t) (task_row l.t.tasks.now k)) 1) l.fs
