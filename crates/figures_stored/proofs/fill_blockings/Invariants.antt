-- `fill_blockings` meets its contract: the rows before this one are stored.
use Rattle.figures_cells.specs.Held.{system_of}
use Rattle.figures_slices.specs.Stored.{Blockings, TaskFigures}
use Rattle.plan_tables.specs.Layout.{task_row}
use lib.ListN.{length}
use mathlib.Core.Path.{◌≡◌}
use Rattle.figures_stored.proofs.fill_blockings.Given as goal

abbrev pub invariant-loop-i : goal.invariant-loop-i
invariant-loop-i l = (length l.tf ≡ length l.initial.tf) × TaskFigures (system_of l.t) (task_row l.t.tasks.now) l.t.plan.tasks l.tf × Blockings (system_of l.t) (task_row l.t.tasks.now) l.i l.tf
