-- `fill_cells` meets its contract: the numbers before this one are written.
use Rattle.figures_cells.specs.Held.{system_of}
use Rattle.clock_cells.specs.TimesOf.{times_of}
use Rattle.clock_cells.specs.TaskRows.{Listed}
use lib.ListN.{get_or}
use mathlib.Core.Path.{◌≡◌}
use Rattle.clock_views.proofs.fill_cells.Given as goal

abbrev pub invariant-loop-k : goal.invariant-loop-k
invariant-loop-k l = Listed (λ j x. x ≡ get_or (times_of (system_of l.t)) j 0) 3360 l.times l.k
