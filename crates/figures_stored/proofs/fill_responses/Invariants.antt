-- `fill_responses` meets its contract: the responses before this one are stored.
use Rattle.figures_cells.specs.Held.{system_of}
use Rattle.figures_slices.specs.Stored.{Responses}
use lib.ListN.{length}
use mathlib.Core.Path.{◌≡◌}
use Rattle.figures_stored.proofs.fill_responses.Given as goal

abbrev pub invariant-loop-k : goal.invariant-loop-k
invariant-loop-k l = (length l.rf ≡ length l.initial.rf) × Responses (system_of l.t) l.t.tasks.now l.k l.rf
