-- `fill_waits` meets its contract: the answers before this one are written.
use Rattle.figures_cells.specs.Held.{system_of}
use Rattle.figures_slices.specs.Filled.{Filled, place_at}
use Rattle.laws.specs.Rows.{rows}
use lib.ListN.{length}
use mathlib.Core.Path.{◌≡◌}
use Rattle.answers_waits.proofs.fill_waits.Given as goal

abbrev pub invariant-loop-k : goal.invariant-loop-k
invariant-loop-k l = (length l.rows ≡ length l.initial.rows) × Filled (place_at (system_of l.t) l.t.tasks.now) (λ i. i) l.initial.wa l.n l.wa l.k
