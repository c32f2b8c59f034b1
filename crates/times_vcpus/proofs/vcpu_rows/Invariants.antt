-- `vcpu_rows` meets its contract: the rows of the higher VCPUs before this one are written.
use Rattle.figures_cells.specs.Held.{system_of}
use Rattle.figures.specs.Figures.{higher_on}
use Rattle.search.specs.Row.{Picked, rows_in}
use Rattle.plan_tables.specs.Layout.{vcpu_row}
use Rattle.figures_slices.specs.Costs.{higher_row}
use lib.ListN.{length}
use mathlib.Core.Path.{◌≡◌}
use Rattle.times_vcpus.proofs.vcpu_rows.Given as goal

abbrev pub invariant-loop-b : goal.invariant-loop-b
invariant-loop-b l = (length l.rows ≡ length l.initial.rows) × Picked (higher_on (vcpu_row l.t.vcpus.now l.a)) (higher_row (system_of l.t)) (vcpu_row l.t.vcpus.now) (rows_in l.initial.rows l.n) 64 l.count l.rows l.e l.b
