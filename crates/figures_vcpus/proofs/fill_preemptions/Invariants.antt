-- `fill_preemptions` meets its contract: the rows before this one are stored.
use Rattle.figures_cells.specs.Held.{system_of}
use Rattle.figures_slices.specs.Stored.{Preemptions, VcpuFigures}
use Rattle.plan_tables.specs.Layout.{vcpu_row}
use lib.ListN.{length}
use mathlib.Core.Path.{◌≡◌}
use Rattle.figures_vcpus.proofs.fill_preemptions.Given as goal

abbrev pub invariant-loop-a : goal.invariant-loop-a
invariant-loop-a l = (length l.vf ≡ length l.initial.vf) × VcpuFigures (system_of l.t) (vcpu_row l.t.vcpus.now) l.t.plan.vcpus l.vf × Preemptions (system_of l.t) (vcpu_row l.t.vcpus.now) l.a l.vf
