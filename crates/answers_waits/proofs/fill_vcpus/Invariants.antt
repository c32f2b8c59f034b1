-- `fill_vcpus` meets its contract: the answers before this one are written.
use Rattle.figures_cells.specs.Held.{system_of}
use Rattle.figures_slices.specs.Filled.{Filled, answer_row}
use Rattle.figures.specs.Answers.{vcpu_answer}
use Rattle.laws.specs.Rows.{rows}
use Rattle.plan_tables.specs.Layout.{vcpu_row}
use lib.ListN.{length}
use mathlib.Core.Path.{◌≡◌}
use Rattle.answers_waits.proofs.fill_vcpus.Given as goal

abbrev pub invariant-loop-a : goal.invariant-loop-a
invariant-loop-a l = (length l.rows ≡ length l.initial.rows) × Filled (λ x. answer_row (vcpu_answer (system_of l.t) x)) (vcpu_row l.t.vcpus.now) l.initial.va l.n l.va l.a
