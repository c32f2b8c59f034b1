-- `vcpu_row` meets its contract: no row before this one is VCPU v.
use Rattle.laws.specs.Rows.{Lacking}
use Rattle.plan_tables.specs.Layout.{vcpu_row}
use lib.Dec.{eqb}
use Rattle.figures_found.proofs.vcpu_row.Given as goal

abbrev pub invariant-loop-a : goal.invariant-loop-a
invariant-loop-a l = Lacking (λ x. eqb x.v l.v) (vcpu_row l.t.vcpus.now) l.n l.a
