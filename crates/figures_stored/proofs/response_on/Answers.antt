-- `response_on` meets its contract.
use Prim.Native.Nat.{◌-◌}
use Rattle.figures_slices.specs.StoredLaws.{response_read}
use Rattle.plan_tables.specs.Layout.{vcpu_row}
use mathlib.Core.Path.{ap₂}
use native.Mathlib.Omega.{arith}
use Rattle.figures_stored.proofs.response_on.Goals as goal

pub overflow_sub-period : goal.overflow_sub-period
unfolding vcpu_row
overflow_sub-period c = let h = c.requires in
    let v = c.args.t.now.fit.vcpu_valid _ h.2 in
    omega (arith, v.budget_in.1, c.vcpu_cell-period.ensures.is, c.vcpu_cell-budget.ensures.is)

pub response_by-requires : goal.response_by-requires
unfolding vcpu_row
response_by-requires c = let h = c.requires in
    let v = c.args.t.now.fit.vcpu_valid _ h.2 in
    let b = c.vcpu_cell-budget.ensures in
    (omega (arith, c.vcpu_cell-period.ensures.small), omega (arith, v.budget_in.0, b.is), b.small, h.3, (h.1.at _ h.2).small)

pub returns : goal.returns
unfolding vcpu_row
returns c = let h = c.requires in
    let a = c.args in
    let b = c.vcpu_cell-budget.ensures in
    response_read a.t.now.plan.policy a.t.now.plan.overrun (vcpu_row a.t.now.vcpus.now a.a) a.load _ (ap₂ ◌-◌ c.vcpu_cell-period.ensures.is b.is) b.is (h.1.at _ h.2).is c.response_by.ensures
