-- `vcpu_base` meets its contract.
use Prim.Native.Nat.{◌+◌}
use Rattle.figures.specs.Tabled.{system_in}
use Rattle.figures_slices.specs.Costs.{vcpu_base}
use mathlib.Core.Path.{ap₂}
use native.Mathlib.Omega.{arith}
use Rattle.times_vcpus.proofs.vcpu_base.Goals as goal

pub overflow_add-result-2 : goal.overflow_add-result-2
unfolding vcpu_base system_in
overflow_add-result-2 c = let h = c.requires in omega (arith, (h.1.starts.at _ h.2).small, c.blocking_ghts-ghts.ensures.small)

pub overflow_add-result-3 : goal.overflow_add-result-3
unfolding vcpu_base system_in
overflow_add-result-3 c = let h = c.requires in omega (arith, (h.1.starts.at _ h.2).small, c.blocking_ghts-ghts.ensures.small, c.blocking_costs-costs.ensures.small)

pub returns : goal.returns
unfolding vcpu_base system_in
returns c = let h = c.requires in ap₂ ◌+◌ (ap₂ ◌+◌ (h.1.starts.at _ h.2).is c.blocking_ghts-ghts.ensures.is) c.blocking_costs-costs.ensures.is
