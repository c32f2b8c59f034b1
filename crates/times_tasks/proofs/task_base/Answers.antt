-- `task_base` meets its contract.
use Prim.Native.Nat.{◌+◌}
use mathlib.Core.Path.{ap₂}
use native.Mathlib.Omega.{arith}
use Rattle.times_tasks.proofs.task_base.Goals as goal

pub overflow_add-result-3 : goal.overflow_add-result-3
overflow_add-result-3 c = let h = c.requires in omega (arith, (h.0.spans.at _ h.3).small, (h.1.at _ h.3).small)

pub overflow_add-result-4 : goal.overflow_add-result-4
overflow_add-result-4 c = let h = c.requires in omega (arith, (h.0.spans.at _ h.3).small, (h.1.at _ h.3).small, (h.2.waits.at _ h.3).small)

pub returns : goal.returns
returns c = let h = c.requires in ap₂ ◌+◌ (ap₂ ◌+◌ (h.0.spans.at _ h.3).is (h.1.at _ h.3).is) (h.2.waits.at _ h.3).is
