-- `rising` meets its contract: the places of the tasks of the VCPUs up to v are written; in all there are no more than tasks.
use Rattle.figures_cells.specs.Held.{system_of}
use Prim.Native.Nat.{◌-◌}
use Rattle.laws.specs.Range.{flat_to}
use Rattle.listing_order.specs.Pushed.{Growing, of_vcpu}
use lib.ListN.{length}
use mathlib.Core.Path.{◌≡◌}
use Rattle.listing_order.proofs.rising.Given as goal

abbrev pub invariant-loop-v : goal.invariant-loop-v
invariant-loop-v l = (length l.order ≡ length l.initial.order) × Growing l.t.tasks.now l.t.plan.tasks l.initial.order 0 (λ j. flat_to j (of_vcpu (system_of l.t))) 16 l.order l.e (l.v - 1)
