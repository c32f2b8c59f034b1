-- `push_vcpu` meets its contract: the places of the tasks up to n are written.
use Rattle.figures_cells.specs.Held.{system_of}
use Prim.Native.Nat.{◌-◌}
use Rattle.laws.specs.Range.{flat_to}
use Rattle.listing_order.specs.Pushed.{Growing, named}
use lib.ListN.{length}
use mathlib.Core.Path.{◌≡◌}
use Rattle.listing_order.proofs.push_vcpu.Given as goal

abbrev pub invariant-loop-n : goal.invariant-loop-n
invariant-loop-n l = (length l.order ≡ length l.initial.order) × Growing l.t.tasks.now l.t.plan.tasks l.initial.order l.k (λ j. flat_to j (named (system_of l.t) l.v)) 8 l.order l.e (l.n - 1)
