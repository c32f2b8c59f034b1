-- `size_vcpus` meets its contract.
use Rattle.figures_cells.specs.Held.{system_of}
use lib.ListN.{length}
use Rattle.laws.specs.Rows.{Summed}
use Rattle.plan_tables.specs.Layout.{vcpu_row}
use Rattle.listing.specs.Listing.{vcpu_line}
use Rattle.listing_sizes.proofs.size_vcpus.Given as goal

abbrev pub invariant-loop-a : goal.invariant-loop-a
invariant-loop-a l = Summed (λ x. length (vcpu_line (system_of l.t) x)) (vcpu_row l.t.vcpus.now) 75 l.n l.s l.a
