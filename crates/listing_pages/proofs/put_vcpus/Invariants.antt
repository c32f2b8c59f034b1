-- `put_vcpus` meets its contract: the lines before this one are written.
use Rattle.figures_cells.specs.Held.{system_of}
use Rattle.listing_waits.specs.Filled.{Filled}
use Rattle.plan_tables.specs.Layout.{vcpu_row}
use Rattle.listing.specs.Listing.{vcpu_line}
use Rattle.listing_pages.proofs.put_vcpus.Given as goal

abbrev pub invariant-loop-a : goal.invariant-loop-a
invariant-loop-a l = Filled (vcpu_line (system_of l.t)) (vcpu_row l.t.vcpus.now) l.n l.initial.out l.out l.a l.at
