-- `size_vcpus` meets its contract.
use mathlib.Core.Path.{refl}
use Rattle.laws.specs.RowLaws.{summed_none}
use Rattle.plan_tables.specs.Layout.{vcpu_row}
use Rattle.figures.specs.Tabled.{system_in}
use Rattle.listing.specs.Listing.{vcpu_line}
use Rattle.listing_sizes.proofs.TextLaws.{sized_more, sized_all}
use Rattle.listing_sizes.proofs.size_vcpus.Goals as goal

pub loop-a-init : goal.loop-a-init
unfolding system_in
loop-a-init c = summed_none

pub loop-a-preserved : goal.loop-a-preserved
unfolding system_in
loop-a-preserved c = sized_more (vcpu_line _) (vcpu_row _) c.loop-a.invariant c.loop-a-test.true c.size_vcpu-x.ensures

pub returns : goal.returns
unfolding system_in
returns c = sized_all (vcpu_line _) (vcpu_row _) c.loop-a.invariant 16 c.args.t.now.fit.vcpus_few c.loop-a-test.false refl
