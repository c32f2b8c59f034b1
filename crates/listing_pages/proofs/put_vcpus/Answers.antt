-- `put_vcpus` meets its contract: the lines before this one are written.
use Rattle.listing_waits.specs.FilledLaws.{filled_none, filled_ends, filled_fits, filled_sum, filled_more, filled_all}
use mathlib.Core.Path.{refl}
use Rattle.plan_tables.specs.Layout.{vcpu_row}
use Rattle.figures.specs.Tabled.{system_in}
use Rattle.listing.specs.Listing.{vcpu_line}
use borrow.Author.Rules.{rules}
use Rattle.listing_pages.proofs.put_vcpus.Goals as goal

pub loop-a-init : goal.loop-a-init
unfolding system_in
loop-a-init c = filled_none (vcpu_line _) (vcpu_row _) _ (refl) c.requires.1

pub slice_bounds-put_vcpu-count : goal.slice_bounds-put_vcpu-count
unfolding system_in
slice_bounds-put_vcpu-count c = let h = filled_ends (vcpu_line _) (vcpu_row _) c.loop-a.invariant c.loop-a-test.true in search rules

pub slice_bounds-put_vcpu-start : goal.slice_bounds-put_vcpu-start
unfolding system_in
slice_bounds-put_vcpu-start c = let h = filled_ends (vcpu_line _) (vcpu_row _) c.loop-a.invariant c.loop-a-test.true in search rules

pub put_vcpu-k-requires : goal.put_vcpu-k-requires
unfolding system_in
put_vcpu-k-requires c = let h = c.requires in (h.0, c.loop-a-test.true, filled_fits (vcpu_line _) (vcpu_row _) c.loop-a.invariant c.loop-a-test.true)

pub overflow_add-at : goal.overflow_add-at
unfolding system_in
overflow_add-at c = let h = filled_sum (vcpu_line _) (vcpu_row _) c.loop-a.invariant c.loop-a-test.true c.put_vcpu-k.ensures in search rules

pub loop-a-preserved : goal.loop-a-preserved
unfolding system_in
loop-a-preserved c = filled_more (vcpu_line _) (vcpu_row _) c.loop-a.invariant c.loop-a-test.true c.put_vcpu-k.ensures

pub shape_of-out : goal.shape_of-out
unfolding system_in
shape_of-out c = c.loop-a.invariant.same

pub returns : goal.returns
unfolding system_in
returns c = filled_all (vcpu_line _) (vcpu_row _) c.loop-a.invariant c.loop-a-test.false (refl)
