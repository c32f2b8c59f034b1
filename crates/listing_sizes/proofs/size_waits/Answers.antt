-- `size_waits` meets its contract.
use Rattle.laws.specs.RowLaws.{summed_none}
use Rattle.listing_sizes.specs.Texts.{place_text}
use Rattle.listing_sizes.proofs.TextLaws.{sized_more, sized_all, waits_text}
use native.Mathlib.Omega.{arith}
use Rattle.listing_sizes.proofs.size_waits.Goals as goal

pub loop-j-init : goal.loop-j-init
loop-j-init c = summed_none

pub size_wait-x-requires : goal.size_wait-x-requires
size_wait-x-requires c = let h = c.requires in (h.0, h.1, omega (arith, c.loop-j-test.true, c.lock_count-n.ensures.small), omega (arith, c.loop-j-test.true, c.lock_count-n.ensures.is))

pub loop-j-preserved : goal.loop-j-preserved
loop-j-preserved c = sized_more (place_text _ _ _) (λ k. k) c.loop-j.invariant c.loop-j-test.true c.size_wait-x.ensures

pub returns : goal.returns
returns c = sized_all (place_text _ _ _) (λ k. k) c.loop-j.invariant 8 c.lock_count-n.ensures.small c.loop-j-test.false (waits_text _ _ _ c.lock_count-n.ensures.is)
