-- `put_waits` meets its contract: the lines before this one are written.
use Rattle.listing_waits.specs.FilledLaws.{filled_none, filled_ends, filled_fits, filled_sum, filled_more, filled_all}
use Rattle.listing_sizes.specs.Texts.{place_text}
use Rattle.listing_sizes.proofs.TextLaws.{waits_text}
use borrow.Author.Rules.{rules}
use native.Mathlib.Omega.{arith}
use Rattle.listing_pages.proofs.put_waits.Goals as goal

pub loop-j-init : goal.loop-j-init
loop-j-init c = filled_none (place_text _ _ _) (λ k. k) _ (waits_text _ _ _ c.lock_count-n.ensures.is) c.requires.2

pub slice_bounds-put_wait-count : goal.slice_bounds-put_wait-count
slice_bounds-put_wait-count c = let h = filled_ends (place_text _ _ _) (λ k. k) c.loop-j.invariant c.loop-j-test.true in search rules

pub slice_bounds-put_wait-start : goal.slice_bounds-put_wait-start
slice_bounds-put_wait-start c = let h = filled_ends (place_text _ _ _) (λ k. k) c.loop-j.invariant c.loop-j-test.true in search rules

pub put_wait-k-requires : goal.put_wait-k-requires
put_wait-k-requires c = let h = c.requires in (h.0, h.1, omega (arith, c.loop-j-test.true, c.lock_count-n.ensures.small), omega (arith, c.loop-j-test.true, c.lock_count-n.ensures.is), filled_fits (place_text _ _ _) (λ k. k) c.loop-j.invariant c.loop-j-test.true)

pub overflow_add-at : goal.overflow_add-at
overflow_add-at c = let h = filled_sum (place_text _ _ _) (λ k. k) c.loop-j.invariant c.loop-j-test.true c.put_wait-k.ensures in search rules

pub loop-j-preserved : goal.loop-j-preserved
loop-j-preserved c = filled_more (place_text _ _ _) (λ k. k) c.loop-j.invariant c.loop-j-test.true c.put_wait-k.ensures

pub shape_of-out : goal.shape_of-out
shape_of-out c = c.loop-j.invariant.same

pub returns : goal.returns
returns c = filled_all (place_text _ _ _) (λ k. k) c.loop-j.invariant c.loop-j-test.false (waits_text _ _ _ c.lock_count-n.ensures.is)
