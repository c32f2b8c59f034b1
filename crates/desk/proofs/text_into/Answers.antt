-- `text_into` meets its contract.
use Rattle.figures_slices.specs.FitLaws.{given_fit}
use Rattle.desk.specs.Told.{answers_told, listing_told}
use Rattle.desk.proofs.text_into.Goals as goal

pub returns-then-on : goal.returns-then-on
returns-then-on c = let h = answers_told _ _ _ _ c.if-on.true (c.answers_into.ensures.value, c.answers_into.ensures.out_after) in record { value = h.0; out_after = h.1 }

pub invariant_of-t : goal.invariant_of-t
invariant_of-t c = record { fit = given_fit _ _ c.requires.0 }

pub returns : goal.returns
returns c = let h = listing_told _ _ _ _ c.if-on.false (c.listing_into.ensures.value, c.listing_into.ensures.out_after) in record { value = h.0; out_after = h.1 }
