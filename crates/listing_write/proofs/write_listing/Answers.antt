-- `write_listing` meets its contract.
use mathlib.Core.Path.{◌∙◌, sym}
use Rattle.figures_slices.specs.FitLaws.{given_fit}
use Rattle.listing_asked.specs.Asked.{listing_of}
use Rattle.listing_asked.proofs.AskedLaws.{foreign_answer, foreign_left, listing_answer, listing_left_law}
use Rattle.listing_write.proofs.write_listing.Goals as goal

pub returns-then-not-is_given : goal.returns-then-not-is_given
returns-then-not-is_given c = let e = c.is_given.ensures in let f = c.if-not-is_given.true in record { value = c.foreign.ensures ∙ foreign_answer listing_of _ _ _ e f; out_after = foreign_left listing_of _ _ _ e f }

pub invariant_of-t : goal.invariant_of-t
invariant_of-t c = record { fit = given_fit _ (record { vcpus = c.args.vt.now; mutexes = c.args.mt.now; opens = c.args.ot.now; tasks = c.args.ts.now }) (sym c.is_given.ensures ∙ c.if-not-is_given.false) }

pub returns : goal.returns
returns c = let e = c.is_given.ensures in let f = c.if-not-is_given.false in record { value = listing_answer _ _ _ e f c.listing_into.ensures.value; out_after = listing_left_law _ _ _ e f c.listing_into.ensures.out_after }
