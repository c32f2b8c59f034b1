-- `answers_into` meets its contract.
use Rattle.figures_slices.specs.FitLaws.{given_fit}
use Rattle.board_rules.proofs.Marked.{view_marked}
use Rattle.log_text.specs.Viewed.{view_short, view_text}
use Rattle.log_text.proofs.answers_into.Goals as goal

pub invariant_of-t : goal.invariant_of-t
invariant_of-t c = record { fit = given_fit _ _ c.requires.0 }

pub answers_from-requires : goal.answers_from-requires
answers_from-requires c =
    (c.requires.1, view_short _ _ _ c.requires.0 c.fill_view.ensures _ _ c.fresh-b.ensures, view_marked _ _ _ _ (c.fresh-b.ensures _ _))

pub returns : goal.returns
returns c = let h = view_text _ _ _ c.requires.0 c.fill_view.ensures _ _ c.fresh-b.ensures _ (c.answers_from.ensures.value, c.answers_from.ensures.out_after) in record { value = h.0; out_after = h.1 }
