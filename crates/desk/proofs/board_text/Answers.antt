-- `board_text` meets its contract.
use mathlib.Core.Path.{sym, ◌∙◌}
use borrow.Author.Tests.{ltb-false}
use Rattle.desk.specs.Told.{plan_printed, events_printed, board_printed}
use Rattle.desk.proofs.board_text.Goals as goal

pub returns-then-too_large : goal.returns-then-too_large
returns-then-too_large c = let h = plan_printed _ _ _ (sym c.too_large.ensures ∙ c.if-too_large.true) c.no_room.ensures (c.refusal_text.ensures.value, c.refusal_text.ensures.out_after) in record { value = h.0; out_after = h.1 }

pub returns-then-too_large-2 : goal.returns-then-too_large-2
returns-then-too_large-2 c = let h = events_printed _ _ _ (sym c.too_large-2.ensures ∙ c.if-too_large-2.true) c.no_room-then-too_large-2.ensures (c.refusal_text-then-too_large-2.ensures.value, c.refusal_text-then-too_large-2.ensures.out_after) in record { value = h.0; out_after = h.1 }

pub text_of-requires : goal.text_of-requires
text_of-requires c = ltb-false _ _ (sym c.too_large-2.ensures ∙ c.if-too_large-2.false)

pub returns : goal.returns
returns c = let h = board_printed _ _ _ (sym c.too_large.ensures ∙ c.if-too_large.false) (sym c.too_large-2.ensures ∙ c.if-too_large-2.false) (c.text_of.ensures.value, c.text_of.ensures.out_after) in record { value = h.0; out_after = h.1 }
