-- `verdict_text` meets its contract.
use mathlib.Core.Path.{sym, ◌∙◌}
use borrow.Author.Tests.{ltb-false}
use Rattle.desk.specs.Told.{large_printed, verdict_printed}
use Rattle.desk.proofs.verdict_text.Goals as goal

pub returns-then-too_large : goal.returns-then-too_large
returns-then-too_large c = let h = large_printed _ _ (sym c.too_large.ensures ∙ c.if-too_large.true) c.no_room.ensures (c.refusal_text.ensures.value, c.refusal_text.ensures.out_after) in record { value = h.0; out_after = h.1 }

pub text_of-requires : goal.text_of-requires
text_of-requires c = ltb-false _ _ (sym c.too_large.ensures ∙ c.if-too_large.false)

pub returns : goal.returns
returns c = let h = verdict_printed _ _ (sym c.too_large.ensures ∙ c.if-too_large.false) (c.text_of.ensures.value, c.text_of.ensures.out_after) in record { value = h.0; out_after = h.1 }
