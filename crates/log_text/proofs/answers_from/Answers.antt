-- `answers_from` meets its contract.
use mathlib.Core.Path.{refl, ◌∙◌}
use Rattle.log_answers.specs.TellLaws.{written_wrote}
use Rattle.listing_lines.specs.IntoLaws.{tested_room, tested_in, tested_out}
use Rattle.log_text.proofs.answers_from.Goals as goal

pub answers-n-requires : goal.answers-n-requires
answers-n-requires c =
    let f = c.answers_fit.ensures in
    let a = c.requires in
    (a.0, λ e. rw f.out_unchanged (tested_room f.room_for c.if-answers_fit.true), a.2)

pub returns-then-answers_fit : goal.returns-then-answers_fit
returns-then-answers_fit c =
    let f = c.answers_fit.ensures in let h = tested_in f.room_for refl c.if-answers_fit.true (rw f.out_unchanged at (written_wrote (c.answers-n.ensures.value, c.answers-n.ensures.out_after))) in record { value = h.0; out_after = h.1 }

pub returns : goal.returns
returns c =
    let f = c.answers_fit.ensures in
    let z = tested_out f.room_for refl c.if-answers_fit.false in record { value = z.0; out_after = f.out_unchanged ∙ z.1 }
