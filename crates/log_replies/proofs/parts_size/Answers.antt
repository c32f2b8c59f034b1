-- `log_replies::parts_size` meets its contract.
use mathlib.Core.List.{[], ◌∷◌}
use native.Mathlib.Omega.{arith}
use Rattle.laws.specs.Decimal.{decimal}
use Rattle.listing.specs.Listing.{w_refused}
use Rattle.text_letters.specs.SizeLaws.{sized_as, rest_sized, end_sized}
use Rattle.listing_lines.specs.SizeLaws.{line_sized}
use Rattle.log_replies.specs.Parts.{pair_word}
use Rattle.log_replies.specs.PartsLaws.{parts_none, parts_one, parts_two, sized_le, line_sized_by}
use Rattle.log_replies.proofs.parts_size.Goals as goal

pub returns-then-count-eq0 : goal.returns-then-count-eq0
returns-then-count-eq0 c =
    let a = c.args in
    sized_as (parts_none a.count a.word a.x a.y c.if-count-eq0.true) (sized_le (omega arith) c.plain_size.ensures)

pub returns-then-count-eq1 : goal.returns-then-count-eq1
returns-then-count-eq1 c =
    let a = c.args in
    sized_as (parts_one a.count a.word a.x a.y c.if-count-eq0.false c.if-count-eq1.true)
    (sized_le (omega arith) (line_sized w_refused (decimal a.x ∷ []) (rest_sized [] c.number_size-one.ensures end_sized)))

pub returns : goal.returns
returns c =
    let a = c.args in
    sized_as (parts_two a.count a.word a.x a.y c.if-count-eq0.false c.if-count-eq1.false)
    (sized_le (omega arith)
    (line_sized_by (pair_word a.word) (decimal a.x ∷ decimal a.y ∷ []) c.word_size-w.ensures
    (rest_sized (decimal a.y ∷ []) c.number_size-one.ensures (rest_sized [] c.number_size-two.ensures end_sized))))
