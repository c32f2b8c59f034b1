-- `text_letters::choice_size` meets its contract. Assumes nothing.
use mathlib.Core.Path.{refl}
use Rattle.text_letters.specs.TabbedLaws.{choice_number, choice_word}
use Rattle.text_letters.specs.SizeLaws.{sized_as}
use Rattle.text_letters.proofs.choice_size.Goals as goal

pub returns-then-c : goal.returns-then-c
returns-then-c c = let a = c.args in sized_as (choice_number a.n a.w.now c.if-c.true) c.number_size.ensures

pub returns : goal.returns
returns c = let a = c.args in sized_as (choice_word a.n a.w.now c.if-c.false) (record { is = refl; small = c.requires })
