-- `text_letters::put_choice` meets its contract. Assumes nothing.
use Rattle.text_letters.specs.WroteLaws.{wrote_as, fits_as}
use Rattle.text_letters.specs.TabbedLaws.{choice_number, choice_word}
use Rattle.text_letters.proofs.put_choice.Goals as goal

pub put_number-requires : goal.put_number-requires
put_number-requires c =
    let a = c.args in fits_as (choice_number a.n a.w.now c.if-c.true) c.requires

pub returns-then-c : goal.returns-then-c
returns-then-c c =
    let a = c.args in wrote_as (choice_number a.n a.w.now c.if-c.true) c.put_number.ensures

pub put-requires : goal.put-requires
put-requires c =
    let a = c.args in fits_as (choice_word a.n a.w.now c.if-c.false) c.requires

pub returns : goal.returns
returns c =
    let a = c.args in wrote_as (choice_word a.n a.w.now c.if-c.false) c.put.ensures
