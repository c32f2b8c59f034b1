-- `log_replies::parts_line` meets its contract.
use Rattle.text_letters.specs.WroteLaws.{wrote_as, fits_as}
use Rattle.log_replies.specs.PartsLaws.{parts_none, parts_one, parts_two}
use Rattle.log_replies.proofs.parts_line.Goals as goal

pub plain_line-requires : goal.plain_line-requires
plain_line-requires c = let a = c.args in fits_as (parts_none a.count a.word a.x a.y c.if-count-eq0.true) c.requires

pub returns-then-count-eq0 : goal.returns-then-count-eq0
returns-then-count-eq0 c = let a = c.args in wrote_as (parts_none a.count a.word a.x a.y c.if-count-eq0.true) c.plain_line.ensures

pub one_line-requires : goal.one_line-requires
one_line-requires c =
    let a = c.args in
    fits_as (parts_one a.count a.word a.x a.y c.if-count-eq0.false c.if-count-eq1.true) c.requires

pub returns-then-count-eq1 : goal.returns-then-count-eq1
returns-then-count-eq1 c =
    let a = c.args in
    wrote_as (parts_one a.count a.word a.x a.y c.if-count-eq0.false c.if-count-eq1.true) c.one_line.ensures

pub pair_line-requires : goal.pair_line-requires
pair_line-requires c =
    let a = c.args in
    fits_as (parts_two a.count a.word a.x a.y c.if-count-eq0.false c.if-count-eq1.false) c.requires

pub returns : goal.returns
returns c =
    let a = c.args in
    wrote_as (parts_two a.count a.word a.x a.y c.if-count-eq0.false c.if-count-eq1.false) c.pair_line.ensures
