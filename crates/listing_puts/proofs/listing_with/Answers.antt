-- `listing_with` meets its contract.
use borrow.Author.Rules.{rules}
use Rattle.listing_puts.proofs.listing_with.Goals as goal

pub put_answered-requires : goal.put_answered-requires
put_answered-requires c = (c.fill_answers.ensures, c.rising-n.ensures, search rules)

pub shape_of-tf : goal.shape_of-tf
shape_of-tf c = c.fill_answers.auto.tf

pub shape_of-rf : goal.shape_of-rf
shape_of-rf c = c.fill_answers.auto.rf

pub shape_of-wa : goal.shape_of-wa
shape_of-wa c = c.fill_answers.auto.wa

pub shape_of-ta : goal.shape_of-ta
shape_of-ta c = c.fill_answers.auto.ta

pub shape_of-out : goal.shape_of-out
shape_of-out c = c.put_answered.auto.out

pub returns : goal.returns
returns c = record { value = c.put_answered.ensures.value; out_after = c.put_answered.ensures.out_after }
