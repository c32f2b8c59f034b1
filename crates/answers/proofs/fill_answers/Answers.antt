-- `fill_answers` meets its contract.
use Rattle.answers_told.specs.ReadLaws.{answers_in_law}
use borrow.Author.Rules.{rules}
use Rattle.answers.proofs.fill_answers.Goals as goal

pub answers-requires : goal.answers-requires
answers-requires c = let p = c.requires in record { stored = c.stored.ensures; in_bounds = (search rules, search rules, search rules, p.2, p.3, p.4) }

pub shape_of-tf : goal.shape_of-tf
shape_of-tf c = c.stored.auto.tf

pub shape_of-rf : goal.shape_of-rf
shape_of-rf c = c.stored.auto.rf

pub shape_of-va : goal.shape_of-va
shape_of-va c = c.answers.auto.va

pub shape_of-wa : goal.shape_of-wa
shape_of-wa c = c.answers.auto.wa

pub shape_of-ta : goal.shape_of-ta
shape_of-ta c = c.answers.auto.ta

pub returns : goal.returns
returns c = let p = c.requires in
    let a = c.answers in
    answers_in_law c.args.t.now.fit c.args.va.now c.args.wa.now c.args.ta.now
    p.2 a.auto.va a.ensures.0
    p.3 a.auto.wa a.ensures.1
    p.4 a.auto.ta a.ensures.2
