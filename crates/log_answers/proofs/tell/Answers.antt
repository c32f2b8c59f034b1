-- `log_answers::tell` meets its contract.
use native.Mathlib.Omega.{arith}
use Rattle.log_answers.specs.TellLaws.{adds_written, adds_counted}
use Rattle.log_answers.proofs.tell.Goals as goal

pub line_at-requires : goal.line_at-requires
line_at-requires c = c.requires.written c.if-on.true

pub returns-then-on : goal.returns-then-on
returns-then-on c = adds_written c.if-on.true c.line_at.ensures

pub overflow_add-result : goal.overflow_add-result
overflow_add-result c = omega (arith, c.requires.counted c.if-on.false, c.answer_size.ensures.small)

pub returns : goal.returns
returns c = let a = c.args in adds_counted a.out.now a.n c.if-on.false c.answer_size.ensures
