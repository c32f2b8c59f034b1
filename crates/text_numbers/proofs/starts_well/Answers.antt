-- `text_numbers::starts_well` meets its contract.
use Rattle.laws.specs.Steps.{starts_one, starts_none, starts_more}
use Rattle.text_numbers.proofs.starts_well.Goals as goal

pub returns-then-s-eq1 : goal.returns-then-s-eq1
returns-then-s-eq1 c = starts_one _ c.if-s-eq1.true

pub returns-then-s-eq0 : goal.returns-then-s-eq0
returns-then-s-eq0 c = starts_none _ c.if-s-eq0.true

pub returns : goal.returns
returns c = starts_more c.args.s.now c.if-s-eq1.false c.if-s-eq0.false
