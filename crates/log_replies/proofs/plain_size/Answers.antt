-- `log_replies::plain_size` meets its contract.
use Rattle.log_replies.specs.PartsLaws.{granted_sized, waits_sized, freed_sized}
use Rattle.log_replies.proofs.plain_size.Goals as goal

pub returns-then-word-eq0 : goal.returns-then-word-eq0
returns-then-word-eq0 c = granted_sized c.args.word c.if-word-eq0.true

pub returns-then-word-eq1 : goal.returns-then-word-eq1
returns-then-word-eq1 c = waits_sized c.args.word c.if-word-eq0.false c.if-word-eq1.true

pub returns : goal.returns
returns c = freed_sized c.args.word c.if-word-eq0.false c.if-word-eq1.false
