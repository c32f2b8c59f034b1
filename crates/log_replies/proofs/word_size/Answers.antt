-- `log_replies::word_size` meets its contract.
use Rattle.log_replies.specs.PartsLaws.{five_sized, four_sized}
use Rattle.log_replies.proofs.word_size.Goals as goal

pub returns-then-word-eq0 : goal.returns-then-word-eq0
returns-then-word-eq0 c = five_sized c.args.word c.if-word-eq0.true

pub returns : goal.returns
returns c = four_sized c.args.word c.if-word-eq0.false
