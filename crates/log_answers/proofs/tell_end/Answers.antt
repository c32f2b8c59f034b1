-- `log_answers::tell_end` meets its contract.
use Rattle.log_replies.specs.Parts.{end_text}
use Rattle.log_replies.specs.PartsLaws.{end_none, end_some}
use Rattle.log_answers.specs.TellLaws.{adds_nothing, space_as, adds_as}
use Rattle.log_answers.proofs.tell_end.Goals as goal

pub returns-then-k-eq0 : goal.returns-then-k-eq0
returns-then-k-eq0 c = adds_nothing (end_text c.args.k) c.args.out.now c.args.n c.requires (end_none c.args.k c.if-k-eq0.true)

pub tell-requires : goal.tell-requires
tell-requires c =
    space_as (end_some c.args.k c.if-k-eq0.false _ c.unended-a.ensures) c.requires

pub returns : goal.returns
returns c =
    adds_as (end_some c.args.k c.if-k-eq0.false _ c.unended-a.ensures) c.tell.ensures
