-- `text_lines::pick` meets its contract.
use Rattle.text_lines.specs.Code.{pick_of}
use Rattle.text_lines.proofs.pick.Goals as goal

pub returns-then-ok : goal.returns-then-ok
unfolding pick_of
returns-then-ok c = rw c.if-ok.true

pub returns-else-ok : goal.returns-else-ok
unfolding pick_of
returns-else-ok c = rw c.if-ok.false
