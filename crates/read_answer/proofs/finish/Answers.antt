-- `read_answer::finish` meets its contract.
use Rattle.std.specs.Prelude.{Ok}
use mathlib.Core.Path.{ap}
use Rattle.read_answer.specs.Judged.{finish_by}
use Rattle.read_answer.proofs.finish.Goals as goal

pub returns-then-ok : goal.returns-then-ok
unfolding finish_by
returns-then-ok c = simp c.if-ok.true (ap Ok c.record_of.ensures)

pub returns-else-ok : goal.returns-else-ok
unfolding finish_by
returns-else-ok c = simp c.if-ok.false c.refuse.ensures
