-- `read_answer::room_or` meets its contract.
use Rattle.std.specs.Prelude.{Err}
use mathlib.Core.Path.{ap}
use Rattle.read_answer.specs.Judged.{room_or}
use Rattle.read_answer.proofs.room_or.Goals as goal

pub returns-then-ok : goal.returns-then-ok
unfolding room_or
returns-then-ok c = simp c.if-ok.true

pub returns-else-ok : goal.returns-else-ok
unfolding room_or
returns-else-ok c = simp c.if-ok.false (ap Err c.no_room.ensures)
