-- `text_lines::place` meets its contract.
use Rattle.text_lines.specs.Code.{place_of}
use Rattle.text_lines.proofs.place.Goals as goal

pub returns-then-later : goal.returns-then-later
unfolding place_of
returns-then-later c = rw c.if-later.true

pub returns-else-later : goal.returns-else-later
unfolding place_of
returns-else-later c = rw c.if-later.false
