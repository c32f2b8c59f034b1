-- `log_answers::on_told` meets its contract.
use Rattle.log_lines.proofs.on_told.Goals as goal

pub returns-in-Some : goal.returns-in-Some
returns-in-Some c = rw c.in-Some.is c.on_event.ensures

pub returns-in-None : goal.returns-in-None
returns-in-None c = rw c.in-None.is c.refuse.ensures
