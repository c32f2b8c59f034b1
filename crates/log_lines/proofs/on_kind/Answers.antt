-- `log_answers::on_kind` meets its contract.
use Rattle.log_lines.proofs.on_kind.Goals as goal

pub returns : goal.returns
returns c = rw (c.on_told.ensures, c.event_in-t.ensures, c.written_of-ok.ensures)
