-- `log_replies::refused_parts` meets its contract.
use Rattle.log_replies.proofs.refused_parts.Goals as goal

pub returns : goal.returns
returns c = rw c.number_of-n.ensures
