-- `log_replies::next_parts` meets its contract.
use mathlib.Core.Path.{ap, sym}
use Rattle.log_replies.specs.Parts.{next_parts}
use Rattle.log_replies.proofs.next_parts.Goals as goal

pub returns-in-Nobody : goal.returns-in-Nobody
returns-in-Nobody c = ap next_parts (sym c.in-Nobody.is)

pub returns-in-To : goal.returns-in-To
returns-in-To c = ap next_parts (sym c.in-To.is)
