-- `log_replies::parts_of` meets its contract.
use mathlib.Core.Path.{ap, sym, ◌∙◌}
use Rattle.log_replies.specs.Parts.{parts_of}
use Rattle.log_replies.proofs.parts_of.Goals as goal

pub returns-in-Granted : goal.returns-in-Granted
returns-in-Granted c = ap parts_of (sym c.in-Granted.is)

pub returns-in-Waits : goal.returns-in-Waits
returns-in-Waits c = ap parts_of (sym c.in-Waits.is)

pub returns-in-Freed : goal.returns-in-Freed
returns-in-Freed c = c.next_parts.ensures ∙ ap parts_of (sym c.in-Freed.is)

pub returns-in-Left : goal.returns-in-Left
returns-in-Left c = ap parts_of (sym c.in-Left.is)

pub returns-in-Shows : goal.returns-in-Shows
returns-in-Shows c = ap parts_of (sym c.in-Shows.is)

pub returns-in-Refused : goal.returns-in-Refused
returns-in-Refused c = c.refused_parts.ensures ∙ ap parts_of (sym c.in-Refused.is)
