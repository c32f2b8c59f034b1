-- `listing_lines::task_parts` meets its contract. Assumes nothing.
use mathlib.Core.Path.{ap, sym, ◌∙◌}
use Rattle.listing_lines.specs.Lines.{task_parts}
use Rattle.listing_lines.proofs.task_parts.Goals as goal

pub returns-in-Searched : goal.returns-in-Searched
returns-in-Searched c = c.parts_of.ensures ∙ ap task_parts (sym c.in-Searched.is)

pub returns-in-NoWait : goal.returns-in-NoWait
returns-in-NoWait c = ap task_parts (sym c.in-NoWait.is)

pub returns-in-Held : goal.returns-in-Held
returns-in-Held c = ap task_parts (sym c.in-Held.is)
