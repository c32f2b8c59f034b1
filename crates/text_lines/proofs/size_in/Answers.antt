-- `text_lines::size_in` meets its contract.
use mathlib.Core.Path.{ap, sym, ◌∙◌}
use Rattle.text_lines.specs.Code.{size_in}
use Rattle.text_lines.proofs.size_in.Goals as goal

pub returns-in-Some : goal.returns-in-Some
returns-in-Some c = c.size_of.ensures ∙ ap size_in (sym c.in-Some.is)
