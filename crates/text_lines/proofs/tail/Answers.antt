-- `text_lines::tail` meets its contract.
use mathlib.Core.Path.{◌∙◌}
use Rattle.laws.specs.Steps.{drop_part}
use Rattle.text_lines.proofs.tail.Goals as goal

pub returns : goal.returns
returns c = let a = c.args in c.past.ensures ∙ drop_part a.b a.s.now _ c.cut-n.ensures
