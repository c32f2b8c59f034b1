-- `text_lines::head` meets its contract.
use mathlib.Core.Path.{◌∙◌}
use Rattle.laws.specs.Steps.{head_part}
use Rattle.text_lines.proofs.head.Goals as goal

pub returns : goal.returns
returns c = let a = c.args in c.upto.ensures ∙ head_part a.b a.s.now _ c.cut-n.ensures
