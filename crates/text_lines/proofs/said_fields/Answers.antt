-- `text_lines::said_fields` meets its contract.
use mathlib.Core.Path.{◌∙◌}
use Rattle.laws.specs.Steps.{head_part, drop_part}
use Rattle.plan.specs.Limits.{tab}
use Rattle.text_lines.proofs.Laws.{fields_told}
use Rattle.text_lines.proofs.said_fields.Goals as goal

pub returns : goal.returns
returns c =
    let v = c.args.v.now in
    fields_told _ _ _ _ _ (c.upto-z.ensures ∙ head_part tab v _ c.cut-n.ensures) (c.past-u.ensures ∙ drop_part tab v _ c.cut-n.ensures) c.head-p.ensures c.tail-t.ensures c.head-q.ensures c.size_in.ensures c.said_by.ensures
