-- `text_lines::said_after` meets its contract.
use mathlib.Core.Path.{◌∙◌}
use Rattle.laws.specs.Steps.{head_part, drop_part}
use Rattle.plan.specs.Limits.{tab}
use Rattle.text_lines.proofs.Laws.{after_told}
use Rattle.text_lines.proofs.said_after.Goals as goal

pub returns : goal.returns
returns c =
    let u = c.past-u.result.now in
    let t = c.args.t.now in
    after_told _ _ _ (c.upto-x.ensures ∙ head_part tab t _ c.cut-n.ensures) (c.past-u.ensures ∙ drop_part tab t _ c.cut-n.ensures) (c.upto-y.ensures ∙ head_part tab u _ c.cut-m.ensures) (c.past-v.ensures ∙ drop_part tab u _ c.cut-m.ensures) c.kind_at.ensures c.said_fields.ensures
