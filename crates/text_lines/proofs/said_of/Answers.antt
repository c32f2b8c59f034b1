-- `text_lines::said_of` meets its contract.
use mathlib.Core.Path.{◌∙◌}
use native.Mathlib.Omega.{arith}
use Rattle.laws.specs.Steps.{head_part, drop_part}
use Rattle.plan.specs.Limits.{tab}
use Rattle.text_words.specs.KeyLaws.{small_slice}
use Rattle.text_lines.proofs.Laws.{line_told}
use Rattle.text_lines.proofs.said_of.Goals as goal

pub returns : goal.returns
returns c =
    let l = c.args.line.now in
    line_told l (small_slice l (λ i. omega (arith, c.shared_slice_known-1.given i))) (c.upto-w.ensures ∙ head_part tab l _ c.cut-n.ensures) (c.past-t.ensures ∙ drop_part tab l _ c.cut-n.ensures) c.tally.ensures c.said_after.ensures
