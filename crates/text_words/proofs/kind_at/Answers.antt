-- `text_lines::kind_at` meets its contract.
use mathlib.Core.Path.{ap₂, ◌∙◌}
use Rattle.text_words.specs.Keys.{line_kind}
use Rattle.text_words.proofs.kind_at.Goals as goal

pub returns : goal.returns
returns c =
    let a = c.args in
    c.line_kind.ensures ∙ ap₂ (λ f x. f x) (ap₂ (line_kind a.c) c.key.ensures c.key-2.ensures) c.key-3.ensures
