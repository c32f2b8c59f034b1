-- `text_written::written_of` meets its contract.
use mathlib.Core.Path.{ap, sym, ◌∙◌}
use Rattle.text_written.specs.Code.{written_by}
use Rattle.text_written.specs.CodeLaws.{written_code}
use Rattle.text_written.proofs.written_of.Goals as goal

pub returns : goal.returns
unfolding written_by
returns c =
    let a = c.args in
    ap (λ n. written_by n a.a a.b a.c a.d a.e) c.size_of-n.ensures ∙ sym (written_code a.kind a.a a.b a.c a.d a.e)
