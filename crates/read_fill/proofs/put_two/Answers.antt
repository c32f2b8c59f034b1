-- `read_fill::put_two` meets its contract.
use Prim.Native.Nat.{◌+◌}
use mathlib.Core.Path.{ap, ◌∙◌}
use Rattle.read_fill.specs.Fill.{put_if}
use Rattle.read_fill.proofs.put_two.Goals as goal

pub returns : goal.returns
returns c =
    let a = c.args in
    c.put-2.ensures ∙ ap (λ d. put_if a.on d (a.k + 1) a.b) c.put.ensures
