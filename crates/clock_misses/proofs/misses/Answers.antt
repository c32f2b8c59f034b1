-- `misses` meets its contract.
use Prim.Native.Nat.{◌+◌}
use mathlib.Core.Bool.{◌&&◌}
use mathlib.Core.Path.{◌∙◌, ap, ap₂}
use lib.Dec.{eqb, ltb}
use lib.ListN.{get_or}
use Rattle.clock_misses.proofs.misses.Goals as goal

pub returns : goal.returns
returns c =
    let a = c.args in
    let e = c.seat-s.ensures.0 in
    c.both.ensures
    ∙ ap₂ ◌&&◌ (c.is_due.ensures ∙ ap (λ i. eqb (get_or a.nexts.now (15 + i) 0) a.t) e)
    (ap₂ ltb (c.at.ensures ∙ ap (λ i. get_or a.marks.now (163 + i) 0) e) (c.at-2.ensures ∙ ap (λ i. get_or a.times.now (159 + i) 0) e))
