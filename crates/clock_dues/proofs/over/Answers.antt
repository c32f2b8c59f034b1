use Prim.Native.Nat.{◌+◌}
use mathlib.Core.Path.{ap, ◌∙◌}
use native.Mathlib.Omega.{arith}
use lib.ListN.{get_or}
use Rattle.clock_dues.specs.Places.{over_is}
use Rattle.clock_dues.proofs.over.Goals as goal

pub overflow_add-at : goal.overflow_add-at
overflow_add-at c =
    let e = c.at-2.ensures ∙ ap (λ s. get_or c.args.marks.now (163 + s) 0) c.seat-s.ensures.0 in
    omega (arith, e, c.requires.4)

pub returns : goal.returns
returns c =
    over_is c.args.times.now c.args.marks.now (record { from = c.requires.0; to = c.requires.1 }) (record { from = c.requires.2; to = c.requires.3 }) c.seat-s.ensures.0 c.at.ensures c.at-2.ensures
    c.mutex_at.ensures
