use Rattle.clock_spends.specs.AllSpending.{ready_needs, ready_next, spent_all}
use mathlib.Core.Path.{◌∙◌}
use native.Mathlib.Omega.{arith}
use Rattle.clock_spends.proofs.spend_all.Goals as goal

pub spend-requires : goal.spend-requires
spend-requires c = ready_needs c.requires.ready (omega arith)

pub spend-requires-2 : goal.spend-requires-2
spend-requires-2 c =
    let r₁ = ready_next c.requires.ready (omega arith) c.spend.ensures in
    ready_needs r₁ (omega arith)

pub spend-requires-3 : goal.spend-requires-3
spend-requires-3 c =
    let r₁ = ready_next c.requires.ready (omega arith) c.spend.ensures in
    let r₂ = ready_next r₁ (omega arith) c.spend-2.ensures in
    ready_needs r₂ (omega arith)

pub spend-requires-4 : goal.spend-requires-4
spend-requires-4 c =
    let r₁ = ready_next c.requires.ready (omega arith) c.spend.ensures in
    let r₂ = ready_next r₁ (omega arith) c.spend-2.ensures in
    let r₃ = ready_next r₂ (omega arith) c.spend-3.ensures in
    ready_needs r₃ (omega arith)

pub shape_of-left : goal.shape_of-left
shape_of-left c = c.spend-4.ensures.lost.long ∙ c.spend-3.ensures.lost.long ∙ c.spend-2.ensures.lost.long ∙ c.spend.ensures.lost.long

pub returns : goal.returns
returns c = spent_all c.spend.ensures c.spend-2.ensures c.spend-3.ensures c.spend-4.ensures
