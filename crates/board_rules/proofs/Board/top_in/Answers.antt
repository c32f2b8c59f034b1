use mathlib.Core.Path.{sym, ◌∙◌}
use borrow.Author.Tests.{not-true, not-false}
use Rattle.board_reserves.specs.SupplyLaws.{vcpu_range}
use Rattle.board_rules.specs.BoardLaws.{top_unknown, top_known}
use Rattle.board_rules.specs.Lent.{board_of}
use mathlib.Core.Bool.{not}
use mathlib.Core.Path.{ap}
use Rattle.board_rules.proofs.Board.top_in.Goals as goal

pub returns-then-not-has_vcpu : goal.returns-then-not-has_vcpu
returns-then-not-has_vcpu c = λ ws. let a = c.args in
    sym (top_unknown a.plan.now.policy a.plan.now.overrun a.plan.now.view.now (board_of a.left.now a.over.now a.stopped.now a.holder.now ws) a.v (sym c.has_vcpu.ensures ∙ not-true _ (ap not c.if-not-has_vcpu.true)))

pub topped-requires : goal.topped-requires
topped-requires c = let a = c.args in
    let q = c.requires in
    let r = vcpu_range a.plan.now.view.now a.v (sym c.has_vcpu.ensures ∙ not-false _ (ap not c.if-not-has_vcpu.false)) in (r.0, r.1, q.0, q.1, q.2)

pub returns : goal.returns
returns c = λ ws. let a = c.args in
    c.topped.ensures a.plan.now.policy a.plan.now.overrun a.holder.now ws (c.requires.3 ws)
    ∙ sym (top_known a.plan.now.policy a.plan.now.overrun a.plan.now.view.now (board_of a.left.now a.over.now a.stopped.now a.holder.now ws) a.v (sym c.has_vcpu.ensures ∙ not-false _ (ap not c.if-not-has_vcpu.false)))
