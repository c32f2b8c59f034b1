use native.Mathlib.Omega.{arith}
use Rattle.plan.specs.JudgeLaws.{clear_test}
use Rattle.board_reserves.specs.SupplyLaws.{vcpu_range}
use Rattle.board_rules.proofs.LentLaws.{sure_used}
use borrow.Author.Rules.{rules}
use Rattle.board_sures.proofs.use_sure.Goals as goal

pub offset_bounds-left-i : goal.offset_bounds-left-i
offset_bounds-left-i c =
    let r = vcpu_range c.args.plan.now.view.now c.args.v (clear_test _ _ _ c.requires.v_value.0) in
    let e = c.sub-i.ensures in search rules

pub bounds-left-i : goal.bounds-left-i
bounds-left-i c =
    let r = vcpu_range c.args.plan.now.view.now c.args.v (clear_test _ _ _ c.requires.v_value.0) in
    let e = c.sub-i.ensures in
    let l = c.requires.left_len.0 in omega arith

pub offset_bounds-over-i : goal.offset_bounds-over-i
offset_bounds-over-i c =
    let r = vcpu_range c.args.plan.now.view.now c.args.v (clear_test _ _ _ c.requires.v_value.0) in
    let e = c.sub-i.ensures in search rules

pub bounds-over-i : goal.bounds-over-i
bounds-over-i c =
    let r = vcpu_range c.args.plan.now.view.now c.args.v (clear_test _ _ _ c.requires.v_value.0) in
    let e = c.sub-i.ensures in
    let l = c.requires.left_len.1 in omega arith

pub bounds-stopped-i : goal.bounds-stopped-i
bounds-stopped-i c =
    let r = vcpu_range c.args.plan.now.view.now c.args.v (clear_test _ _ _ c.requires.v_value.0) in
    let e = c.sub-i.ensures in
    let l = c.requires.left_len.2 in omega arith

pub returns : goal.returns
returns c = λ ws.
    let a = c.args in
    let q = c.requires.left_len in
    sure_used a.plan.now.policy a.plan.now.overrun a.plan.now.view.now a.left.now a.over.now a.stopped.now a.holder.now ws q.2 (q.3 ws) a.v c.sub-i.result c.requires.v_value.0 q.0 q.1 c.sub-i.ensures
    c.budget_after-b.ensures c.overrun_after-o.ensures c.requires.v_value.1 c.mark_by-mark.ensures
