use mathlib.Core.Path.{ap}
use lib.ListN.{get_or}
use native.Mathlib.Omega.{arith}
use Rattle.board_reserves.specs.SupplyLaws.{vcpu_range}
use Rattle.board_rules.proofs.LentLaws.{within_told}
use borrow.Author.Rules.{rules}
use Rattle.board_sures.proofs.use_within.Goals as goal

pub offset_bounds-left-i : goal.offset_bounds-left-i
offset_bounds-left-i c =
    let r = vcpu_range c.args.plan.now.view.now c.args.v c.requires.4 in
    let e = c.sub-i.ensures in search rules

pub bounds-left-i : goal.bounds-left-i
bounds-left-i c =
    let r = vcpu_range c.args.plan.now.view.now c.args.v c.requires.4 in
    let e = c.sub-i.ensures in
    let l = c.requires.0 in omega arith

pub overflow_sub-b : goal.overflow_sub-b
overflow_sub-b c =
    let e = ap (λ i. get_or c.args.left.now i 0) c.sub-i.ensures in
    let m = c.requires.5 in omega arith

pub offset_bounds-over-i : goal.offset_bounds-over-i
offset_bounds-over-i c =
    let r = vcpu_range c.args.plan.now.view.now c.args.v c.requires.4 in
    let e = c.sub-i.ensures in search rules

pub bounds-over-i : goal.bounds-over-i
bounds-over-i c =
    let r = vcpu_range c.args.plan.now.view.now c.args.v c.requires.4 in
    let e = c.sub-i.ensures in
    let l = c.requires.1 in omega arith

pub offset_bounds-left-i-2 : goal.offset_bounds-left-i-2
offset_bounds-left-i-2 c =
    let r = vcpu_range c.args.plan.now.view.now c.args.v c.requires.4 in
    let e = c.sub-i.ensures in search rules

pub bounds-left-i-2 : goal.bounds-left-i-2
bounds-left-i-2 c =
    let r = vcpu_range c.args.plan.now.view.now c.args.v c.requires.4 in
    let e = c.sub-i.ensures in
    let l = c.requires.0 in omega arith

pub returns : goal.returns
returns c = λ ws.
    let a = c.args in
    let q = c.requires in
    within_told a.plan.now.policy a.plan.now.overrun a.plan.now.view.now a.left.now a.over.now a.stopped.now a.holder.now ws q.2 (q.3 ws) a.v c.sub-i.result q.4 q.0 q.1 c.sub-i.ensures q.5
