-- `put_vcpus` meets its contract: the VCPUs before this one have their budgets and overruns, and have not stopped.
use mathlib.Core.Path.{sym, ◌∙◌}
use Rattle.board_walks.specs.WalkLaws.{filled_none, filled_more, filled_all}
use Rattle.std.proofs.Common.{ap, false, replicate, rules}
use Rattle.clock_firsts.proofs.Fills.{replicate_list}
use Rattle.clock_firsts.proofs.put_vcpus.Goals as goal

pub loop-v-init : goal.loop-v-init
loop-v-init c =
    let p = c.requires in
    (filled_none p.0, filled_none p.1)

pub loop-v-preserved : goal.loop-v-preserved
loop-v-preserved c =
    let h = c.loop-v.invariant in
    let l = c.loop-v-test.true in
    (filled_more h.0 l c.budget.ensures, filled_more h.1 l c.overrun.ensures)

pub shape_of-left : goal.shape_of-left
shape_of-left c = c.loop-v.invariant.0.size ∙ sym c.requires.0

pub shape_of-over : goal.shape_of-over
shape_of-over c = c.loop-v.invariant.1.size ∙ sym c.requires.1

pub returns : goal.returns
returns c =
    let h = c.loop-v.invariant in
    let l = c.loop-v-test.false in
    (filled_all h.0 l, filled_all h.1 l, c.fill.ensures.after (λ y e. search rules) ∙ ap (λ n. replicate n false) c.requires.2 ∙ replicate_list _ false)
