use mathlib.Core.Path.{refl}
use Rattle.plan.specs.Line.{shape}
use Rattle.plan.specs.Fields.{first_out, ranges}
use Rattle.judge_ranges.proofs.Laws.{out_told}
use Rattle.judge_ranges.proofs.task_out.Goals as goal

pub returns : goal.returns
unfolding first_out ranges shape
returns c =
    let third = out_told 4 c.within.ensures refl c.out-third.ensures in
    let second = out_told 3 c.within-2.ensures third c.out-second.ensures in
    out_told 2 c.within-3.ensures second c.out.ensures
