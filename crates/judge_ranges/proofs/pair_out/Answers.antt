use mathlib.Core.Path.{refl}
use Rattle.judge_ranges.proofs.Laws.{out_told}
use Rattle.judge_ranges.proofs.pair_out.Goals as goal

pub returns : goal.returns
returns c =
    out_told 2 c.within-2.ensures (out_told _ c.within.ensures refl c.out-second.ensures) c.out.ensures
