-- `local_blocking` meets its contract.
use Rattle.figures.specs.Figures.{local_blocking}
use Rattle.figures.specs.PartLaws.{is_sum, is_times}
use Rattle.figures.specs.Parts.{greatest_local, lower_sum}
use mathlib.Core.Path.{refl}
use native.Mathlib.Omega.{arith}
use native.Mathlib.Nat.{mul-le-mul}
use Prim.Native.Nat.{◌+◌, ◌*◌, ◌≤◌}
use lib.ListN.{get_or}
use Rattle.figures_stored.proofs.local_blocking.Goals as goal

pub overflow_add-result-3 : goal.overflow_add-result-3
overflow_add-result-3 c = omega (arith, c.requires.0.counts.at _ c.requires.1)

pub overflow_mul-result-2 : goal.overflow_mul-result-2
overflow_mul-result-2 c =
    let n = get_or c.args.tf.now (c.args.i * 5 + 2) 0 in
    let few : n + 1 ≤ 9 = omega (arith, (c.requires.0.counts.at _ c.requires.1).small) in
    let sum : c.greatest_local-longest.result + c.lower_sum-sum.result ≤ 65000000 = omega (arith, c.greatest_local-longest.ensures.small, c.lower_sum-sum.ensures.small) in
    omega (arith, mul-le-mul sum few)

pub returns : goal.returns
unfolding local_blocking greatest_local lower_sum
returns c =
    let h = c.requires in
    is_times {k = 65000000} {l = 9} (is_sum c.greatest_local-longest.ensures c.lower_sum-sum.ensures)
    (is_sum {l = 1} (h.0.counts.at _ h.1) (record { is = refl; small = omega arith }))
