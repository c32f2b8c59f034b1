-- `clock_horizons::horizon_from` meets its contract.
use borrow.Author.Rules.{rules}
use mathlib.Core.Path.{sym, ◌∙◌}
use native.Mathlib.Omega.{arith}
use Rattle.laws.specs.Steps.{head_count}
use Rattle.plan.specs.Limits.{lf}
use Rattle.clock_horizons.specs.HorizonLaws.{lf_within, text_one, text_other}
use Rattle.clock_horizons.proofs.horizon_from.Goals as goal

pub overflow_sub-src : goal.overflow_sub-src
overflow_sub-src c = let h = lf_within c.args.src.now _ c.cut-n.ensures in search rules

pub returns-then-src-n-ne1 : goal.returns-then-src-n-ne1
returns-then-src-n-ne1 c =
    sym (text_other c.args.src.now c.cut-n.result c.cut-n.ensures (λ e. omega arith))

pub slice_bounds-horizon_in-end : goal.slice_bounds-horizon_in-end
slice_bounds-horizon_in-end c = let k = c.cut-n in head_count lf _ k.result k.ensures

pub returns : goal.returns
returns c =
    c.horizon_in.ensures ∙ sym (text_one c.args.src.now c.cut-n.result c.cut-n.ensures (omega arith))
