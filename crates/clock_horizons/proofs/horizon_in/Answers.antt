-- `clock_horizons::horizon_in` meets its contract.
use borrow.Author.Rules.{rules}
use Prim.Native.Nat.{◌+◌}
use mathlib.Core.Path.{sym, ◌∙◌}
use native.Mathlib.Omega.{arith}
use Rattle.laws.specs.Steps.{take_rest, head_count}
use Rattle.plan.specs.Limits.{tab}
use Rattle.clock_horizons.specs.HorizonLaws.{cut_within, line_one, line_two, line_more}
use Rattle.clock_horizons.proofs.horizon_in.Goals as goal

pub returns-then-n-l : goal.returns-then-n-l
returns-then-n-l c = sym (line_one c.args.l.now _ c.cut-n.ensures c.if-n-l.true)

pub overflow_add-f : goal.overflow_add-f
overflow_add-f c = let h = cut_within tab c.args.l.now _ c.cut-n.ensures c.if-n-l.false in search rules

pub slice_bounds-f-count : goal.slice_bounds-f-count
slice_bounds-f-count c = let h = cut_within tab c.args.l.now _ c.cut-n.ensures c.if-n-l.false in search rules

pub slice_bounds-f-start : goal.slice_bounds-f-start
slice_bounds-f-start c = let h = cut_within tab c.args.l.now _ c.cut-n.ensures c.if-n-l.false in search rules

pub returns-then-m-f : goal.returns-then-m-f
returns-then-m-f c =
    let l = c.args.l.now in
    sym (line_more l c.cut-n.result c.cut-n.ensures c.if-n-l.false _ (take_rest (c.cut-n.result + 1) l) _ c.cut-m.ensures (λ e. omega arith))

pub slice_bounds-horizon_fields-end : goal.slice_bounds-horizon_fields-end
slice_bounds-horizon_fields-end c = let k = c.cut-n in head_count tab _ k.result k.ensures

pub returns : goal.returns
returns c =
    let l = c.args.l.now in
    c.horizon_fields.ensures
    ∙ sym (line_two l c.cut-n.result c.cut-n.ensures c.if-n-l.false _ (take_rest (c.cut-n.result + 1) l) _ c.cut-m.ensures (omega arith))
