use native.Mathlib.Omega.{arith}
use Rattle.plan_tables.specs.Layout.{lent}
use Rattle.figures_slices.specs.FitLaws.{given_fit}
use Rattle.clock_begins.specs.TableLaws.{given_paired, given_ordered, given_paced}
use Rattle.clock_begins.specs.Begins.{begins}
use Rattle.clock_begins.proofs.begin.Goals as goal

pub invariant_of-t : goal.invariant_of-t
invariant_of-t c = record { fit = given_fit _ _ c.requires.ts_value.0 }

pub fill_view-requires : goal.fill_view-requires
fill_view-requires c = let q = c.requires.ts_value in omega (arith, q.1)

pub fill_times-requires : goal.fill_times-requires
fill_times-requires c = c.requires.ts_value.2

pub start-requires : goal.start-requires
start-requires c =
    let q = c.requires in
    let l = q.left_len in
    let a = c.args in
    let t = lent a.vt.now a.mt.now a.ot.now a.ts.now in
    let v = c.fill_view.ensures in
    let x = c.fill_times.ensures in
    (l.0, l.1, l.2, l.3, l.4, l.5, l.6, given_paired a.r t q.ts_value.0 _ x _ v, given_ordered a.r t q.ts_value.0 _ x, given_paced a.r t q.ts_value.0 _ x _ v)

pub returns : goal.returns
returns c =
    let a = c.args in
    let t = lent a.vt.now a.mt.now a.ot.now a.ts.now in
    begins a.r t c.requires.ts_value.0 _ _ c.fill_view.ensures c.fill_times.ensures c.start.ensures
