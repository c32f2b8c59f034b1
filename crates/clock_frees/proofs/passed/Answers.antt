-- `passed` meets its contract.
use mathlib.Core.Path.{refl, sym, subst}
use Rattle.clock_hands.specs.Freed.{NextIn, Passed, GotGlobal, handed_global, handed_walked}
use Rattle.clock_frees.proofs.passed.Goals as goal

pub handed-requires : goal.handed-requires
handed-requires c =
    let p = c.requires in
    let q = subst NextIn c.in-To.is p.1 in
    (p.0, q.0.from, q.0.to, q.1.from, q.1.to)

pub held_now-m-requires : goal.held_now-m-requires
held_now-m-requires c = let q = subst NextIn c.in-To.is c.requires.1 in (q.0.to, q.1.to)

pub holds_global-held-requires : goal.holds_global-held-requires
holds_global-held-requires c = (subst NextIn c.in-To.is c.requires.1).0.to

pub handed-requires-else-global : goal.handed-requires-else-global
handed-requires-else-global c =
    let p = c.requires in
    let q = subst NextIn c.in-To.is p.1 in
    (p.0, q.0.from, q.0.to, q.1.from, q.1.to)

pub returns-in-Nobody : goal.returns-in-Nobody
returns-in-Nobody c =
    let a = c.args in
    subst (λ y. Passed a.view.now a.holder.now y a.marks.now a.marks.now) (sym c.in-Nobody.is) refl

pub shape_of-marks-then-global : goal.shape_of-marks-then-global
shape_of-marks-then-global c = c.handed.auto.marks

pub returns-then-global : goal.returns-then-global
returns-then-global c =
    let a = c.args in
    let e = c.in-To.is in
    subst (λ y. Passed a.view.now a.holder.now y a.marks.now c.handed.new.marks) (sym e)
    (handed_global a.view.now a.holder.now (subst NextIn e c.requires.1).1 (subst (GotGlobal a.view.now a.holder.now a.global) e c.requires.2 c.if-global.true) c.handed.ensures)

pub shape_of-marks-else-global : goal.shape_of-marks-else-global
shape_of-marks-else-global c = c.handed-else-global.auto.marks

pub returns-else-global : goal.returns-else-global
returns-else-global c =
    let a = c.args in
    subst (λ y. Passed a.view.now a.holder.now y a.marks.now c.handed-else-global.new.marks) (sym c.in-To.is)
    (handed_walked a.view.now a.holder.now c.held_now-m.ensures c.holds_global-held.ensures c.handed-else-global.ensures)
