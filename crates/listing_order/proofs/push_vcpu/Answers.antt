-- `push_vcpu` meets its contract: the places of the tasks up to n are written.
use Rattle.figures_cells.specs.Held.{system_of}
use Prim.Native.Nat.{◌+◌, ◌-◌}
use Rattle.laws.specs.Range.{flat_to}
use Rattle.listing_order.specs.PushLaws.{growing_all, growing_next, growing_none, growing_fits, to_next}
use Rattle.listing_order.specs.Pushed.{named, of_vcpu}
use mathlib.Core.Path.{◌≡◌, ◌∙◌, refl, ap}
use native.Mathlib.Omega.{arith}
use Rattle.listing_order.proofs.push_vcpu.Goals as goal

pub loop-n-init : goal.loop-n-init
unfolding flat_to
loop-n-init c = let a = c.args in (refl, growing_none _ _ (to_next (named (system_of a.t.now) a.v)) c.requires.0 refl)

pub push_named-e-requires : goal.push_named-e-requires
unfolding of_vcpu
push_named-e-requires c =
    let a = c.args in
    let h = c.requires in
    let l = c.loop-n in
    let i = l.invariant.1 in
    let f = named (system_of a.t.now) a.v in
    let z : l.n ≡ l.n - 1 + 1 = omega arith in
    (i.added.placed, growing_fits _ _ (to_next f) l.auto.n (omega arith) (ap f z) i h.1)

pub loop-n-preserved : goal.loop-n-preserved
loop-n-preserved c =
    let a = c.args in
    let l = c.loop-n in
    let i = l.invariant in
    let f = named (system_of a.t.now) a.v in
    let z : l.n ≡ l.n - 1 + 1 = omega arith in
    (c.push_named-e.auto.order ∙ i.0, growing_next _ _ (to_next f) l.auto.n (omega arith) (ap f z) i.1 c.push_named-e.ensures)

pub returns : goal.returns
unfolding of_vcpu
returns c = let a = c.args in growing_all _ _ (to_next (named (system_of a.t.now) a.v)) c.loop-n.invariant.1 (omega arith)
