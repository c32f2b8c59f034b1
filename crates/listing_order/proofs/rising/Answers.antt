-- `rising` meets its contract: the places of the tasks of the VCPUs up to v are written; in all there are no more than tasks.
use Rattle.figures_cells.specs.Held.{system_of}
use Prim.Native.Nat.{◌+◌, ◌-◌}
use Rattle.laws.specs.Range.{flat_to}
use Rattle.listing_order.specs.PushLaws.{growing_all, growing_next, growing_none, growing_fits, rising_ordered, rising_room, to_next}
use Rattle.listing_order.specs.Pushed.{of_vcpu}
use mathlib.Core.Path.{◌≡◌, ◌∙◌, refl, ap}
use native.Mathlib.Omega.{arith}
use Rattle.listing_order.proofs.rising.Goals as goal

pub loop-v-init : goal.loop-v-init
unfolding flat_to
loop-v-init c =
    let a = c.args in
    (refl, growing_none _ _ (to_next (of_vcpu (system_of a.t.now))) (record { long = c.requires; within = λ i l. absurd (omega arith) }) refl)

pub push_vcpu-e-requires : goal.push_vcpu-e-requires
push_vcpu-e-requires c =
    let a = c.args in
    let h = c.requires in
    let l = c.loop-v in
    let i = l.invariant.1 in
    let f = of_vcpu (system_of a.t.now) in
    let z : l.v ≡ l.v - 1 + 1 = omega arith in (
      i.added.placed,
      growing_fits _ _ (to_next f) l.auto.v (omega arith) (ap f z) i (omega (arith, rising_room a.t.now.plan a.t.now.vcpus.now a.t.now.mutexes.now a.t.now.tasks.now, c.args.t.now.fit.tasks_few)),
    )

pub loop-v-preserved : goal.loop-v-preserved
loop-v-preserved c =
    let a = c.args in
    let l = c.loop-v in
    let i = l.invariant in
    let f = of_vcpu (system_of a.t.now) in
    let z : l.v ≡ l.v - 1 + 1 = omega arith in
    (c.push_vcpu-e.auto.order ∙ i.0, growing_next _ _ (to_next f) l.auto.v (omega arith) (ap f z) i.1 c.push_vcpu-e.ensures)

pub returns : goal.returns
returns c =
    let a = c.args in
    rising_ordered a.t.now.plan a.t.now.vcpus.now a.t.now.mutexes.now a.t.now.tasks.now a.order.now (growing_all _ _ (to_next (of_vcpu (system_of a.t.now))) c.loop-v.invariant.1 (omega arith))
