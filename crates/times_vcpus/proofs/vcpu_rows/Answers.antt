-- `vcpu_rows` meets its contract: the rows of the higher VCPUs before this one are written.
use Rattle.search.specs.TableLaws.{picked_all, picked_in, picked_none, picked_out}
use mathlib.Core.Path.{◌∙◌, refl}
use native.Mathlib.Omega.{arith}
use Rattle.times_vcpus.proofs.vcpu_rows.Goals as goal
use Rattle.times_vcpus.proofs.vcpu_rows.Goals.{then-is_higher_on, else-is_higher_on}

pub loop-b-init : goal.loop-b-init
loop-b-init c = (refl, picked_none refl c.requires.3)

pub push_vcpu-requires : goal.push_vcpu-requires
push_vcpu-requires c = let h = c.requires in let i = c.loop-b.invariant in (h.0, h.1, c.loop-b-test.true, omega (arith, i.0, i.1.built.few, h.4, c.args.t.now.fit.vcpus_few, c.loop-b-test.true))

pub overflow_add-e : goal.overflow_add-e
overflow_add-e c = omega (arith, c.loop-b.invariant.1.built.few, c.loop-b-test.true, c.args.t.now.fit.vcpus_few)

pub loop-b-preserved : goal.loop-b-preserved
loop-b-preserved c = let i = c.loop-b.invariant in let h = c.requires in
    elim c.if-is_higher_on.branch [
      | then-is_higher_on w ↦ rw (w.rows-is, w.e-is) (
        w.push_vcpu.auto.rows ∙ i.0,
        picked_in i.1 c.loop-b-test.true c.is_higher_on.ensures w.if-is_higher_on.true w.push_vcpu.ensures refl
            (omega (arith, i.0, i.1.built.few, h.4, c.args.t.now.fit.vcpus_few, c.loop-b-test.true)),
      )
      | else-is_higher_on w ↦ rw (w.rows-is, w.e-is) (i.0, picked_out i.1 c.loop-b-test.true c.is_higher_on.ensures w.if-is_higher_on.false)
    ]

pub returns : goal.returns
returns c = let i = c.loop-b.invariant in (omega (arith, i.1.built.few, i.1.built.within, c.args.t.now.fit.vcpus_few), picked_all i.1 c.loop-b-test.false)
