-- `higher_rows` meets its contract: the rows of the higher tasks before this one are written.
use Rattle.laws.specs.Rows.{rows}
use Rattle.search.specs.TableLaws.{picked_all, picked_in, picked_none, picked_out}
use mathlib.Core.Path.{◌∙◌, refl}
use native.Mathlib.Omega.{arith}
use Rattle.times_tasks.proofs.higher_rows.Goals as goal
use Rattle.times_tasks.proofs.higher_rows.Goals.{then-is_higher, else-is_higher}

pub loop-h-init : goal.loop-h-init
loop-h-init c = (refl, picked_none (unfold rows in refl) (omega arith))

pub push_task-requires : goal.push_task-requires
push_task-requires c = let p = c.requires in let j = c.loop-h.invariant in (
  p.0,
  p.1,
  p.2,
  c.loop-h-test.true,
  omega (arith, j.0, j.1.built.few, p.4, c.args.t.now.fit.tasks_few, c.loop-h-test.true),
)

pub overflow_add-n : goal.overflow_add-n
overflow_add-n c = omega (arith, c.loop-h.invariant.1.built.few, c.loop-h-test.true, c.args.t.now.fit.tasks_few)

pub loop-h-preserved : goal.loop-h-preserved
loop-h-preserved c = let j = c.loop-h.invariant in let p = c.requires in
    elim c.if-is_higher.branch [
      | then-is_higher w ↦ rw (w.rows-is, w.n-is) (
        w.push_task.auto.rows ∙ j.0,
        picked_in j.1 c.loop-h-test.true c.is_higher.ensures w.if-is_higher.true w.push_task.ensures refl
            (omega (arith, j.0, j.1.built.few, p.4, c.args.t.now.fit.tasks_few, c.loop-h-test.true)),
      )
      | else-is_higher w ↦ rw (w.rows-is, w.n-is) (j.0, picked_out j.1 c.loop-h-test.true c.is_higher.ensures w.if-is_higher.false)
    ]

pub returns : goal.returns
returns c = let j = c.loop-h.invariant in (omega (arith, j.1.built.few, j.1.built.within, c.args.t.now.fit.tasks_few), picked_all j.1 c.loop-h-test.false)
