-- `fill_tasks` meets its contract: the rows before this one are stored.
use Rattle.figures_slices.specs.StoredLaws.{tasks_all, tasks_more, tasks_none}
use mathlib.Core.Path.{◌∙◌, refl}
use native.Mathlib.Omega.{arith}
use Rattle.figures_stored.proofs.fill_tasks.Goals as goal

pub loop-i-init : goal.loop-i-init
loop-i-init c = (refl, tasks_none)

pub put_task-requires : goal.put_task-requires
put_task-requires c = omega (arith, c.loop-i-test.true, c.loop-i.invariant.0, c.requires)

pub loop-i-preserved : goal.loop-i-preserved
loop-i-preserved c = let h = c.loop-i.invariant in (
  c.put_task.auto.tf ∙ h.0,
  rw c.put_task.ensures
      (tasks_more _ h.1 (omega (arith, c.loop-i-test.true, h.0, c.requires))
      c.longest_global-x.ensures c.global_sum-y.ensures c.global_count-z.ensures c.lengths_of-w.ensures),
)

pub returns : goal.returns
returns c = tasks_all c.loop-i.invariant.1 c.loop-i-test.false
