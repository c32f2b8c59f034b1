-- `fill_tasks` meets its contract: the answers before this one are written.
use Rattle.figures_slices.specs.Filled.{task_answer_row}
use Rattle.figures_slices.specs.FilledLaws.{filled_more, filled_none}
use Rattle.figures_slices.specs.Places.{tasks_over}
use Rattle.figures.specs.Tabled.{system_in}
use Rattle.laws.specs.Rows.{rows}
use mathlib.Core.Path.{◌∙◌, ap, refl}
use native.Mathlib.Omega.{arith}
use Rattle.answers.proofs.fill_tasks.Goals as goal

pub loop-i-init : goal.loop-i-init
unfolding system_in
loop-i-init c = (refl, filled_none)

pub task_answer-x-requires : goal.task_answer-x-requires
unfolding system_in
task_answer-x-requires c = let h = c.requires in (h.0, h.1, h.2, c.loop-i-test.true, omega (arith, c.loop-i.invariant.0, h.3))

pub put_task-requires : goal.put_task-requires
unfolding system_in
put_task-requires c = let h = c.requires in omega (arith, c.loop-i.invariant.1.same, c.loop-i-test.true, h.4)

pub loop-i-preserved : goal.loop-i-preserved
unfolding system_in
loop-i-preserved c = let h = c.requires in let j = c.loop-i.invariant in (
  c.task_answer-x.auto.rows ∙ j.0,
  filled_more _ j.1 c.loop-i-test.true c.put_task.ensures (ap task_answer_row c.task_answer-x.ensures) (omega (arith, h.4)),
)

pub returns : goal.returns
unfolding system_in
returns c = tasks_over _ _ refl c.loop-i.invariant.1 c.loop-i-test.false
