-- `task_row` meets its contract: no row before this one is task (v, n).
use native.Mathlib.Omega.{arith}
use Rattle.figures_found.specs.First.{first_here, first_none}
use Rattle.figures.specs.Named.{no_task}
use Rattle.laws.specs.RowLaws.{lacking_more, lacking_none}
use mathlib.Core.Path.{◌≡◌, ◌∙◌, sym}
use Rattle.figures_named.proofs.task_row.Goals as goal

pub loop-a-init : goal.loop-a-init
loop-a-init c = lacking_none

pub returns-then-row_task : goal.returns-then-row_task
returns-then-row_task c = first_here no_task c.loop-a.invariant c.loop-a-test.true (sym c.row_task.ensures ∙ c.if-row_task.true)

pub loop-a-preserved : goal.loop-a-preserved
loop-a-preserved c = lacking_more c.loop-a.invariant c.loop-a-test.true c.row_task.ensures c.if-row_task.false

pub returns : goal.returns
returns c =
    let e : c.loop-a.a ≡ c.args.t.now.plan.tasks = omega arith in
    rw e at (first_none no_task c.loop-a.invariant c.loop-a-test.false)
