-- `task_rows` meets its contract.
use Rattle.figures.specs.Figures.{vcpu_at}
use Rattle.figures.specs.Tabled.{system_in}
use Rattle.plan_tables.specs.Layout.{task_row, vcpu_row}
use Rattle.times_tasks.specs.WaitLaws.{task_rows_are, task_sound}
use mathlib.Core.Path.{◌∙◌, ap, sym}
use native.Mathlib.Omega.{arith}
use Rattle.times_tasks.proofs.task_rows.Goals as goal

pub vcpu_of-a-requires : goal.vcpu_of-a-requires
unfolding system_in task_row vcpu_row
vcpu_of-a-requires c = let h = c.requires in (rw c.task_cell.ensures.is (c.args.t.now.fit.task_vcpu _ h.2))

pub overflow_sub-gap : goal.overflow_sub-gap
unfolding system_in task_row vcpu_row
overflow_sub-gap c = let v = c.args.t.now.fit.vcpu_valid _ c.vcpu_of-a.ensures.0 in omega (arith, v.budget_in.1, c.vcpu_cell-period.ensures.is, c.vcpu_cell-budget.ensures.is)

pub higher_rows-n-requires : goal.higher_rows-n-requires
unfolding system_in task_row vcpu_row
higher_rows-n-requires c = let h = c.requires in (h.0, h.1, omega (arith, c.vcpu_cell-period.ensures.small), h.2, h.3)

pub push_row-requires : goal.push_row-requires
unfolding system_in task_row vcpu_row
push_row-requires c = omega (arith, c.higher_rows-n.ensures.0, c.higher_rows-n.auto.rows, c.requires.3)

pub overflow_add-result : goal.overflow_add-result
unfolding system_in task_row vcpu_row
overflow_add-result c = omega (arith, c.higher_rows-n.ensures.0)

pub shape_of-rows : goal.shape_of-rows
unfolding system_in task_row vcpu_row
shape_of-rows c = c.push_row.auto.rows ∙ c.higher_rows-n.auto.rows

pub returns : goal.returns
unfolding system_in task_row vcpu_row
returns c = let h = c.requires in
    let w = c.higher_rows-n in
    let v = c.vcpu_of-a.ensures in
    let e = ap (vcpu_at _) (sym c.task_cell.ensures.is) ∙ v.1 in
    let q = task_rows_are _ _ _ _ _ e c.vcpu_cell-budget.ensures.is c.vcpu_cell-period.ensures.is w.ensures.1
    (omega (arith, w.ensures.0, w.auto.rows, h.3)) c.push_row.ensures in (
      omega (arith, w.ensures.0),
      q,
      task_sound _ _ c.args.t.now.fit h.1 v.0 e q,
    )
