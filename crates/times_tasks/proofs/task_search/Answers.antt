-- `task_search` meets its contract: the rows and the base have the demand of equation 6.
use Rattle.plan_tables.specs.Layout.{task_row}
use Rattle.times_tasks.specs.WaitLaws.{task_found, task_start}
use mathlib.Core.Path.{◌∙◌}
use native.Mathlib.Omega.{arith}
use Rattle.times_tasks.proofs.task_search.Goals as goal

pub least-requires : goal.least-requires
unfolding task_row
least-requires c = let h = c.requires in
    let w = c.task_rows-n in (
      omega (arith, w.ensures.0, w.auto.rows, h.4),
      omega (arith, c.task_cell-limit.ensures.small),
      task_start _ _ c.task_base-base.ensures (h.0.spans.at _ h.3).is,
      w.ensures.2,
    )

pub returns : goal.returns
unfolding task_row
returns c = let h = c.requires in
    c.least.ensures
    ∙ task_found _ _ c.task_base-base.ensures (h.0.spans.at _ h.3).is c.task_cell-limit.ensures.is c.task_rows-n.ensures.1
