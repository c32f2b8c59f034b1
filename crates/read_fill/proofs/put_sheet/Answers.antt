-- `read_fill::put_sheet` meets its contract.
use mathlib.Core.Path.{ap, ◌∙◌}
use Rattle.read_fill.specs.Fill.{run_put, lock_put, task_put}
use Rattle.read_fill.proofs.put_sheet.Goals as goal

pub returns : goal.returns
unfolding task_put
returns c =
    let a = c.args in
    c.put_lock.ensures ∙ ap (lock_put a.t a.s) (c.put_run.ensures ∙ ap (run_put a.t a.s) c.put_task.ensures)
