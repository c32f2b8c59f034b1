-- `read_fill::put_task` meets its contract.
use Rattle.read_fill.proofs.Laws.{task_told_law}
use Rattle.read_fill.proofs.put_task.Goals as goal

pub returns : goal.returns
returns c =
    task_told_law _ _ _ c.mark_in-on.ensures c.place-k.ensures.is c.width_if.ensures.is c.wipe.ensures c.put_two.ensures c.put.ensures
