-- `size_task` meets its contract.
use Rattle.text_letters.specs.SizeLaws.{sized_as}
use Rattle.listing_sizes.proofs.TextLaws.{task_text_law, task_joins, both_sized}
use Rattle.listing_sizes.proofs.size_task.Goals as goal

pub returns : goal.returns
returns c = let h = c.requires in both_sized (task_joins _ _) c.size_waits-x.ensures (sized_as (task_text_law h.1 _ h.2 c.task_cell-v.ensures.is c.task_cell-n.ensures.is c.task_answer_at-a.ensures) c.task_size.ensures)
