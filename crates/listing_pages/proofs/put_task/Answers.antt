-- `put_task` meets its contract.
use Rattle.text_letters.specs.WroteLaws.{wrote_as, fits_as, first_fits, ends, rest_fits, both_fit, both_wrote}
use Rattle.listing_sizes.proofs.TextLaws.{task_joins, task_text_law}
use borrow.Author.Rules.{rules}
use Rattle.listing_pages.proofs.put_task.Goals as goal

pub put_waits-k-requires : goal.put_waits-k-requires
put_waits-k-requires c = let h = c.requires in (h.0, h.2, first_fits (task_joins _ _) h.3)

pub slice_bounds-task_line-count : goal.slice_bounds-task_line-count
slice_bounds-task_line-count c = let h = c.requires in let z = ends (task_joins _ _) h.3 c.put_waits-k.ensures in search rules

pub slice_bounds-task_line-start : goal.slice_bounds-task_line-start
slice_bounds-task_line-start c = let h = c.requires in let z = ends (task_joins _ _) h.3 c.put_waits-k.ensures in search rules

pub task_line-requires : goal.task_line-requires
task_line-requires c = let h = c.requires in fits_as (task_text_law h.1 _ h.2 c.task_cell-v.ensures.is c.task_cell-n.ensures.is c.task_answer_at-a.ensures) (rest_fits (task_joins _ _) h.3 c.put_waits-k.ensures)

pub overflow_add-result : goal.overflow_add-result
overflow_add-result c = let q = c.well_formed in let z = both_fit (task_joins _ _) c.requires.3 c.put_waits-k.ensures (wrote_as (task_text_law c.requires.1 _ c.requires.2 c.task_cell-v.ensures.is c.task_cell-n.ensures.is c.task_answer_at-a.ensures) c.task_line.ensures) in search rules

pub returns : goal.returns
returns c = let h = c.requires in both_wrote (task_joins _ _) h.3 c.put_waits-k.ensures (wrote_as (task_text_law h.1 _ h.2 c.task_cell-v.ensures.is c.task_cell-n.ensures.is c.task_answer_at-a.ensures) c.task_line.ensures)
