-- `put_tail` meets its contract.
use Rattle.text_letters.specs.WroteLaws.{wrote_as, fits_as, first_fits, ends, rest_fits, both_fit, both_wrote}
use Rattle.listing_sizes.proofs.TextLaws.{tasks_joins, all_text_law}
use borrow.Author.Rules.{rules}
use Rattle.listing_pages.proofs.put_tail.Goals as goal

pub put_tasks-k-requires : goal.put_tasks-k-requires
put_tasks-k-requires c = let h = c.requires in (h.0.waits, h.0.tasks, h.1, h.2, first_fits (tasks_joins _) h.3)

pub slice_bounds-all_line-count : goal.slice_bounds-all_line-count
slice_bounds-all_line-count c = let h = c.requires in let z = ends (tasks_joins _) h.3 c.put_tasks-k.ensures in search rules

pub slice_bounds-all_line-start : goal.slice_bounds-all_line-start
slice_bounds-all_line-start c = let h = c.requires in let z = ends (tasks_joins _) h.3 c.put_tasks-k.ensures in search rules

pub all_line-requires : goal.all_line-requires
all_line-requires c = let h = c.requires in fits_as (all_text_law _ c.all_fit-fits.ensures) (rest_fits (tasks_joins _) h.3 c.put_tasks-k.ensures)

pub overflow_add-result : goal.overflow_add-result
overflow_add-result c = let q = c.well_formed in let z = both_fit (tasks_joins _) c.requires.3 c.put_tasks-k.ensures (wrote_as (all_text_law _ c.all_fit-fits.ensures) c.all_line.ensures) in search rules

pub returns : goal.returns
returns c = let h = c.requires in both_wrote (tasks_joins _) h.3 c.put_tasks-k.ensures (wrote_as (all_text_law _ c.all_fit-fits.ensures) c.all_line.ensures)
