-- `put_wait` meets its contract.
use Rattle.text_letters.specs.WroteLaws.{wrote_as, fits_as}
use Rattle.listing_sizes.proofs.TextLaws.{place_text_law, place_none}
use Rattle.listing_waits.specs.FilledLaws.{wrote_none}
use Rattle.listing_waits.proofs.put_wait.Goals as goal

pub returns-then-not-is_wait : goal.returns-then-not-is_wait
returns-then-not-is_wait c = let h = c.requires in wrote_none _ (place_none h.0 _ _ c.is_wait.ensures c.if-not-is_wait.true)

pub wait_line-requires : goal.wait_line-requires
wait_line-requires c = let h = c.requires in fits_as (place_text_law h.0 _ _ c.is_wait.ensures h.1 h.3 c.if-not-is_wait.false c.task_cell-v.ensures.is c.task_cell-n.ensures.is c.answer_at-x.ensures) h.4

pub returns : goal.returns
returns c = let h = c.requires in wrote_as (place_text_law h.0 _ _ c.is_wait.ensures h.1 h.3 c.if-not-is_wait.false c.task_cell-v.ensures.is c.task_cell-n.ensures.is c.answer_at-x.ensures) c.wait_line.ensures
