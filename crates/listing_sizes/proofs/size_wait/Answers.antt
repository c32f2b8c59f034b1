-- `size_wait` meets its contract.
use Rattle.text_letters.specs.SizeLaws.{sized_as}
use Rattle.listing_sizes.proofs.TextLaws.{place_text_law, place_none, none_sized}
use Rattle.listing_sizes.proofs.size_wait.Goals as goal

pub returns-then-not-is_wait : goal.returns-then-not-is_wait
returns-then-not-is_wait c = let h = c.requires in none_sized 110 (place_none h.0 _ _ c.is_wait.ensures c.if-not-is_wait.true)

pub returns : goal.returns
returns c = let h = c.requires in sized_as (place_text_law h.0 _ _ c.is_wait.ensures h.1 h.3 c.if-not-is_wait.false c.task_cell-v.ensures.is c.task_cell-n.ensures.is c.answer_at-x.ensures) c.wait_size.ensures
