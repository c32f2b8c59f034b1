-- `text_lines::said_by` meets its contract.
use Rattle.text_lines.proofs.Laws.{by_told}
use Rattle.text_lines.proofs.said_by.Goals as goal

pub returns : goal.returns
returns c =
    by_told _ _ _ _ _ _ _ _ c.pick-second.ensures c.number_if.ensures c.place.ensures c.number_if-2.ensures c.number_if-3.ensures c.number_if-4.ensures c.number_if-5.ensures
