-- `listing_lines::answer_size` meets its contract. Assumes nothing.
use Rattle.listing_lines.specs.LineLaws.{answer_word_law}
use Rattle.listing_lines.specs.SizeLaws.{word_sized}
use Rattle.listing_lines.proofs.answer_size.Goals as goal

pub returns : goal.returns
returns c =
    let k = c.args.c in
    word_sized k (answer_word_law k c.pick-held.ensures c.pick-fits.ensures c.pick-word.ensures)
