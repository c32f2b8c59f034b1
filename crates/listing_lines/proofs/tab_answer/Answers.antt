-- `listing_lines::tab_answer` meets its contract. Assumes nothing.
use mathlib.Core.Path.{ap}
use Rattle.text_letters.specs.Tabbed.{tabbed}
use Rattle.text_letters.specs.WroteLaws.{wrote_as, fits_as}
use Rattle.listing_lines.specs.LineLaws.{answer_word_law}
use Rattle.listing_lines.proofs.tab_answer.Goals as goal

pub tab_word-requires : goal.tab_word-requires
tab_word-requires c = fits_as (ap tabbed (answer_word_law c.args.c c.pick-held.ensures c.pick-fits.ensures c.pick-word.ensures)) c.requires

pub returns : goal.returns
returns c = wrote_as (ap tabbed (answer_word_law c.args.c c.pick-held.ensures c.pick-fits.ensures c.pick-word.ensures)) c.tab_word.ensures
