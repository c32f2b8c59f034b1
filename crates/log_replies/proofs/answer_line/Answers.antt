-- `log_replies::answer_line` meets its contract.
use Rattle.text_letters.specs.WroteLaws.{wrote_as, fits_as}
use Rattle.log_replies.specs.PartsLaws.{parts_text_law}
use Rattle.log_replies.proofs.answer_line.Goals as goal

pub parts_line-requires : goal.parts_line-requires
parts_line-requires c = fits_as (parts_text_law c.args.a c.parts_of-p.ensures) c.requires

pub returns : goal.returns
returns c = wrote_as (parts_text_law c.args.a c.parts_of-p.ensures) c.parts_line.ensures
