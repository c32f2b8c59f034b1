-- `log_replies::plain_line` meets its contract.
use Rattle.text_letters.specs.WroteLaws.{wrote_as, fits_as}
use Rattle.log_replies.specs.PartsLaws.{plain_bytes}
use Rattle.log_replies.proofs.plain_line.Goals as goal

pub put-requires : goal.put-requires
put-requires c = fits_as (plain_bytes c.args.word c.pick-later.ensures c.pick-text.ensures) c.requires

pub returns : goal.returns
returns c = wrote_as (plain_bytes c.args.word c.pick-later.ensures c.pick-text.ensures) c.put.ensures
