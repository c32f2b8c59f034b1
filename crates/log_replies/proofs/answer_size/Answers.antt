-- `log_replies::answer_size` meets its contract.
use Rattle.text_letters.specs.SizeLaws.{sized_as}
use Rattle.log_replies.specs.PartsLaws.{parts_text_law}
use Rattle.log_replies.proofs.answer_size.Goals as goal

pub returns : goal.returns
returns c = sized_as (parts_text_law c.args.a c.parts_of-p.ensures) c.parts_size.ensures
