-- `listing_lines::task_rest_size` meets its contract. Assumes nothing.
use Rattle.listing_lines.specs.LineLaws.{task_rest}
use Rattle.text_letters.specs.SizeLaws.{tabbed_sized}
use Rattle.listing_lines.proofs.task_rest_size.Goals as goal

pub returns : goal.returns
returns c = tabbed_sized (task_rest c.args.a c.task_parts-p.ensures) c.answer_size-x.ensures c.ticks_size-y.ensures
