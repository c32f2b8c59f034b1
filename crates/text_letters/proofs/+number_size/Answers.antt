-- `text_letters::number_size` meets its contract.
use native.Mathlib.Omega.{arith}
use Rattle.text_letters.specs.SizeLaws.{one_sized, more_sized}
use Rattle.text_letters.proofs.+number_size.Goals as goal

pub returns-then-n-lt10 : goal.returns-then-n-lt10
returns-then-n-lt10 t c = one_sized c.if-n-lt10.true

pub returns : goal.returns
returns t c = more_sized c.if-n-lt10.false (omega arith) c.number_size.ensures
