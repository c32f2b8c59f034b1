-- `text_letters::put_byte` meets its contract. Assumes nothing.
use borrow.Author.Rules.{rules}
use Rattle.text_letters.specs.WroteLaws.{wrote_one}
use Rattle.text_letters.proofs.put_byte.Goals as goal

pub returns : goal.returns
returns c = wrote_one _ _ (search rules)
