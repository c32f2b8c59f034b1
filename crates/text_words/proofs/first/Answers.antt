-- `text_lines::first` meets its contract.
use Rattle.text_words.specs.Keys.{first_of}
use Rattle.text_words.proofs.first.Goals as goal

pub returns-then-ok : goal.returns-then-ok
unfolding first_of
returns-then-ok c = rw c.if-ok.true

pub returns-else-ok : goal.returns-else-ok
unfolding first_of
returns-else-ok c = rw c.if-ok.false
