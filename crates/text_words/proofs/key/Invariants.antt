-- `text_lines::key` meets its contract.
use Rattle.text_words.specs.KeyLaws.{Spelt}
use Rattle.text_words.proofs.key.Given as goal

abbrev pub invariant-loop-x : goal.invariant-loop-x
invariant-loop-x l = Spelt l.s l.v l.x-index
