-- `text_numbers::digits` meets its contract.
use Rattle.laws.specs.Fields.{Scanned}
use Rattle.text_numbers.proofs.digits.Given as goal

abbrev pub invariant-loop-x : goal.invariant-loop-x
invariant-loop-x l = Scanned l.none l.s l.v l.x-index
