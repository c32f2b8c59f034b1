-- `text_lines::tally` meets its contract.
use Rattle.laws.specs.Fields.{Tallied}
use Rattle.text_lines.proofs.tally.Given as goal

abbrev pub invariant-loop-x : goal.invariant-loop-x
invariant-loop-x l = Tallied l.b l.s l.n l.x-index
