-- `text_scan::next_of` meets its contract.
use native.Mathlib.Omega.{arith}
use Rattle.text_scan.proofs.next_of.Goals as goal

pub overflow_add-result : goal.overflow_add-result
overflow_add-result c = omega (arith, c.requires c.if-ended.true)

pub overflow_add-result-then-ended : goal.overflow_add-result-then-ended
overflow_add-result-then-ended c = omega (arith, c.requires c.if-ended.true)

pub returns-then-ended : goal.returns-then-ended
returns-then-ended c = simp c.if-ended.true

pub returns-else-ended : goal.returns-else-ended
returns-else-ended c = simp c.if-ended.false
