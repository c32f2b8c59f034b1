-- `read_tally::bump` meets its contract.
use native.Mathlib.Omega.{arith}
use borrow.Author.Tests.{ltb-true}
use Rattle.laws.specs.BoolLaws.{both_right}
use Rattle.read_tally.specs.Tally.{bumped}
use Rattle.read_tally.proofs.bump.Goals as goal

pub overflow_add-result : goal.overflow_add-result
overflow_add-result c = let a = c.args in omega (arith, ltb-true a.n 128 (both_right a.on _ c.if-on-n.true))

pub returns-then-on-n : goal.returns-then-on-n
unfolding bumped
returns-then-on-n c = simp c.if-on-n.true

pub returns-else-on-n : goal.returns-else-on-n
unfolding bumped
returns-else-on-n c = simp c.if-on-n.false
