-- `flag_of` meets its contract.
use Rattle.laws.specs.Choice.{when}
use native.Mathlib.Omega.{arith}
use Rattle.answers_sums.proofs.flag_of.Goals as goal

pub returns-then-b : goal.returns-then-b
unfolding when
returns-then-b c = record { is = rw c.if-b.true; small = omega arith }

pub returns-else-b : goal.returns-else-b
unfolding when
returns-else-b c = record { is = rw c.if-b.false; small = omega arith }
