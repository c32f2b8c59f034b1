-- `read_tally::policy_by` meets its contract.
use Rattle.read_tally.specs.Tally.{policy_by}
use Rattle.read_tally.proofs.policy_by.Goals as goal

pub returns-then-m : goal.returns-then-m
unfolding policy_by
returns-then-m c = simp c.if-m.true

pub returns-then-m-2 : goal.returns-then-m-2
unfolding policy_by
returns-then-m-2 c = simp (c.if-m.false, c.if-m-2.true)

pub returns-else-m-2 : goal.returns-else-m-2
unfolding policy_by
returns-else-m-2 c = simp (c.if-m.false, c.if-m-2.false)
