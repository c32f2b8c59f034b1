-- `read_tally::locks_by` meets its contract.
use borrow.Author.Tests.{eq-eqb, ne_eqb}
use Rattle.read_tally.specs.Tally.{locks_by}
use Rattle.read_tally.proofs.locks_by.Goals as goal

pub returns-then-m-eq8 : goal.returns-then-m-eq8
unfolding locks_by
returns-then-m-eq8 c = simp (eq-eqb _ _ c.if-m-eq8.true)

pub returns-else-m-eq8 : goal.returns-else-m-eq8
unfolding locks_by
returns-else-m-eq8 c = simp (ne_eqb _ _ c.if-m-eq8.false) c.bump.ensures
