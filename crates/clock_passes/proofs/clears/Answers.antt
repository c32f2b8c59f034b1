-- `clock_passes::clears` meets its contract.
use borrow.Author.Tests.{eq-eqb, ne_eqb}
use Rattle.clock_passes.proofs.clears.Goals as goal

pub returns-then-m-eq33 : goal.returns-then-m-eq33
returns-then-m-eq33 c = rw (eq-eqb _ 33 c.if-m-eq33.true)

pub returns : goal.returns
returns c = rw (c.ceiling.ensures, ne_eqb _ 33 c.if-m-eq33.false)
