use borrow.Author.Tests.{eq-eqb, ne_eqb}
use Rattle.clock_picks.proofs.rank.Goals as goal

pub returns-then-m-eq0 : goal.returns-then-m-eq0
returns-then-m-eq0 c = rw (eq-eqb _ _ c.if-m-eq0.true)

pub returns-then-m-eq33 : goal.returns-then-m-eq33
returns-then-m-eq33 c = rw (ne_eqb _ _ c.if-m-eq0.false, eq-eqb _ _ c.if-m-eq33.true)

pub returns : goal.returns
returns c =
    rw (c.larger.ensures, c.local_under.ensures.0, c.ceiling.ensures, ne_eqb _ _ c.if-m-eq0.false, ne_eqb _ _ c.if-m-eq33.false)
