use borrow.Author.Tests.{eq-eqb, ne_eqb}
use Rattle.board_walks.specs.WalkLaws.{column_flat}
use borrow.Author.Rules.{rules}
use Rattle.board_turns.proofs.waiter_n.Goals as goal

pub returns-then-v-eq0 : goal.returns-then-v-eq0
returns-then-v-eq0 c = (rw (eq-eqb _ _ c.if-v-eq0.true), search rules)

pub returns : goal.returns
returns c = let a = c.args in
    (rw (c.column.ensures.0, c.row-row.ensures, column_flat a.waits.now a.v a.m, ne_eqb _ _ c.if-v-eq0.false), search rules)
