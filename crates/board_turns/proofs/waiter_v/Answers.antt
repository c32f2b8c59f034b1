use Rattle.board_walks.specs.WalkLaws.{rows_flat}
use borrow.Author.Rules.{rules}
use Rattle.board_turns.proofs.waiter_v.Goals as goal

pub returns : goal.returns
returns c = let a = c.args in
    (rw (c.row_with.ensures.0, c.rows-rows.ensures, rows_flat a.waits.now a.m), search rules)
