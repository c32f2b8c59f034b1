-- `end_of` meets its contract.
use Rattle.plan_tables.specs.Layout.{lock_row}
use Rattle.clock_cells.specs.FillLaws.{end_is, end_none, lock_within}
use borrow.Author.Rules.{rules}
use mathlib.Core.Path.{sym}
use Rattle.clock_cells.proofs.end_of.Goals as goal

pub start_of-requires : goal.start_of-requires
start_of-requires c =
    let p = c.requires in
    (lock_within _ _ _ _ p.0 c.has_lock.ensures c.if-has_lock.true, search rules)

pub lock_cell-requires : goal.lock_cell-requires
lock_cell-requires c =
    let p = c.requires in
    (lock_within _ _ _ _ p.0 c.has_lock.ensures c.if-has_lock.true, search rules, search rules)

pub returns-then-has_lock : goal.returns-then-has_lock
unfolding lock_row
returns-then-has_lock c =
    let p = c.requires in
    end_is _ _ _ _ p.0 c.has_lock.ensures c.if-has_lock.true c.start_of.ensures.is c.lock_cell.ensures.is

pub returns-else-has_lock : goal.returns-else-has_lock
returns-else-has_lock c = sym (end_none _ _ c.has_lock.ensures c.if-has_lock.false)
