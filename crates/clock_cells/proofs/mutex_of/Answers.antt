-- `mutex_of` meets its contract.
use Rattle.plan_tables.specs.Layout.{lock_row}
use Rattle.clock_cells.specs.FillLaws.{lock_within, mutex_is, mutex_none}
use borrow.Author.Rules.{rules}
use mathlib.Core.Path.{◌∙◌, sym}
use Rattle.clock_cells.proofs.mutex_of.Goals as goal

pub lock_cell-requires : goal.lock_cell-requires
lock_cell-requires c =
    let p = c.requires in
    (lock_within _ _ _ _ p.0 c.has_lock.ensures c.if-has_lock.true, search rules, search rules)

pub returns-then-has_lock : goal.returns-then-has_lock
unfolding lock_row
returns-then-has_lock c =
    let p = c.requires in
    c.lock_cell.ensures.is ∙ sym (mutex_is _ _ _ _ p.0 c.has_lock.ensures c.if-has_lock.true)

pub returns-else-has_lock : goal.returns-else-has_lock
returns-else-has_lock c = sym (mutex_none _ _ c.has_lock.ensures c.if-has_lock.false)
