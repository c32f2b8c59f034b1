-- `begin_of` meets its contract.
use Rattle.clock_cells.specs.FillLaws.{begin_is, begin_none, lock_within}
use borrow.Author.Rules.{rules}
use mathlib.Core.Path.{◌∙◌, sym}
use Rattle.clock_cells.proofs.begin_of.Goals as goal

pub start_of-requires : goal.start_of-requires
start_of-requires c =
    let p = c.requires in
    (lock_within _ _ _ _ p.0 c.has_lock.ensures c.if-has_lock.true, search rules)

pub returns-then-has_lock : goal.returns-then-has_lock
returns-then-has_lock c =
    let p = c.requires in
    c.start_of.ensures.is ∙ sym (begin_is _ _ _ _ p.0 c.has_lock.ensures c.if-has_lock.true)

pub returns-else-has_lock : goal.returns-else-has_lock
returns-else-has_lock c = sym (begin_none _ _ c.has_lock.ensures c.if-has_lock.false)
