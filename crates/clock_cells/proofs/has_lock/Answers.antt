-- `has_lock` meets its contract.
use Rattle.clock_cells.specs.FillLaws.{lock_none, lock_test}
use lib.Dec.{leb}
use mathlib.Core.Path.{◌∙◌, ap₂, refl, sym}
use Rattle.clock_cells.proofs.has_lock.Goals as goal

pub returns-then-n-a : goal.returns-then-n-a
returns-then-n-a c = sym (lock_none _ _ _ _ c.requires c.if-n-a.true)

pub returns : goal.returns
returns c = ap₂ leb refl c.lock_count.ensures.is ∙ sym (lock_test _ _ _ _ c.if-n-a.false)
