-- `locks_it` meets its contract: no lock before this one is on m.
use Prim.Native.Nat.{◌-◌}
use Rattle.laws.specs.RowLaws.{lacking_all, lacking_more, lacking_none, lacking_out}
use Rattle.plan_tables.specs.Layout.{lock_row, task_row}
use borrow.Author.Tests.{eq-eqb, ne_eqb}
use lib.Dec.{eqb}
use mathlib.Core.Path.{ap₂, refl}
use Rattle.figures_sections.proofs.locks_it.Goals as goal

pub loop-j-init : goal.loop-j-init
unfolding lock_row task_row
loop-j-init c = lacking_none

pub returns-then-x-m : goal.returns-then-x-m
unfolding lock_row task_row
returns-then-x-m c = rw (← c.lock_count-n.ensures.is) (lacking_out c.loop-j.invariant c.loop-j-test.true (ap₂ eqb c.lock_cell-x.ensures.is refl) (eq-eqb _ _ c.if-x-m.true))

pub loop-j-preserved : goal.loop-j-preserved
unfolding lock_row task_row
loop-j-preserved c = lacking_more c.loop-j.invariant c.loop-j-test.true (ap₂ eqb c.lock_cell-x.ensures.is refl) (ne_eqb _ _ c.if-x-m.false)

pub returns : goal.returns
unfolding lock_row task_row
returns c = rw (← c.lock_count-n.ensures.is) (lacking_all c.loop-j.invariant c.loop-j-test.false)
