-- `same_before` meets its contract.
use Prim.Native.Nat.{◌-◌}
use Rattle.plan_tables.specs.Layout.{lock_row}
use mathlib.Core.Path.{◌∙◌, refl, sym}
use native.Mathlib.Omega.{arith}
use Rattle.answers_copies.proofs.same_before.Goals as goal

pub loop-e-init : goal.loop-e-init
unfolding lock_row
loop-e-init c = omega arith

pub returns-then-x-m : goal.returns-then-x-m
unfolding lock_row
returns-then-x-m c = (omega (arith, c.loop-e-test.true), sym c.lock_cell-x.ensures.is ∙ c.if-x-m.true ∙ c.lock_cell-m.ensures.is)

pub loop-e-preserved : goal.loop-e-preserved
unfolding lock_row
loop-e-preserved c = omega (arith, c.loop-e-test.true)

pub returns : goal.returns
unfolding lock_row
returns c = (omega arith, refl)
