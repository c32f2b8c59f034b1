-- Each holder to m is a seat, or none.
use native.Mathlib.Omega.{arith}
use mathlib.Core.Path.{refl, sym, ◌∙◌, ap}
use borrow.Author.Tests.{le-leb, lt-leb}
use lib.Dec.{leb}
use Rattle.board_walks.specs.WalkLaws.{pass_none, pass_next, pass_here, pass_all}
use Rattle.board_good.proofs.seats_good.Goals as goal

pub loop-m-init : goal.loop-m-init
loop-m-init c = pass_none

pub returns-then-holder-gt128 : goal.returns-then-holder-gt128
returns-then-holder-gt128 c =
    pass_here c.loop-m.invariant c.loop-m.auto.m c.loop-m-test.true
    (sym (lt-leb _ _ c.if-holder-gt128.true) ∙ ap (λ h. leb h 128) c.holder.ensures) refl

pub loop-m-preserved : goal.loop-m-preserved
loop-m-preserved c =
    pass_next c.loop-m.invariant c.loop-m.auto.m c.loop-m-test.true
    (sym (le-leb _ _ c.if-holder-gt128.false) ∙ ap (λ h. leb h 128) c.holder.ensures) refl

pub returns : goal.returns
returns c = pass_all c.loop-m.invariant (omega arith)
