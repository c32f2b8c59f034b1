-- No column above n has the mark.
use Prim.Native.Nat.{◌+◌, ◌-◌}
use mathlib.Core.Path.{◌≡◌, ◌∙◌, refl, sym}
use native.Mathlib.Omega.{arith}
use borrow.Author.Rules.{rules}
use borrow.Author.Tests.{eq-eqb, ne_eqb}
use Rattle.laws.specs.RangeLaws.{down_none, down_more, down_out, down_all}
use Rattle.board_walks.proofs.column.Goals as goal

pub loop-n-init : goal.loop-n-init
loop-n-init c = down_none

pub returns-then-row-n : goal.returns-then-row-n
returns-then-row-n c =
    let z : c.loop-n.n - 1 + 1 ≡ c.loop-n.n = omega arith in
    (z ∙ down_out c.loop-n.invariant c.loop-n-test.true (sym (eq-eqb _ _ c.if-row-n.true)) refl, search rules)

pub loop-n-preserved : goal.loop-n-preserved
loop-n-preserved c =
    down_more c.loop-n.invariant c.loop-n-test.true (sym (ne_eqb _ _ c.if-row-n.false)) refl

pub returns : goal.returns
returns c = (down_all c.loop-n.invariant c.loop-n-test.false, search rules)
