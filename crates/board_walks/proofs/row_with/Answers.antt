-- No row above v has the mark.
use Prim.Native.Nat.{◌+◌, ◌-◌}
use mathlib.Core.Path.{◌≡◌, ◌∙◌, refl, sym, ap}
use native.Mathlib.Omega.{arith}
use borrow.Author.Rules.{rules}
use borrow.Author.Tests.{lt-ltb, le-ltb}
use lib.Dec.{ltb}
use Rattle.laws.specs.RangeLaws.{down_none, down_more, down_out, down_all}
use Rattle.board_walks.proofs.row_with.Goals as goal

pub loop-v-init : goal.loop-v-init
loop-v-init c = down_none

pub returns-then-column-gt0 : goal.returns-then-column-gt0
returns-then-column-gt0 c =
    let z : c.loop-v.v - 1 + 1 ≡ c.loop-v.v = omega arith in (
      z
          ∙ down_out c.loop-v.invariant c.loop-v-test.true
          (sym (lt-ltb _ _ c.if-column-gt0.true) ∙ ap (ltb 0) c.column.ensures.0) refl,
      search rules,
    )

pub loop-v-preserved : goal.loop-v-preserved
loop-v-preserved c =
    down_more c.loop-v.invariant c.loop-v-test.true
    (sym (le-ltb _ _ c.if-column-gt0.false) ∙ ap (ltb 0) c.column.ensures.0) refl

pub returns : goal.returns
returns c = (down_all c.loop-v.invariant c.loop-v-test.false, search rules)
