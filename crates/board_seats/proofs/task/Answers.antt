use mathlib.Core.Path.{◌≡◌, refl, ap₂, sym, ◌∙◌}
use mathlib.Core.Bool.{true, false, ◌&&◌}
use native.Mathlib.Omega.{arith}
use Rattle.board_seats.specs.Seats.{is_v, is_n}
use Rattle.board_seats.specs.SeatLaws.{Ranges, ranges, when_yes, when_no}
use Rattle.board_seats.proofs.task.Goals as goal
use Rattle.board_seats.proofs.task.Goals.{After-both, Then-both}

tested : (c : After-both) → let a = c.args in c.both.result ≡ (is_v a.v && is_n a.n)
tested c = c.both.ensures ∙ ap₂ ◌&&◌ c.within.ensures c.within-2.ensures

ok : (c : Then-both) → let a = c.args in (is_v a.v && is_n a.n) ≡ true
ok c = sym (c.both.ensures ∙ ap₂ ◌&&◌ c.within.ensures c.within-2.ensures) ∙ c.if-both.true

inside : (c : Then-both) → let a = c.args in Ranges a.v a.n
inside c = let a = c.args in ranges a.v a.n (ok c)

pub overflow_sub-v : goal.overflow_sub-v
overflow_sub-v c = omega (arith, inside (goal.at.overflow_sub-v c).Then-both)

pub overflow_mul-v : goal.overflow_mul-v
overflow_mul-v c = omega (arith, inside (goal.at.overflow_mul-v c).Then-both)

pub overflow_add-v : goal.overflow_add-v
overflow_add-v c = omega (arith, inside (goal.at.overflow_add-v c).Then-both)

pub overflow_sub-v-then-both : goal.overflow_sub-v-then-both
overflow_sub-v-then-both c = omega (arith, inside (goal.at.overflow_sub-v-then-both c).Then-both)

pub overflow_add-v-then-both : goal.overflow_add-v-then-both
overflow_add-v-then-both c = omega (arith, inside (goal.at.overflow_add-v-then-both c).Then-both)

pub returns-then-both : goal.returns-then-both
returns-then-both c = when_yes refl (ok (goal.at.returns-then-both c).Then-both) c.at.ensures

pub returns-else-both : goal.returns-else-both
returns-else-both c =
    let a = c.args in
    let e : (is_v a.v && is_n a.n) ≡ false = sym (tested (goal.at.returns-else-both c).After-both) ∙ c.if-both.false in
    when_no _ refl e
