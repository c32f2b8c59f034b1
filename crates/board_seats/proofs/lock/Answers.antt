use Prim.Native.Nat.{◌≤◌}
use mathlib.Core.Path.{◌≡◌, refl, ap₂, sym, ◌∙◌}
use mathlib.Core.Bool.{true, false, ◌&&◌}
use native.Mathlib.Omega.{arith}
use Rattle.laws.specs.BoolLaws.{both_left, both_right}
use Rattle.plan.proofs.RuleLaws.{in_range_law}
use Rattle.board_seats.specs.Seats.{is_v, is_n, is_m}
use Rattle.board_seats.specs.SeatLaws.{Ranges, ranges, when_yes, when_no}
use Rattle.board_seats.proofs.lock.Goals as goal
use Rattle.board_seats.proofs.lock.Goals.{After-both-2, Then-both}

tested : (c : After-both-2) → let a = c.args in c.both-2.result ≡ ((is_v a.v && is_n a.n) && is_m a.m)
tested c =
    c.both-2.ensures ∙ ap₂ ◌&&◌ (c.both.ensures ∙ ap₂ ◌&&◌ c.within.ensures c.within-2.ensures) c.within-3.ensures

ok : (c : Then-both) → let a = c.args in ((is_v a.v && is_n a.n) && is_m a.m) ≡ true
ok c = sym (c.both-2.ensures ∙ ap₂ ◌&&◌ (c.both.ensures ∙ ap₂ ◌&&◌ c.within.ensures c.within-2.ensures) c.within-3.ensures) ∙ c.if-both.true

inside : (c : Then-both) → let a = c.args in Ranges a.v a.n × ((1 ≤ a.m) × (a.m ≤ 32))
inside c =
    let a = c.args in
    (ranges a.v a.n (both_left (is_v a.v && is_n a.n) (is_m a.m) (ok c)), in_range_law a.m 1 32 (both_right (is_v a.v && is_n a.n) (is_m a.m) (ok c)))

pub overflow_sub-v : goal.overflow_sub-v
overflow_sub-v c = omega (arith, inside (goal.at.overflow_sub-v c).Then-both)

pub overflow_mul-v : goal.overflow_mul-v
overflow_mul-v c = omega (arith, inside (goal.at.overflow_mul-v c).Then-both)

pub overflow_add-v : goal.overflow_add-v
overflow_add-v c = omega (arith, inside (goal.at.overflow_add-v c).Then-both)

pub overflow_sub-v-then-both : goal.overflow_sub-v-then-both
overflow_sub-v-then-both c = omega (arith, inside (goal.at.overflow_sub-v-then-both c).Then-both)

pub overflow_mul-v-then-both : goal.overflow_mul-v-then-both
overflow_mul-v-then-both c = omega (arith, inside (goal.at.overflow_mul-v-then-both c).Then-both)

pub overflow_sub-m : goal.overflow_sub-m
overflow_sub-m c = omega (arith, inside (goal.at.overflow_sub-m c).Then-both)

pub overflow_add-v-then-both : goal.overflow_add-v-then-both
overflow_add-v-then-both c = omega (arith, inside (goal.at.overflow_add-v-then-both c).Then-both)

pub overflow_add-v-then-both-2 : goal.overflow_add-v-then-both-2
overflow_add-v-then-both-2 c = omega (arith, inside (goal.at.overflow_add-v-then-both-2 c).Then-both)

pub returns-then-both : goal.returns-then-both
returns-then-both c = when_yes refl (ok (goal.at.returns-then-both c).Then-both) c.at.ensures

pub returns-else-both : goal.returns-else-both
returns-else-both c =
    let a = c.args in
    let e : ((is_v a.v && is_n a.n) && is_m a.m) ≡ false = sym (tested (goal.at.returns-else-both c).After-both-2) ∙ c.if-both.false in
    when_no _ refl e
