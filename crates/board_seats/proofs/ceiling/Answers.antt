use Prim.Native.Nat.{◌≤◌}
use mathlib.Core.Path.{sym, ◌∙◌}
use native.Mathlib.Omega.{arith}
use Rattle.plan.proofs.RuleLaws.{in_range_law}
use Rattle.board_seats.specs.SeatLaws.{when_yes, when_no}
use Rattle.board_seats.proofs.ceiling.Goals as goal
use Rattle.board_seats.proofs.ceiling.Goals.{Then-within}

inside : (c : Then-within) → let x = c.args.m in (1 ≤ x) × (x ≤ 32)
inside c = in_range_law c.args.m 1 32 (sym c.within.ensures ∙ c.if-within.true)

pub overflow_sub-m : goal.overflow_sub-m
overflow_sub-m c = omega (arith, inside (goal.at.overflow_sub-m c).Then-within)

pub overflow_add-m : goal.overflow_add-m
overflow_add-m c = omega (arith, inside (goal.at.overflow_add-m c).Then-within)

pub returns-then-within : goal.returns-then-within
returns-then-within c = when_yes c.within.ensures c.if-within.true c.at.ensures

pub returns-else-within : goal.returns-else-within
returns-else-within c = when_no _ c.within.ensures c.if-within.false
