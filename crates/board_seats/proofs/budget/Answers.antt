use Prim.Native.Nat.{◌≤◌}
use mathlib.Core.Path.{sym, ◌∙◌}
use native.Mathlib.Omega.{arith}
use Rattle.plan.proofs.RuleLaws.{in_range_law}
use Rattle.board_seats.specs.SeatLaws.{when_yes, when_no}
use Rattle.board_seats.proofs.budget.Goals as goal
use Rattle.board_seats.proofs.budget.Goals.{Then-within}

inside : (c : Then-within) → let x = c.args.v in (1 ≤ x) × (x ≤ 16)
inside c = in_range_law c.args.v 1 16 (sym c.within.ensures ∙ c.if-within.true)

pub overflow_sub-v : goal.overflow_sub-v
overflow_sub-v c = omega (arith, inside (goal.at.overflow_sub-v c).Then-within)

pub returns-then-within : goal.returns-then-within
returns-then-within c = when_yes c.within.ensures c.if-within.true c.at.ensures

pub returns-else-within : goal.returns-else-within
returns-else-within c = when_no _ c.within.ensures c.if-within.false
