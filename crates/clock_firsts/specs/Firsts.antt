-- The parts of the clock's lists before tick 0: x is the times of the plan, ls, os, ss the budgets, the overruns and the marks of the board, and k what is kept beside its arrays.
use Rattle.std.specs.Prelude.{ℕ, ◌+◌, ◌-◌, ◌*◌, ◌<◌, ◌≤◌, ◌≡◌, List, Bool, false, ltb, length, get_or}
use Rattle.std.specs.Prelude.{if◌then◌else◌}
use Rattle.plan.specs.Limits.{max_v, most_n}
use Rattle.plan.specs.declared.OverrunChoice.{OverrunChoice}
use Rattle.clock_sets.specs.Sets.{in_set}
use Rattle.clock_times.specs.Times.{at_lengths}
use Rattle.clock_marks.specs.Marks.{at_budget, at_spare, at_done, spares, Sized}
use Rattle.clock_nexts.specs.Nexts.{never, period_at}

-- from k to k' the ticks done of the first i seats become their lengths in x, and all else is the same
pub record DoneTo (x k k' : List ℕ) (i : ℕ) : Type 0 where
  pub within : i ≤ max_v * most_n
  pub length_same : length k' ≡ length k
  pub new : (j : ℕ) → j < i → get_or k' (at_done + 1 + j) 0 ≡ get_or x (at_lengths + j) 0
  pub else_same : (j : ℕ) → (at_done + 1 ≤ j → j < at_done + 1 + i → ⊥) → get_or k' j 0 ≡ get_or k j 0

-- from k to k' the VCPUs below v stand in the sets of those with budget and with overrun to spare as the arrays say, and all but these sets is the same
pub record SuppliedTo (o : OverrunChoice) (ls os : List ℕ) (ss : List Bool) (k k' : List ℕ) (v : ℕ) : Type 0 where
  pub some : 0 < v
  pub within : v ≤ max_v + 1
  pub sized : Sized k'
  pub else_same : (j : ℕ) → (j ≡ at_budget → ⊥) → (j ≡ at_spare → ⊥) → get_or k' j 0 ≡ get_or k j 0
  pub budgets : (w : ℕ) → 0 < w → w < v → in_set (get_or k' at_budget 0) w ≡ ltb 0 (get_or ls (w - 1) 0)
  pub spared : (w : ℕ) → 0 < w → w < v → in_set (get_or k' at_spare 0) w ≡ spares o (get_or ss (w - 1) false) (get_or os (w - 1) 0)

-- the first next of one with period p
abbrev pub first_next : ℕ → ℕ
first_next p = if ltb 0 p then 0 else never

-- the first nexts, by place
abbrev pub first_nexts : List ℕ → ℕ → ℕ
first_nexts x j = first_next (period_at x j)
