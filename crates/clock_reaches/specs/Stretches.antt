-- For how many ticks a task goes on, who idles beside it, and the list of what is known of the cores' turns.
use Rattle.std.specs.Prelude.{ℕ, ◌+◌, ◌-◌, ◌<◌, ◌≡◌, true, List, get_or}
use Rattle.plan.specs.Limits.{max_locks}
use Rattle.plan.specs.declared.Policy.{Policy}
use Rattle.board_seats.specs.Seats.{holds_it}
use Rattle.board_rules.specs.declared.Board.{Board}
use Rattle.board_keeps.specs.Fair.{InV}
use Rattle.clock_rules.specs.Clock.{Timing, idles}
use Rattle.clock_times.specs.Times.{at_begin, at_end, at_mutex, lock_cell, lengths_cell}
use Rattle.clock_sets.specs.Sets.{in_set}
use Rattle.clock_marks.specs.Marks.{done_cell, place_cell, done_in, Mirrors}

-- the section of (v, n) behind those that have ended
abbrev pub next_cell : List ℕ → ℕ → List ℕ → ℕ → ℕ → ℕ
next_cell x at k v n = lock_cell x at v n (place_cell k v n + 1)

-- within r ticks the job of (v, n) neither ends nor ends a section, and asks for nothing that it does not hold
pub record Stretch (x hs k : List ℕ) (v n r : ℕ) : Type 0 where
  pub unfinished : done_cell k v n + r < lengths_cell x v n
  pub ends : place_cell k v n < max_locks → 0 < next_cell x at_mutex k v n → done_cell k v n + r < next_cell x at_end k v n
  pub asks : place_cell k v n < max_locks → 0 < next_cell x at_mutex k v n → (j : ℕ) → j < r → next_cell x at_begin k v n ≡ done_cell k v n + j → holds_it hs v n (next_cell x at_mutex k v n) ≡ true

-- the list of what is known: by core, from 0, for how many ticks its turn stays the same (0 where that is not known), then its VCPU, then its task
abbrev pub plain_length : ℕ
plain_length = 12

abbrev pub ticks_cell : List ℕ → ℕ → ℕ
ticks_cell pl c = get_or pl c 0

abbrev pub vcpu_cell : List ℕ → ℕ → ℕ
vcpu_cell pl c = get_or pl (4 + c) 0

abbrev pub task_cell : List ℕ → ℕ → ℕ
task_cell pl c = get_or pl (8 + c) 0

-- WHAT THE SETS SAY of every board that k goes with: r are the VCPUs that idle in core c's turn,
pub record Idles (p : Policy) (k : List ℕ) (c r : ℕ) : Type 0 where
  pub are : (T : Timing) (x : List ℕ) (b : Board) → T.facts.policy ≡ p → Mirrors T x b k → (w : ℕ) → InV w → in_set r w ≡ idles T c b (done_in k) w

-- each of the set has more than k, unless k is 0
abbrev pub Within : List ℕ → ℕ → ℕ → Type 0
Within ls s k = (w : ℕ) → InV w → in_set s w ≡ true → 0 < k → k < get_or ls (w - 1) 0
