-- What a write changes of the list that the clock keeps: from k to k'.
use Rattle.std.specs.Prelude.{ℕ, ◌+◌, ◌<◌, ◌≡◌, List, Bool, not, eqb, length, get_or}
use Rattle.std.specs.Prelude.{if◌then◌else◌}
use Rattle.laws.specs.Range.{any_to}
use Rattle.plan.specs.Limits.{most_n}
use Rattle.board_seats.specs.Seats.{seat}
use Rattle.clock_times.specs.Fair.{InV, InN}
use Rattle.clock_sets.specs.Sets.{in_set}
use Rattle.clock_marks.specs.Marks.{at_ready, at_tasks, at_holders, at_held, tasks_cell, holders_cell, held_cell}

-- VCPU v is in the set at i, or not
pub record PutIn (k k' : List ℕ) (i v : ℕ) (on : Bool) : Type 0 where
  pub length_same : length k' ≡ length k
  pub else_same : (j : ℕ) → (j ≡ i → ⊥) → get_or k' j 0 ≡ get_or k j 0
  pub is_set : get_or k' i 0 < 65536
  pub names : (w : ℕ) → InV w → in_set (get_or k' i 0) w ≡ (if eqb w v then on else in_set (get_or k i 0) w)

-- task (v, n) is ready, or not; so is v with its tasks
pub record PutReady (k k' : List ℕ) (v n : ℕ) (on : Bool) : Type 0 where
  pub length_same : length k' ≡ length k
  pub else_same : (j : ℕ) → (j ≡ at_ready → ⊥) → (j ≡ at_tasks + v → ⊥) → get_or k' j 0 ≡ get_or k j 0
  pub is_set : get_or k' at_ready 0 < 65536
  pub few : tasks_cell k' v < 256
  pub tasks : (x : ℕ) → InN x → in_set (tasks_cell k' v) x ≡ (if eqb x n then on else in_set (tasks_cell k v) x)
  pub names : (w : ℕ) → InV w → in_set (get_or k' at_ready 0) w ≡ (if eqb w v then any_to most_n (in_set (tasks_cell k' v)) else in_set (get_or k at_ready 0) w)

-- task (v, n) holds m, 0 for nothing
pub record PutHeld (k k' : List ℕ) (v n m : ℕ) : Type 0 where
  pub length_same : length k' ≡ length k
  pub else_same : (j : ℕ) → (j ≡ at_holders + v → ⊥) → (j ≡ at_held + seat v n → ⊥) → get_or k' j 0 ≡ get_or k j 0
  pub few : holders_cell k' v < 256
  pub holders : (x : ℕ) → InN x → in_set (holders_cell k' v) x ≡ (if eqb x n then not (eqb m 0) else in_set (holders_cell k v) x)
  pub held : held_cell k' v n ≡ m
