-- What a write changes, beside the changes of `clock_marks`: from k to k'.
use Rattle.std.specs.Prelude.{ℕ, ◌+◌, ◌<◌, ◌≤◌, ◌≡◌, List, Bool, eqb, length, get_or}
use Rattle.std.specs.Prelude.{if◌then◌else◌}
use Rattle.plan.specs.Limits.{max_core}
use Rattle.board_keeps.specs.Fair.{InV}
use Rattle.clock_sets.specs.Sets.{in_set}
use Rattle.clock_marks.specs.Times.{core_cell}
use Rattle.clock_marks.specs.Marks.{Sized, at_budget, at_spare, at_cores}

-- r is s with x, or without it
pub record Put (s x : ℕ) (on : Bool) (r : ℕ) : Type 0 where
  pub names : (w : ℕ) → 0 < w → w ≤ 16 → in_set r w ≡ (if eqb w x then on else in_set s w)
  pub wide : r < 65536
  pub narrow : s < 256 → x ≤ 8 → r < 256

-- VCPU v has budget, or not, and overrun to spare, or not
pub record PutSupply (k k' : List ℕ) (v : ℕ) (p q : Bool) : Type 0 where
  pub length_same : length k' ≡ length k
  pub else_same : (j : ℕ) → (j ≡ at_budget → ⊥) → (j ≡ at_spare → ⊥) → get_or k' j 0 ≡ get_or k j 0
  pub budget_set : get_or k' at_budget 0 < 65536
  pub spare_set : get_or k' at_spare 0 < 65536
  pub budget : (w : ℕ) → InV w → in_set (get_or k' at_budget 0) w ≡ (if eqb w v then p else in_set (get_or k at_budget 0) w)
  pub spare : (w : ℕ) → InV w → in_set (get_or k' at_spare 0) w ≡ (if eqb w v then q else in_set (get_or k at_spare 0) w)

-- s is the set of the VCPUs for which the times x have c
pub record CoreSet (x : List ℕ) (c s : ℕ) : Type 0 where
  pub is_set : s < 65536
  pub names : (w : ℕ) → InV w → in_set s w ≡ eqb (core_cell x w) c

-- the cores' VCPUs are those of the times x
pub record PutCores (x k k' : List ℕ) : Type 0 where
  pub length_same : length k' ≡ length k
  pub else_same : (j : ℕ) → j < at_cores → get_or k' j 0 ≡ get_or k j 0
  pub is_set : (c : ℕ) → c ≤ max_core → get_or k' (at_cores + c) 0 < 65536
  pub names : (c w : ℕ) → c ≤ max_core → InV w → in_set (get_or k' (at_cores + c) 0) w ≡ eqb (core_cell x w) (c + 1)

-- the list says nothing but the cores' VCPUs
pub record Cleared (x k : List ℕ) : Type 0 where
  pub sized : Sized k
  pub empty : (j : ℕ) → j < at_cores → get_or k j 0 ≡ 0
  pub cores : (c w : ℕ) → c ≤ max_core → InV w → in_set (get_or k (at_cores + c) 0) w ≡ eqb (core_cell x w) (c + 1)
