-- What is known of the cores' turns beside the clock's lists: for how many ticks each stays the same, and what is spent of them.
use Rattle.std.specs.Prelude.{ℕ, ◌+◌, ◌-◌, ◌<◌, ◌≤◌, ◌≡◌, Bool, false, List, ◌⊎◌, eqb, length, get_or, set}
use Rattle.std.specs.Prelude.{if◌then◌else◌}
use Rattle.plan.specs.declared.Policy.{Policy}
use Rattle.board_rules.specs.declared.Board.{Board}
use Rattle.board_keeps.specs.Fair.{InV}
use Rattle.clock_rules.specs.Clock.{Timing}
use Rattle.clock_sets.specs.Sets.{in_set}
use Rattle.clock_marks.specs.Marks.{done_cell, done_in, Sized, Mirrors}
use Rattle.clock_asks.specs.Asked.{KnownPick}
use Rattle.clock_plains.specs.Plains.{Plain, loses}
use Rattle.clock_plains.specs.PlainMirrors.{kept_after}
use Rattle.clock_reaches.specs.Stretches.{plain_length, ticks_cell, vcpu_cell, task_cell, Idles}

-- core c's turn stays the same for as long as the list says
abbrev pub CountedAt : Timing → Board → List ℕ → List ℕ → ℕ → Type 0
CountedAt T b d pl c = 0 < ticks_cell pl c → Plain T c b d (vcpu_cell pl c) (task_cell pl c) (ticks_cell pl c)

-- and picks the task that it says, where it says one: also when none of those ticks is left
abbrev pub PickedAt : Timing → Board → List ℕ → List ℕ → ℕ → Type 0
PickedAt T b d pl c = KnownPick T c b d (vcpu_cell pl c) (task_cell pl c)

-- so does every core's
pub record Counted (T : Timing) (b : Board) (d pl : List ℕ) : Type 0 where
  pub long : length pl ≡ plain_length
  pub core : (c : ℕ) → c ≤ 3 → CountedAt T b d pl c
  pub pick : (c : ℕ) → c ≤ 3 → PickedAt T b d pl c

-- ls' is ls with k less for each of the set s
pub record Lost (ls : List ℕ) (s k : ℕ) (ls' : List ℕ) : Type 0 where
  pub long : length ls' ≡ length ls
  pub left : (w : ℕ) → InV w → get_or ls' (w - 1) 0 ≡ (if in_set s w then get_or ls (w - 1) 0 - k else get_or ls (w - 1) 0)

-- with j less for v, which was picked; 0 is nobody
abbrev pub lost_own : List ℕ → ℕ → ℕ → List ℕ
lost_own ls v j = if eqb v 0 then ls else set ls (v - 1) (get_or ls (v - 1) 0 - j)

-- and with j less for each that loses a tick in core c's turn
pub record LostIn (p : Policy) (k : List ℕ) (c v j : ℕ) (ls ls' : List ℕ) : Type 0 where
  pub long : length ls' ≡ length ls
  pub left : (T : Timing) (x : List ℕ) (b : Board) → T.facts.policy ≡ p → Mirrors T x b k → (w : ℕ) → InV w → get_or ls' (w - 1) 0 ≡ (if loses T c b (done_in k) v w then get_or ls (w - 1) 0 - j else get_or ls (w - 1) 0)

-- j ticks of core c's turn are spent, as the lists say it
pub record Spending (p : Policy) (c j : ℕ) (ls k pl ls' k' pl' : List ℕ) : Type 0 where
  pub lost : LostIn p k c (vcpu_cell pl c) j ls ls'
  pub marks : k' ≡ kept_after k (vcpu_cell pl c) (task_cell pl c) j
  pub plain : pl' ≡ set pl c (ticks_cell pl c - j)

-- what a function asks that spends them
pub record Spendable (p : Policy) (c j : ℕ) (ls k pl : List ℕ) : Type 0 where
  pub left_long : length ls ≡ 16
  pub sized : Sized k
  pub long : length pl ≡ plain_length
  pub c_to : c ≤ 3
  pub v_to : vcpu_cell pl c ≤ 16
  pub n_to : task_cell pl c ≤ 8
  pub busy : 0 < vcpu_cell pl c → (r : ℕ) → Idles p k c r → in_set r (vcpu_cell pl c) ≡ false
  pub done_to : 0 < vcpu_cell pl c → done_cell k (vcpu_cell pl c) (task_cell pl c) + j ≤ 17000000

-- core c's cells are written
pub record PutAt (pl : List ℕ) (c k v n : ℕ) (pl' : List ℕ) : Type 0 where
  pub long : length pl' ≡ length pl
  pub ticks : ticks_cell pl' c ≡ k
  pub vcpu : vcpu_cell pl' c ≡ v
  pub task : task_cell pl' c ≡ n
  pub others : (i : ℕ) → i ≤ 3 → (i ≡ c → ⊥) → (ticks_cell pl' i ≡ ticks_cell pl i) × (vcpu_cell pl' i ≡ vcpu_cell pl i) × (task_cell pl' i ≡ task_cell pl i)

-- and they are right
pub record Put (T : Timing) (b : Board) (d pl : List ℕ) (c : ℕ) (pl' : List ℕ) : Type 0 where
  pub long : length pl' ≡ length pl
  pub own : CountedAt T b d pl' c
  pub own_pick : PickedAt T b d pl' c
  pub others : (i : ℕ) → i ≤ 3 → (i ≡ c → ⊥) → (ticks_cell pl' i ≡ ticks_cell pl i) × (vcpu_cell pl' i ≡ vcpu_cell pl i) × (task_cell pl' i ≡ task_cell pl i)

-- nothing is known any more, or it is as before where nothing was handed on
pub record Forgot (handed : Bool) (pl pl' : List ℕ) : Type 0 where
  pub long : length pl' ≡ length pl
  pub kept : (i : ℕ) → i ≤ 3 → (0 < ticks_cell pl' i) ⊎ (0 < vcpu_cell pl' i) → (handed ≡ false) × (pl' ≡ pl)
