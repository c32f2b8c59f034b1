-- What the list that the clock keeps tells, name by name; a write changes it at one name, and a board is mirrored where it says the same at every name.
use Rattle.std.specs.Prelude.{ℕ, ◌+◌, ◌<◌, ◌≤◌, ◌≡◌, refl, List, Bool, ◌&&◌, not, eqb, ltb, get_or}
use Rattle.std.proofs.Common.{sym, ap, subst, subst₂, ◌∙◌, ⊎_elim, eq-eqb, ne_eqb}
use Rattle.std.specs.Prelude.{if◌then◌else◌}
use Rattle.laws.specs.Range.{any_to}
use Rattle.laws.specs.BoolLaws.{same_or_not}
use Rattle.laws_picks.specs.SameLaws.{any_same}
use Rattle.plan.specs.Limits.{most_n, max_core}
use Rattle.board_rules.specs.declared.Board.{Board}
use Rattle.board_rules.specs.Board.{left_of, over_of, is_stopped, wait_of, holds_global}
use Rattle.board_keeps.specs.Fair.{InV, InN}
use Rattle.clock_rules.specs.Clock.{Timing, is_ready, is_on}
use Rattle.clock_sets.specs.Sets.{in_set}
use Rattle.clock_marks.specs.Marks.{at_budget, at_spare, at_ready, at_holding, at_cores, tasks_cell, holders_cell, held_cell, done_cell, place_cell, done_in, spares, held_by, Ended, Sized, Mirrors}
use Rattle.clock_steps.specs.Done.{by_seat_law}

-- WHAT A LIST MAY TELL: of a core and a VCPU, of a VCPU, and of a task
pub record Reading : Type 0 where
  pub core : ℕ → ℕ → Bool
  pub budget : ℕ → Bool
  pub spare : ℕ → Bool
  pub holding : ℕ → Bool
  pub ready : ℕ → ℕ → Bool
  pub held : ℕ → ℕ → ℕ
  pub done : ℕ → ℕ → ℕ
  pub place : ℕ → ℕ → ℕ

-- the list k tells r
pub record Tells (k : List ℕ) (r : Reading) : Type 0 where
  pub sized : Sized k
  pub cores : (c v : ℕ) → c ≤ max_core → InV v → in_set (get_or k (at_cores + c) 0) v ≡ r.core c v
  pub budgets : (v : ℕ) → InV v → in_set (get_or k at_budget 0) v ≡ r.budget v
  pub spared : (v : ℕ) → InV v → in_set (get_or k at_spare 0) v ≡ r.spare v
  pub some_ready : (v : ℕ) → InV v → in_set (get_or k at_ready 0) v ≡ any_to most_n (r.ready v)
  pub holdings : (v : ℕ) → InV v → in_set (get_or k at_holding 0) v ≡ r.holding v
  pub tasks : (v n : ℕ) → InV v → InN n → in_set (tasks_cell k v) n ≡ r.ready v n
  pub holders : (v n : ℕ) → InV v → InN n → in_set (holders_cell k v) n ≡ not (eqb (r.held v n) 0)
  pub helds : (v n : ℕ) → InV v → InN n → held_cell k v n ≡ r.held v n
  pub dones : (v n : ℕ) → InV v → InN n → done_cell k v n ≡ r.done v n
  pub places : (v n : ℕ) → InV v → InN n → place_cell k v n ≡ r.place v n

-- (v, n) is ready on board b when its job has done d ticks
abbrev pub ready_with : Timing → Board → ℕ → ℕ → ℕ → Bool
ready_with T b v n d = (T.facts.has_task v n && ltb d (T.lengths v n)) && eqb (wait_of b v n) 0

-- the board b says r
pub record Says (T : Timing) (x : List ℕ) (b : Board) (r : Reading) : Type 0 where
  pub core : (c v : ℕ) → c ≤ max_core → InV v → r.core c v ≡ is_on T c v
  pub budget : (v : ℕ) → InV v → r.budget v ≡ ltb 0 (left_of b v)
  pub spare : (v : ℕ) → InV v → r.spare v ≡ spares T.facts.choice (is_stopped b v) (over_of b v)
  pub holding : (v : ℕ) → InV v → r.holding v ≡ holds_global T.facts b v
  pub ready : (v n : ℕ) → InV v → InN n → r.ready v n ≡ ready_with T b v n (r.done v n)
  pub held : (v n : ℕ) → InV v → InN n → r.held v n ≡ held_by T.facts b v n
  pub placed : (v n : ℕ) → InV v → InN n → r.done v n < T.lengths v n → Ended x v n (r.done v n) (r.place v n)

-- what holds from 1 to n, by the numbers' names
pub any_tasks : {f g : ℕ → Bool} → ((n : ℕ) → InN n → f n ≡ g n) → any_to most_n f ≡ any_to most_n g
any_tasks h = any_same most_n (λ k a c. h k (record { from = a; to = c }))

-- WHERE THE LIST TELLS WHAT THE BOARD SAYS, it mirrors the board
pub tells_mirror : {T : Timing} {x : List ℕ} {b : Board} {k : List ℕ} {r : Reading} → Tells k r → Says T x b r → Mirrors T x b k
tells_mirror {T} {x} {b} {k} {r} t s = record {
  sized = t.sized;
  cores = λ c v l i. t.cores c v l i ∙ s.core c v l i;
  budget = λ v i. t.budgets v i ∙ s.budget v i;
  spare = λ v i. t.spared v i ∙ s.spare v i;
  ready = λ v i. t.some_ready v i ∙ any_tasks {f = r.ready v} {g = is_ready T b (done_in k) v} (λ n j. is_ready_law v n i j);
  holding = λ v i. t.holdings v i ∙ s.holding v i;
  tasks = λ v n i j. t.tasks v n i j ∙ is_ready_law v n i j;
  holders = λ v n i j. t.holders v n i j ∙ ap (λ m. not (eqb m 0)) (sym (t.helds v n i j));
  held = λ v n i j. t.helds v n i j ∙ s.held v n i j;
  placed = λ v n i j h.
      subst₂ (λ d q. Ended x v n d q) (sym (t.dones v n i j)) (sym (t.places v n i j)) (s.placed v n i j (subst (λ d. d < T.lengths v n) (t.dones v n i j) h));
}
  where
    is_ready_law : (v n : ℕ) → InV v → InN n → r.ready v n ≡ is_ready T b (done_in k) v n
    is_ready_law v n i j = s.ready v n i j ∙ ap (ready_with T b v n) (sym (by_seat_law (λ x y. done_cell k x y) v n i j ∙ t.dones v n i j))

-- what a list that mirrors board b tells
abbrev pub read_on : Timing → Board → List ℕ → Reading
read_on T b k = record {
  core = λ c v. is_on T c v;
  budget = λ v. ltb 0 (left_of b v);
  spare = λ v. spares T.facts.choice (is_stopped b v) (over_of b v);
  holding = λ v. holds_global T.facts b v;
  ready = λ v n. ready_with T b v n (done_cell k v n);
  held = λ v n. held_by T.facts b v n;
  done = λ v n. done_cell k v n;
  place = λ v n. place_cell k v n;
}

-- it does
pub mirrors_tell : {T : Timing} {x : List ℕ} {b : Board} {k : List ℕ} → Mirrors T x b k → Tells k (read_on T b k)
mirrors_tell {T} {x} {b} {k} t = record {
  sized = t.sized;
  cores = t.cores;
  budgets = t.budget;
  spared = t.spare;
  some_ready = λ v i. t.ready v i ∙ any_tasks {f = is_ready T b (done_in k) v} {g = λ n. ready_with T b v n (done_cell k v n)} (λ n j. is_ready_law v n i j);
  holdings = t.holding;
  tasks = λ v n i j. t.tasks v n i j ∙ is_ready_law v n i j;
  holders = λ v n i j. t.holders v n i j ∙ ap (λ m. not (eqb m 0)) (t.held v n i j);
  helds = t.held;
  dones = λ v n i j. refl;
  places = λ v n i j. refl;
}
  where
    is_ready_law : (v n : ℕ) → InV v → InN n → is_ready T b (done_in k) v n ≡ ready_with T b v n (done_cell k v n)
    is_ready_law v n i j = ap (ready_with T b v n) (by_seat_law (λ x y. done_cell k x y) v n i j)

-- A CHANGE AT ONE NAME
abbrev pub put : {A : Type 0} → (ℕ → A) → ℕ → A → ℕ → A
put f v a w = if eqb w v then a else f w

-- at one task
abbrev pub put_at : {A : Type 0} → (ℕ → ℕ → A) → ℕ → ℕ → A → ℕ → ℕ → A
put_at f v n a w y = if eqb w v then (if eqb y n then a else f w y) else f w y

-- a changed function is g where g has the new value there and the old ones elsewhere
pub put_is : {A : Type 0} (f g : ℕ → A) (v : ℕ) (a : A) → a ≡ g v → ((w : ℕ) → InV w → (w ≡ v → ⊥) → f w ≡ g w) → (w : ℕ) → InV w → put f v a w ≡ g w
put_is f g v a own rest w i = ⊎_elim (λ e. rw (eq-eqb w v e) (own ∙ ap g (sym e))) (λ ne. rw (ne_eqb w v ne) (rest w i ne)) (same_or_not w v)

-- of a task
pub put_at_is : {A : Type 0} (f g : ℕ → ℕ → A) (v n : ℕ) (a : A) → a ≡ g v n → ((w y : ℕ) → InV w → InN y → ((w ≡ v) × (y ≡ n) → ⊥) → f w y ≡ g w y) →
    (w y : ℕ) → InV w → InN y → put_at f v n a w y ≡ g w y
put_at_is f g v n a own rest w y i j =
    ⊎_elim
    (λ e. rw (eq-eqb w v e) (⊎_elim
    (λ q. rw (eq-eqb y n q) (own ∙ ap (λ z. g z n) (sym e) ∙ ap (g w) (sym q)))
    (λ ne. rw (ne_eqb y n ne) (rest w y i j (λ p. ne p.1))) (same_or_not y n)))
    (λ ne. rw (ne_eqb w v ne) (rest w y i j (λ p. ne p.0))) (same_or_not w v)

-- what a changed function is at a task, from what it was there
module _ {A : Type 0} (f : ℕ → ℕ → A) (v n : ℕ) (a : A) where
  -- at the task
  pub put_own : put_at f v n a v n ≡ a
  put_own = rw (eq-eqb v v refl, eq-eqb n n refl)

  -- at another
  pub put_else : (w y : ℕ) → ((w ≡ v) × (y ≡ n) → ⊥) → put_at f v n a w y ≡ f w y
  put_else w y ne =
      ⊎_elim (λ e. rw (eq-eqb w v e, ne_eqb y n (λ q. ne (e, q)))) (λ d. rw (ne_eqb w v d)) (same_or_not w v)
