-- Laws of the sheets of a view: a number of them is 1 just where a row says so.
use Rattle.std.specs.Prelude.{ℕ, ◌+◌, ◌-◌, ◌*◌, ◌/◌, ◌%◌, ◌<◌, ◌≤◌, ◌≡◌, Bool, ◌&&◌, ◌||◌, List, [], ◌∷◌, ◌++◌, eqb, length, get_or, take}
use Rattle.std.proofs.Math.Path.{refl, ap, sym}
use Rattle.std.proofs.Common.{◌∙◌, le_antisymm, eq-eqb, eqb-true, lt-ltb, le-ltb, length-take, get_or-set_same, get_or-take, ext_get_or}
use Rattle.std.proofs.Math.Bool.{true, false, or_assoc, or-false, or-true}
use Rattle.std.proofs.Math.Logic.{by_cases}
use Rattle.std.proofs.Math.Decide.{dec_lt}
use Rattle.std.proofs.Math.Numerals.{add-one}
use native.Mathlib.Omega.{arith}
use Rattle.std.proofs.Math.ListN.{set, length-set}
use Rattle.std.proofs.Math.Seq.{get_or-set_other}
use Rattle.laws.specs.BoolLaws.{both, both_left, both_right, clash}
use Rattle.std.specs.Prelude.{if◌then◌else◌}
use Rattle.laws.specs.Choice.{when}
use Rattle.laws.specs.Sums.{any}
use Rattle.laws.specs.Rows.{rows}
use Rattle.plan.specs.Limits.{max_v, max_m, most_n}
use Rattle.plan.specs.declared.Lock.{Lock}
use Rattle.plan.specs.Plan.{Task}
use Rattle.plan_tables.specs.Layout.{task_width, cell, lock_row, task_row}
use Rattle.figures.specs.System.{System}
use Rattle.figures.specs.Figures.{locks_it}
use Rattle.board_rules.specs.Facts.{lists}
use Rattle.board_rules.specs.View.{at_lists, view_length, is_v, is_n, is_m}
use Rattle.board_keeps.specs.Fair.{InV, InN, InM}
use Rattle.board_viewcells.specs.ViewOf.{bit, view_of}
use Rattle.board_views.specs.Sheets.{place_of, Marked, Blank, blank_at, in_turn, marked, marked_by}
use Rattle.board_viewcells.proofs.ViewLaws.{name_in, in_name, view_length_law}
use Rattle.board_viewcells.proofs.FillLaws.{Written, sheet_place}

-- ROWS IN TURN
turn_append : {A B : Type 0} (f : A → B → B) (xs ys : List A) (w : B) → in_turn f (xs ++ ys) w ≡ in_turn f ys (in_turn f xs w)
unfolding in_turn
turn_append f [] ys w = refl
turn_append f (x ∷ xs) ys w = turn_append f xs ys (f x w)

-- the first i of n rows have had their turn, and w₀ is now w
pub record Turned {A : Type 0} (f : A → List ℕ → List ℕ) (row : ℕ → A) (n : ℕ) (w₀ w : List ℕ) (i : ℕ) : Type 0 where
  pub within : i ≤ n
  pub room : length w ≡ length w₀
  pub is : w ≡ in_turn f (rows i row) w₀

module _ {A : Type 0} {f : A → List ℕ → List ℕ} {row : ℕ → A} {n : ℕ} {w₀ : List ℕ} where
  pub turned_none : Turned f row n w₀ w₀ 0
  unfolding in_turn rows
  turned_none = record { within = omega arith; room = refl; is = refl }

  pub turned_more : {w u : List ℕ} {i : ℕ} → Turned f row n w₀ w i → i < n → length u ≡ length w → u ≡ f (row i) w → Turned f row n w₀ u (i + 1)
  unfolding in_turn rows
  turned_more {w} {u} {i} h l k e = record {
    within = omega arith;
    room = k ∙ h.room;
    is = rw add-one (e ∙ ap (f (row i)) h.is ∙ sym (turn_append f (rows i row) (row i ∷ []) w₀));
  }

  pub turned_all : {w : List ℕ} {i : ℕ} → Turned f row n w₀ w i → n ≤ i → w ≡ in_turn f (rows n row) w₀
  turned_all h l = rw (le_antisymm l h.within) h.is

-- THE NUMBERS BEFORE ANY IS SET
pub blank_front : (s : System) (k : ℕ) → k < at_lists → blank_at s k ≡ get_or (view_of s) k 0
unfolding blank_at when
blank_front s k l = rw (lt-ltb k at_lists l)

pub blank_sheets : (s : System) (k : ℕ) → at_lists ≤ k → blank_at s k ≡ 0
unfolding blank_at when
blank_sheets s k l = rw (le-ltb k at_lists l)

pub written_blank : {s : System} {n i k : ℕ} {view : List ℕ} → view_length ≤ n → Written (blank_at s) n view i k → view_length ≤ k → Blank s view
unfolding when
written_blank {s} r h l = record {
  room = omega (arith, h.room);
  front = λ j m. h.at j (omega arith) ∙ blank_front s j m;
  at = λ j m. h.at (at_lists + j) (omega arith) ∙ blank_sheets s (at_lists + j) (omega arith);
}

-- ONE NUMBER

-- number j of the sheets is that of m in the sheet of (v, n)
abbrev hits : ℕ → ℕ → ℕ → ℕ → Bool
hits v n m j = (eqb v (j / 256 + 1) && eqb n (j / 32 % 8 + 1)) && eqb m (j % 32 + 1)

module _ (v n m j : ℕ) where
  hit_names : hits v n m j ≡ true → (v ≡ j / 256 + 1) × (n ≡ j / 32 % 8 + 1) × (m ≡ j % 32 + 1)
  hit_names e =
      let a = both_left (eqb v (j / 256 + 1) && eqb n (j / 32 % 8 + 1)) (eqb m (j % 32 + 1)) e in (
        eqb-true v _ (both_left (eqb v (j / 256 + 1)) (eqb n (j / 32 % 8 + 1)) a),
        eqb-true n _ (both_right (eqb v (j / 256 + 1)) (eqb n (j / 32 % 8 + 1)) a),
        eqb-true m _ (both_right (eqb v (j / 256 + 1) && eqb n (j / 32 % 8 + 1)) (eqb m (j % 32 + 1)) e),
      )

  names_hit : v ≡ j / 256 + 1 → n ≡ j / 32 % 8 + 1 → m ≡ j % 32 + 1 → hits v n m j ≡ true
  names_hit a b c =
      both (eqb v (j / 256 + 1) && eqb n (j / 32 % 8 + 1)) (eqb m (j % 32 + 1))
      (both (eqb v (j / 256 + 1)) (eqb n (j / 32 % 8 + 1)) (eq-eqb v _ a) (eq-eqb n _ b)) (eq-eqb m _ c)

  -- such names are in range
  hit_in : j < max_v * most_n * max_m → hits v n m j ≡ true → ((is_v v && is_n n) && is_m m) ≡ true
  hit_in l e =
      let h = hit_names e in
      both (is_v v && is_n n) (is_m m)
      (both (is_v v) (is_n n) (name_in v max_v (omega arith)) (name_in n most_n (omega arith)))
      (name_in m max_m (omega arith))

pub names : (v n m : ℕ) → ((is_v v && is_n n) && is_m m) ≡ true → InV v × InN n × InM m
names v n m e =
    let a = both_left (is_v v && is_n n) (is_m m) e in
    (in_name v max_v (both_left (is_v v) (is_n n) a), in_name n most_n (both_right (is_v v) (is_n n) a), in_name m max_m (both_right (is_v v && is_n n) (is_m m) e))

-- names in range set their number, which is k; others set none
pub marked_in : (v n m : ℕ) (w : List ℕ) {k : ℕ} → ((is_v v && is_n n) && is_m m) ≡ true → k ≡ place_of v n m → set w k 1 ≡ marked v n m w
unfolding marked
marked_in v n m w e h = ap (λ j. set w j 1) h ∙ ap (λ t. if t then set w (place_of v n m) 1 else w) (sym e)

pub marked_out : (v n m : ℕ) (w : List ℕ) → ((is_v v && is_n n) && is_m m) ≡ false → w ≡ marked v n m w
unfolding marked
marked_out v n m w e = ap (λ t. if t then set w (place_of v n m) 1 else w) (sym e)

module _ {s : System} {q : ℕ → Bool} {w : List ℕ} (v n m : ℕ) (h : Marked s q w) where
  -- number j after (v, n) and m are marked, by whether it is theirs
  set_at : InV v × InN n × InM m → (j : ℕ) → j < max_v * most_n * max_m → (t : Bool) → hits v n m j ≡ t → get_or (set w (place_of v n m) 1) (at_lists + j) 0 ≡ bit (q j || t)
  unfolding when
  set_at i j l true e =
      let g = hit_names v n m j e in
      let z : place_of v n m ≡ at_lists + j = omega arith in
      rw (z, or-true) (get_or-set_same w (at_lists + j) 1 0 (omega (arith, h.room)))
  set_at i j l false e =
      get_or-set_other w (place_of v n m) (at_lists + j) 1 0 (λ z. clash (names_hit v n m j (omega arith) (omega arith) (omega arith)) e)
      ∙ h.at j l
      ∙ ap bit (sym (or-false (q j)))

  same_at : ((is_v v && is_n n) && is_m m) ≡ false → (j : ℕ) → j < max_v * most_n * max_m → (t : Bool) → hits v n m j ≡ t → get_or w (at_lists + j) 0 ≡ bit (q j || t)
  same_at o j l true e = absurd (clash (hit_in v n m j l e) o)
  same_at o j l false e = h.at j l ∙ ap bit (sym (or-false (q j)))

  pub marked_more : Marked s (λ j. q j || hits v n m j) (marked v n m w)
  unfolding marked
  marked_more = go ((is_v v && is_n n) && is_m m) refl
    where
      go :
          (t : Bool) → ((is_v v && is_n n) && is_m m) ≡ t →
          Marked s (λ j. q j || hits v n m j) (if t then set w (place_of v n m) 1 else w)
      go true e =
          record {
            room = omega (arith, h.room, length-set w (place_of v n m) 1);
            front = λ j l. get_or-set_other w (place_of v n m) j 1 0 (λ z. omega arith) ∙ h.front j l;
            at = λ j l. set_at (names v n m e) j l (hits v n m j) refl;
          }
      go false e = record { room = h.room; front = h.front; at = λ j l. same_at e j l (hits v n m j) refl }

-- THE NUMBERS OF ROWS
marked_same : {s : System} {p q : ℕ → Bool} {w : List ℕ} → ((j : ℕ) → p j ≡ q j) → Marked s p w → Marked s q w
marked_same e h = record { room = h.room; front = h.front; at = λ j l. h.at j l ∙ ap bit (e j) }

-- each row x sets the numbers of which t x holds
turn_marked :
    {A : Type 0} {s : System} (f : A → List ℕ → List ℕ) (t : A → ℕ → Bool) →
    ((q : ℕ → Bool) (w : List ℕ) (x : A) → Marked s q w → Marked s (λ j. q j || t x j) (f x w)) →
    (xs : List A) (q : ℕ → Bool) (w : List ℕ) → Marked s q w → Marked s (λ j. q j || any (λ x. t x j) xs) (in_turn f xs w)
unfolding in_turn any
turn_marked f t one [] q w h = marked_same (λ j. sym (or-false (q j))) h
turn_marked f t one (x ∷ xs) q w h =
    marked_same (λ j. or_assoc (q j) (t x j) (any (λ y. t y j) xs)) (turn_marked f t one xs (λ j. q j || t x j) (f x w) (one q w x h))

-- a test that stands beside that of every row
any_beside : {A : Type 0} (c : Bool) (f : A → Bool) (xs : List A) → any (λ x. c && f x) xs ≡ (c && any f xs)
unfolding any
any_beside true f xs = refl
any_beside false f [] = refl
any_beside false f (x ∷ xs) = any_beside false f xs

-- task k is that of number j, and locks its mutex
abbrev lists_at : ℕ → Task → Bool
lists_at j k = (eqb k.v (j / 256 + 1) && eqb k.n (j / 32 % 8 + 1)) && locks_it (j % 32 + 1) k

marked_by_law : {s : System} (q : ℕ → Bool) (w : List ℕ) (k : Task) → Marked s q w → Marked s (λ j. q j || lists_at j k) (marked_by k w)
unfolding marked_by
marked_by_law q w k h =
    marked_same
    (λ j. ap (λ t. q j || t) (any_beside (eqb k.v (j / 256 + 1) && eqb k.n (j / 32 % 8 + 1)) (λ (l : Lock). eqb l.m (j % 32 + 1)) k.locks))
    (turn_marked (λ (l : Lock). marked k.v k.n l.m) (λ l j. hits k.v k.n l.m j) (λ p u l g. marked_more k.v k.n l.m g) k.locks q w h)

-- the numbers of a task's row were read into v, n and e
pub row_marked :
    (t : List ℕ) (a : ℕ) (w : List ℕ) {u : List ℕ} {v n e : ℕ} → v ≡ cell t task_width a 0 → n ≡ cell t task_width a 1 → e ≡ cell t task_width a 4 →
    u ≡ in_turn (λ (l : Lock). marked v n l.m) (rows e (lock_row t a)) w → u ≡ marked_by (task_row t a) w
unfolding marked_by task_row
row_marked t a w p q r h = h ∙ (λ i. in_turn (λ (l : Lock). marked (p i) (q i) l.m) (rows (r i) (lock_row t a)) w)

-- a list whose sheets are those of the tasks is the view
marked_all : {s : System} {w : List ℕ} → Marked s (λ j. any (lists_at j) s.tasks) w → take view_length w ≡ view_of s
unfolding lists
marked_all {s} {w} h =
    let e = length-take view_length w in
    let a = view_length_law s in
    let b = h.room in
    ext_get_or 0 (take view_length w) (view_of s) (omega arith)
    (λ j m. get_or-take view_length w j 0 (omega arith) ∙ by_cases (dec_lt j at_lists) (h.front j) (λ o.
    let z : j ≡ at_lists + (j - at_lists) = omega arith in rw z (h.at (j - at_lists) (omega arith) ∙ sheet_place s (j - at_lists) (omega arith))))

-- THE SHEETS of every row, written over zeros
pub marked_view : {s : System} {w u : List ℕ} → Blank s w → u ≡ in_turn marked_by s.tasks w → take view_length u ≡ view_of s
marked_view {s} {w} h e = rw e (marked_all (turn_marked marked_by (λ k j. lists_at j k) marked_by_law s.tasks (λ j. false) w h))
