-- Laws of the places of locks, eight to a task, and of the answers that stand in them.
use Prim.Native.Nat.{ℕ, zero, suc, ◌+◌, ◌-◌, ◌*◌, ◌/◌, ◌%◌, ◌≤◌, ◌<◌}
use Rattle.std.specs.Prelude.{◌≡◌, Bool, true, false, ◌&&◌, ltb}
use Rattle.std.proofs.Math.Path.{refl, ap, ap₂, sym}
use Rattle.std.proofs.Common.{◌∙◌, lt-ltb, le-ltb, ltb-true}
use mathlib.Core.List.{List, [], ◌∷◌, ◌++◌, append_assoc, append-nil}
use native.Mathlib.Omega.{arith}
use Rattle.std.proofs.Math.Dec.{eqb}
use Rattle.std.proofs.Math.ListN.{get_or}
use Rattle.laws.specs.BoolLaws.{both_left, both_right}
use Rattle.std.specs.Prelude.{if◌then◌else◌}
use Rattle.laws.specs.Choice.{when}
use Rattle.laws.specs.Sums.{flat}
use Rattle.laws.specs.Rows.{rows, Is}
use Rattle.laws.specs.RowLaws.{rows_length}
use Rattle.laws.specs.SumLaws.{flat_append}
use Rattle.search.specs.declared.Answer.{Answer}
use Rattle.search.specs.declared.Answer.TheVariants.{Fits, Late}
use Rattle.search.specs.Search.{window, Smallest, solve}
use Rattle.search.proofs.SearchLaws.{solve_right}
use Rattle.search.specs.Row.{row_in}
use Rattle.plan.specs.declared.Lock.{Lock}
use Rattle.plan.specs.Plan.{Task}
use Rattle.plan.specs.Lookup.{global}
use Rattle.plan_tables.specs.Layout.{cell, zeros, over, vcpu_row, lock_row, task_row, task_width}
use Rattle.figures.specs.System.{System}
use Rattle.figures.specs.Figures.{wait_start, wait_demand, is_section}
use Rattle.figures.proofs.Demands.{wait_demand_law}
use Rattle.figures.specs.Answers.{vcpu_answer, wait_answer, task_answer, ticks_of, is_late}
use Rattle.figures_slices.specs.Store.{answer_cells, task_answer_cells, wait_cells, place_cells, vcpu_answers, wait_answers, task_answers}
use Rattle.figures_slices.specs.Filled.{row_cells, three_of, answer_row, task_answer_row, section_at, place_row, place_at, Filled, Places}
use Rattle.figures_slices.specs.FilledLaws.{filled_all}

-- ROWS BY THEIR NUMBER
abbrev pub flat_below : {B : Type 0} → ℕ → (ℕ → List B) → List B
flat_below n f = flat f (rows n (λ k. k))

module _ {B : Type 0} where
  to_next : (f : ℕ → List B) (n : ℕ) → flat_below (suc n) f ≡ flat_below n f ++ f n
  unfolding rows flat
  to_next f n = flat_append f (rows n (λ k. k)) (n ∷ []) ∙ ap (λ l. flat_below n f ++ l) (append-nil (f n))

  to_same : (n : ℕ) (f g : ℕ → List B) → ((k : ℕ) → k < n → f k ≡ g k) → flat_below n f ≡ flat_below n g
  unfolding rows flat
  to_same zero f g h = refl
  to_same (suc n) f g h = to_next f n ∙ ap₂ ◌++◌ (to_same n f g (λ k l. h k (omega arith))) (h n (omega arith)) ∙ sym (to_next g n)

  to_add : (a b : ℕ) (f : ℕ → List B) → flat_below (a + b) f ≡ flat_below a f ++ flat_below b (λ j. f (a + j))
  unfolding rows flat
  to_add a zero f = ap (λ m. flat_below m f) {x = a + 0} {y = a} (omega arith) ∙ sym (append-nil (flat_below a f))
  to_add a (suc b) f =
      ap (λ m. flat_below m f) {x = a + suc b} {y = suc (a + b)} (omega arith)
      ∙ to_next f (a + b)
      ∙ ap (λ l. l ++ f (a + b)) (to_add a b f)
      ∙ append_assoc (flat_below a f) (flat_below b (λ j. f (a + j))) (f (a + b))
      ∙ ap (λ l. flat_below a f ++ l) (sym (to_next (λ j. f (a + j)) b))

  to_rows : {A : Type 0} (g : A → List B) (row : ℕ → A) (n : ℕ) → flat g (rows n row) ≡ flat_below n (λ k. g (row k))
  unfolding rows flat
  to_rows g row zero = refl
  to_rows g row (suc n) =
      flat_append g (rows n row) (row n ∷ [])
      ∙ ap₂ ◌++◌ (to_rows g row n) (append-nil (g (row n)))
      ∙ sym (to_next (λ k. g (row k)) n)

-- ZEROS
zeros_add : (a b : ℕ) → zeros (a + b) ≡ zeros a ++ zeros b
unfolding zeros
zeros_add zero b = ap zeros {x = 0 + b} {y = b} (omega arith)
zeros_add (suc a) b = ap zeros {x = suc a + b} {y = suc (a + b)} (omega arith) ∙ ap (λ l. 0 ∷ l) (zeros_add a b)

zero_cells : (d : ℕ) → flat_below d (λ j. row_cells (three_of 0 0 0)) ≡ zeros (d * 3)
unfolding zeros rows flat
zero_cells zero = refl
zero_cells (suc d) =
    to_next (λ j. row_cells (three_of 0 0 0)) d
    ∙ ap (λ l. l ++ (0 ∷ 0 ∷ 0 ∷ [])) (zero_cells d)
    ∙ sym (zeros_add (d * 3) 3)
    ∙ ap zeros {x = d * 3 + 3} {y = suc d * 3} (omega arith)

-- THE PLACES OF A TASK
choice_cells : (b : Bool) (a : Answer) → row_cells (if b then answer_row a else three_of 0 0 0) ≡ (if b then answer_cells a else zeros 3)
unfolding zeros
choice_cells true a = refl
choice_cells false a = refl

module _ (s : System) (t : List ℕ) (i j : ℕ) where
  place_in : j < cell t task_width i 4
      → place_row s t i j ≡ (if is_section s (lock_row t i j) then answer_row (wait_answer s (task_row t i) (lock_row t i j)) else three_of 0 0 0)
  unfolding place_row section_at
  place_in l = rw (lt-ltb j (cell t task_width i 4) l)

  place_out : cell t task_width i 4 ≤ j → place_row s t i j ≡ three_of 0 0 0
  unfolding place_row section_at
  place_out l = rw (le-ltb j (cell t task_width i 4) l)

place_cells_law : (s : System) (t : List ℕ) (i : ℕ) → cell t task_width i 4 ≤ 8 → flat_below 8 (λ j. row_cells (place_row s t i j)) ≡ place_cells s (task_row t i)
unfolding place_cells task_row
place_cells_law s t i h =
    let c = cell t task_width i 4 in
    let k = task_row t i in
    ap (λ m. flat_below m (λ j. row_cells (place_row s t i j))) {x = 8} {y = c + (8 - c)} (omega arith)
    ∙ to_add c (8 - c) (λ j. row_cells (place_row s t i j))
    ∙ ap₂ ◌++◌
    (to_same c _ _ (λ j l. ap row_cells (place_in s t i j l) ∙ choice_cells (is_section s (lock_row t i j)) (wait_answer s k (lock_row t i j)))
    ∙ sym (to_rows (wait_cells s k) (lock_row t i) c))
    (to_same (8 - c) _ _ (λ j l. ap row_cells (place_out s t i (c + j) (omega arith)))
    ∙ zero_cells (8 - c)
    ∙ ap (λ m. zeros ((8 - m) * 3)) (sym (rows_length c (lock_row t i))))

waits_are : (s : System) (t : List ℕ) (n : ℕ) → ((i : ℕ) → i < n → cell t task_width i 4 ≤ 8)
    → flat_below (n * 8) (λ k. row_cells (place_at s t k)) ≡ flat (place_cells s) (rows n (task_row t))
unfolding rows flat
waits_are s t zero h = refl
waits_are s t (suc n) h =
    ap (λ m. flat_below m (λ k. row_cells (place_at s t k))) {x = suc n * 8} {y = n * 8 + 8} (omega arith)
    ∙ to_add (n * 8) 8 (λ k. row_cells (place_at s t k))
    ∙ ap₂ ◌++◌ (waits_are s t n (λ i l. h i (omega arith)))
    (to_same 8 _ _ (λ j l.
    let a : (n * 8 + j) / 8 ≡ n = omega arith in
    let b : (n * 8 + j) % 8 ≡ j = omega arith in
    ap₂ (λ x y. row_cells (place_row s t x y)) a b)
    ∙ place_cells_law s t n (h n (omega arith))
    ∙ sym (append-nil (place_cells s (task_row t n))))
    ∙ sym (flat_append (place_cells s) (rows n (task_row t)) (task_row t n ∷ []))

-- A WAIT THAT WAS SEARCHED
pub wait_is : {v m l : ℕ} (s : System) (k : Task) (x : Lock) → v ≡ k.v → m ≡ x.m → l ≡ k.period
    → solve (wait_demand s v m) (wait_start s v m) l ≡ wait_answer s k x
unfolding wait_answer
wait_is s k x e f g = rw (e, f, g)

-- lock j of task i is a global section or not, as b says
pub place_section : {b : Bool} (s : System) (t : List ℕ) (i j : ℕ) → b ≡ section_at s t i j → b ≡ true
    → answer_row (wait_answer s (task_row t i) (lock_row t i j)) ≡ place_row s t i j
unfolding place_row
place_section s t i j e f = rw (← e, f)

pub place_none : {b : Bool} (s : System) (t : List ℕ) (i j : ℕ) → b ≡ section_at s t i j → b ≡ false → three_of 0 0 0 ≡ place_row s t i j
unfolding place_row
place_none s t i j e f = rw (← e, f)

pub section_global : {b : Bool} (s : System) (t : List ℕ) (i j : ℕ) → b ≡ section_at s t i j → b ≡ true → is_section s (lock_row t i j) ≡ true
unfolding section_at
section_global s t i j e f = both_right (ltb j (cell t task_width i 4)) (is_section s (lock_row t i j)) (sym e ∙ f)

-- waits of one task on one mutex have the same answer
wait_same : (s : System) (k : Task) (x y : Lock) → x.m ≡ y.m → wait_answer s k x ≡ wait_answer s k y
unfolding wait_answer
wait_same s k x y e = ap (λ m. solve (wait_demand s k.v m) (wait_start s k.v m) k.period) e

place_of : (s : System) (t : List ℕ) (i e : ℕ) → e < 8 → place_at s t (i * 8 + e) ≡ place_row s t i e
place_of s t i e l =
    let a : (i * 8 + e) / 8 ≡ i = omega arith in
    let b : (i * 8 + e) % 8 ≡ e = omega arith in
    ap₂ (place_row s t) a b

pub same_place : {b : Bool} (s : System) (t : List ℕ) (i j e : ℕ) → b ≡ section_at s t i j → b ≡ true → e ≤ j → j < 8 → (lock_row t i e).m ≡ (lock_row t i j).m
    → place_at s t (i * 8 + e) ≡ place_row s t i j
unfolding section_at
same_place s t i j e d f l h q =
    let c : j < cell t task_width i 4 = ltb-true _ _ (both_left (ltb j (cell t task_width i 4)) (is_section s (lock_row t i j)) (sym d ∙ f)) in
    place_of s t i e (omega arith)
    ∙ place_in s t i e (omega arith)
    ∙ ap₂ (λ m a. if global s.mutexes m then answer_row a else three_of 0 0 0) q (wait_same s (task_row t i) (lock_row t i e) (lock_row t i j) q)
    ∙ sym (place_in s t i j c)

-- ALL ANSWERS OF A KIND
pub vcpus_over : {xs xs₀ : List ℕ} {n i : ℕ} (s : System) (vt : List ℕ) → s.vcpus ≡ rows n (vcpu_row vt)
    → Filled (λ x. answer_row (vcpu_answer s x)) (vcpu_row vt) xs₀ n xs i → n ≤ i → xs ≡ over (vcpu_answers s) xs₀
unfolding vcpu_answers
vcpus_over {xs₀} s vt e h l =
    filled_all (λ x. answer_cells (vcpu_answer s x)) h l (λ x. refl)
    ∙ ap (λ ys. over (flat (λ x. answer_cells (vcpu_answer s x)) ys) xs₀) (sym e)

pub tasks_over : {xs xs₀ : List ℕ} {n i : ℕ} (s : System) (ts : List ℕ) → s.tasks ≡ rows n (task_row ts)
    → Filled (λ x. task_answer_row (task_answer s x)) (task_row ts) xs₀ n xs i → n ≤ i → xs ≡ over (task_answers s) xs₀
unfolding task_answers
tasks_over {xs₀} s ts e h l =
    filled_all (λ x. task_answer_cells (task_answer s x)) h l (λ x. refl)
    ∙ ap (λ ys. over (flat (λ x. task_answer_cells (task_answer s x)) ys) xs₀) (sym e)

pub waits_over : {xs xs₀ : List ℕ} {i : ℕ} (s : System) (ts : List ℕ) (n : ℕ) → s.tasks ≡ rows n (task_row ts) → ((k : ℕ) → k < n → cell ts task_width k 4 ≤ 8)
    → Filled (place_at s ts) (λ k. k) xs₀ (n * 8) xs i → n * 8 ≤ i → xs ≡ over (wait_answers s) xs₀
unfolding wait_answers
waits_over {xs₀} s ts n e c h l =
    filled_all (λ k. row_cells (place_at s ts k)) h l (λ k. refl)
    ∙ ap (λ ys. over ys xs₀) (waits_are s ts n c ∙ ap (flat (place_cells s)) (sym e))

-- WHAT IS READ BACK
ticks_small : (d : ℕ → ℕ) (l : ℕ) (a : Answer) → Smallest d l (window a) → ticks_of a ≤ l
ticks_small d l (Fits w n) h = h.0
ticks_small d l (Late n) h = omega arith

wait_small : (s : System) (k : Task) (x : Lock) → ticks_of (wait_answer s k x) ≤ k.period
unfolding wait_answer
wait_small s k x =
    ticks_small (wait_demand s k.v x.m) k.period (solve (wait_demand s k.v x.m) (wait_start s k.v x.m) k.period)
    (solve_right (wait_demand_law s k.v x.m)).smallest

when_small : (b : Bool) {x n : ℕ} → x ≤ n → when b x ≤ n
unfolding when
when_small true h = h
when_small false h = omega arith

choice_ticks : (b : Bool) (a : Answer) → (if b then answer_row a else three_of 0 0 0).period ≡ when b (ticks_of a)
unfolding when
choice_ticks true (Fits w n) = refl
choice_ticks true (Late n) = refl
choice_ticks false a = refl

choice_late : (b : Bool) (a : Answer) → (b && eqb (if b then answer_row a else three_of 0 0 0).shift 0) ≡ (b && is_late a)
choice_late true (Fits w n) = refl
choice_late true (Late n) = refl
choice_late false a = refl

module _ {s : System} {t : List ℕ} {n : ℕ} {wa : List ℕ} (h : Places s t n wa) (i j : ℕ) (l : i * 8 + j < n) (c : j < cell t task_width i 4) (e : j < 8) where
  place_read : row_in wa (i * 8 + j)
      ≡ (if is_section s (lock_row t i j) then answer_row (wait_answer s (task_row t i) (lock_row t i j)) else three_of 0 0 0)
  place_read = h.at (i * 8 + j) l ∙ place_of s t i j e ∙ place_in s t i j c

  pub ticks_read : (task_row t i).period ≤ 1000000
      → Is (get_or wa ((i * 8 + j) * 3 + 1) 0) (when (is_section s (lock_row t i j)) (ticks_of (wait_answer s (task_row t i) (lock_row t i j)))) 1000000
  unfolding row_in
  ticks_read p =
      let g = is_section s (lock_row t i j) in
      let a = wait_answer s (task_row t i) (lock_row t i j) in
      let q : get_or wa ((i * 8 + j) * 3 + 1) 0 ≡ when g (ticks_of a) = ap (λ r. r.period) place_read ∙ choice_ticks g a in
      let z : when g (ticks_of a) ≤ (task_row t i).period = when_small g (wait_small s (task_row t i) (lock_row t i j)) in
      record { is = q; small = omega arith }

  pub late_read : {b : Bool} {x : ℕ} → b ≡ is_section s (lock_row t i j) → x ≡ get_or wa ((i * 8 + j) * 3) 0
      → (b && eqb x 0) ≡ (is_section s (lock_row t i j) && is_late (wait_answer s (task_row t i) (lock_row t i j)))
  unfolding row_in
  late_read d f =
      ap₂ (λ y z. y && eqb z 0) d (f ∙ ap (λ r. r.shift) place_read)
      ∙ choice_late (is_section s (lock_row t i j)) (wait_answer s (task_row t i) (lock_row t i j))

-- what is found over the first n locks of task i, which has n
pub found_locks : {b : Bool} {n : ℕ} (t : List ℕ) (i : ℕ) (g : List Lock → Bool) → n ≡ cell t task_width i 4 → b ≡ g (rows n (lock_row t i)) → b ≡ g (task_row t i).locks
unfolding task_row
found_locks t i g e h = rw e at h
