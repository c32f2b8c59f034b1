-- What the items of a plan write into the table of tasks: the rows of its tasks.
use Prim.Native.Nat.{ℕ, zero, suc, ◌+◌, ◌-◌, ◌*◌, ◌≤◌, ◌<◌}
use Rattle.std.specs.Prelude.{◌≡◌, get_or}
use Rattle.std.proofs.Math.Path.{refl, ap, ap₂}
use Rattle.std.proofs.Common.{sym, ◌∙◌, drop-drop, drop-cons}
use mathlib.Core.List.{List, [], ◌∷◌, ◌++◌, append_assoc, append-nil}
use Rattle.std.proofs.Math.Bool.{Bool, true, false}
use native.Mathlib.Omega.{arith}
use Rattle.std.proofs.Math.ListN.{length, drop, set, length-append, length-drop}
use Rattle.std.proofs.lemmas.List.{set_at}
use Rattle.std.proofs.Math.Dec.{eqb, ltb}
use borrow.Author.Tests.{lt-ltb, ltb-true, ne_eqb}
use Rattle.laws.specs.Sums.{flat, Each}
use Rattle.laws.specs.SumLaws.{each_map, flat_append, each_flat}
use Rattle.plan.specs.Limits.{max_locks}
use Rattle.plan.specs.declared.Kind.{Kind}
use Rattle.plan.specs.declared.Kind.TheVariants.{PlanLine, GuestLine, TaskLine, LockLine, EndLine}
use Rattle.plan.specs.Line.{Item}
use Rattle.plan.specs.declared.Lock.{Lock}
use Rattle.plan.specs.Plan.{Task, Section, Plan, tasks_of}
use Rattle.plan.specs.declared.Policy.{Policy}
use Rattle.plan.specs.declared.Policy.TheVariants.{Periodic, Deferrable}
use Rattle.plan.specs.declared.OverrunChoice.{OverrunChoice}
use Rattle.plan.specs.declared.OverrunChoice.TheVariants.{WithOverrun, WithoutOverrun}
use Rattle.plan.specs.Text.{item, policy_kind, run_item, lock_items, task_items, section_items, items_of}
use Rattle.plan_tables.specs.Layout.{zeros, lock_cells, task_cells, task_width, over}
use Rattle.plan_tables.proofs.LayoutLaws.{Few, task_wide, zeros_length}
use Rattle.plan_tables.specs.FlatLaws.{flat_length}
use Rattle.read_tally.specs.declared.Tally.{Tally}
use Rattle.plan_tables.specs.RowPlaces.{most}
use Rattle.read_tally.specs.Tally.{mark_of, bumped, locks_by, tally_by, blank}
use Rattle.read_tally.specs.ItemLaws.{say_of, over_vcpus, over_mutexes, over_opens, from_sections, from_opens, from_mutexes, from_vcpus}
use Rattle.plan_tables.specs.RowPlaces.{place, run_place}
use Rattle.read_fill.specs.Fill.{put_if, wiped, task_line_put, run_put, lock_put, task_put}
use Rattle.read_fill.specs.RowLaws.{filled_items, set_right}

-- ZEROS

zeros_more : (n : ℕ) (R : List ℕ) → zeros n ++ (0 ∷ R) ≡ zeros (suc n) ++ R
unfolding zeros
zeros_more zero R = refl
zeros_more (suc n) R = ap (λ x. 0 ∷ x) (zeros_more n R)

pub wiped_part : (P Q : List ℕ) (k n : ℕ) → length P ≡ k → n ≤ length Q → wiped (P ++ Q) k n ≡ P ++ (zeros n ++ drop n Q)
unfolding wiped
wiped_part P Q k zero l h = unfold zeros in refl
wiped_part P Q k (suc n) l h =
    let g : n < length Q = h in
    ap (λ x. set x (k + n) 0) (wiped_part P Q k n l (omega arith))
    ∙ set_right P (zeros n ++ drop n Q) (k + n) n 0 (omega arith)
    ∙ ap (λ x. P ++ x)
    (ap (λ x. set (zeros n ++ x) n 0) (drop-cons Q n 0 g) ∙ set_at (zeros n) (get_or Q n 0) (drop (suc n) Q) 0 n (zeros_length n) ∙ zeros_more n (drop (suc n) Q))

-- A ROW IN THE MAKING: behind P the numbers of a task, c locks so far with the cells L, z zeros, and R
abbrev shown : List ℕ → ℕ → ℕ → ℕ → ℕ → ℕ → List ℕ → ℕ → List ℕ → List ℕ
shown P v n p f c L z R = P ++ (v ∷ n ∷ p ∷ f ∷ c ∷ (L ++ (zeros z ++ R)))

set_deep :
    (P A L X : List ℕ) (m j x : ℕ) → m ≡ length P + (length A + (length L + j)) → set (P ++ (A ++ (L ++ X))) m x ≡ P ++ (A ++ (L ++ set X j x))
set_deep P A L X m j x e =
    set_right P (A ++ (L ++ X)) m (length A + (length L + j)) x e
    ∙ ap (λ y. P ++ y)
    (set_right A (L ++ X) (length A + (length L + j)) (length L + j) x refl ∙ ap (λ y. A ++ y) (set_right L X (length L + j) j x refl))

module _ (P : List ℕ) (k : ℕ) (l : length P ≡ k) (v n p : ℕ) where
  task_sets :
      (Q : List ℕ) → task_width ≤ length Q → set (set (set (wiped (P ++ Q) k task_width) k v) (k + 1) n) (k + 2) p ≡ shown P v n p 0 0 [] 24 (drop task_width Q)
  task_sets Q h =
      let R : List ℕ = zeros task_width ++ drop task_width Q in
      ap (λ x. set (set (set x k v) (k + 1) n) (k + 2) p) (wiped_part P Q k task_width l h)
      ∙ ap (λ x. set (set x (k + 1) n) (k + 2) p) (set_right P R k 0 v (omega arith))
      ∙ ap (λ x. set x (k + 2) p) (set_right P (set R 0 v) (k + 1) 1 n (omega arith))
      ∙ set_right P (set (set R 0 v) 1 n) (k + 2) 2 p (omega arith)
      ∙ unfold zeros in refl

  run_sets : (f c x : ℕ) (L R : List ℕ) (z : ℕ) → set (shown P v n p f c L z R) (k + 3) x ≡ shown P v n p x c L z R
  run_sets f c x L R z = set_right P (v ∷ n ∷ p ∷ f ∷ c ∷ (L ++ (zeros z ++ R))) (k + 3) 3 x (omega arith)

  lock_sets :
      (f c j m x a : ℕ) (L R : List ℕ) (z : ℕ) → length L ≡ j * 3 →
      set (set (set (set (shown P v n p f c L (suc (suc (suc z))) R) (k + 4) (j + 1)) (k + 5 + j * 3) m) (k + 5 + j * 3 + 1) x) (k + ((j + 1) * 3 + 4)) a
      ≡ shown P v n p f (j + 1) (L ++ (m ∷ x ∷ a ∷ [])) z R
  unfolding zeros
  lock_sets f c j m x a L R z h =
      let Z : List ℕ = zeros z ++ R in
      let A : List ℕ = v ∷ n ∷ p ∷ f ∷ (j + 1) ∷ [] in
      ap (λ y. set (set (set y (k + 5 + j * 3) m) (k + 5 + j * 3 + 1) x) (k + ((j + 1) * 3 + 4)) a)
      (set_right P (v ∷ n ∷ p ∷ f ∷ c ∷ (L ++ (zeros (suc (suc (suc z))) ++ R))) (k + 4) 4 (j + 1) (omega arith))
      ∙ ap (λ y. set (set y (k + 5 + j * 3 + 1) x) (k + ((j + 1) * 3 + 4)) a) (set_deep P A L (0 ∷ 0 ∷ 0 ∷ Z) (k + 5 + j * 3) 0 m (omega arith))
      ∙ ap (λ y. set y (k + ((j + 1) * 3 + 4)) a) (set_deep P A L (m ∷ 0 ∷ 0 ∷ Z) (k + 5 + j * 3 + 1) 1 x (omega arith))
      ∙ set_deep P A L (m ∷ x ∷ 0 ∷ Z) (k + ((j + 1) * 3 + 4)) 2 a (omega arith)
      ∙ ap (λ y. P ++ (A ++ y)) (sym (append_assoc L (m ∷ x ∷ a ∷ []) Z))

-- THE LINES OF A TASK
module _ (P : List ℕ) (i : ℕ) (l : length P ≡ i * task_width) (few : i < most) (v n p : ℕ) where
  task_run :
      (t : Tally) (f : ℕ) (Q : List ℕ) → t.tasks ≡ i → task_width ≤ length Q →
      task_put (tally_by t 8) (say_of (run_item f)) (task_put t (say_of (item TaskLine (v ∷ n ∷ p ∷ []))) (P ++ Q)) ≡ shown P v n p f 0 [] 24 (drop task_width Q)
  unfolding task_put lock_put run_put task_line_put put_if mark_of tally_by locks_by bumped place run_place wiped
  task_run t f Q e h =
      let g : ltb i most ≡ true = lt-ltb i most few in
      let s : i + 1 - 1 ≡ i = omega arith in
      simp (e, g, s) (ap (λ x. set x (i * task_width + 3) f) (task_sets P (i * task_width) l v n p Q h) ∙ run_sets P (i * task_width) l v n p 0 0 f [] (drop task_width Q) 24)

  lock_run :
      (t : Tally) (f j m x a : ℕ) (L R : List ℕ) (z : ℕ) → t.tasks ≡ i + 1 → t.locks ≡ j → j < max_locks → length L ≡ j * 3 →
      task_put (tally_by t 10) (say_of (run_item a)) (task_put t (say_of (item LockLine (m ∷ x ∷ []))) (shown P v n p f j L (suc (suc (suc z))) R))
      ≡ shown P v n p f (j + 1) (L ++ (m ∷ x ∷ a ∷ [])) z R
  unfolding task_put lock_put run_put task_line_put put_if mark_of tally_by locks_by bumped place run_place wiped
  lock_run t f j m x a L R z e d b h =
      let g : ltb i most ≡ true = lt-ltb i most few in
      let s : i + 1 - 1 ≡ i = omega arith in
      let y : ltb j most ≡ true = lt-ltb j most (omega arith) in
      let w : ltb (j + 1) most ≡ true = lt-ltb (j + 1) most (omega arith) in
      let q : eqb (j + 1) 0 ≡ false = ne_eqb (j + 1) 0 (λ e. omega arith) in
      simp (e, d, g, s, y, w, q) (lock_sets P (i * task_width) l v n p f j j m x a L R z h)

-- a line that is none of a task's writes nothing
skip_put : (t : Tally) (k : Kind) (ns : List ℕ) (d : List ℕ) → ltb (mark_of k) 8 ≡ true → task_put t (say_of (item k ns)) d ≡ d
unfolding task_put lock_put run_put task_line_put put_if wiped
skip_put t k ns d h =
    let m : mark_of k < 8 = ltb-true (mark_of k) 8 h in
    let a = ne_eqb (mark_of k) 8 (λ e. omega arith) in
    let b = ne_eqb (mark_of k) 9 (λ e. omega arith) in
    let c = ne_eqb (mark_of k) 10 (λ e. omega arith) in
    simp (a, b, c)

skip_tasks : (t : Tally) (m : ℕ) → ltb m 8 ≡ true → (tally_by t m).tasks ≡ t.tasks
unfolding tally_by bumped
skip_tasks t m h = let l : m < 8 = ltb-true m 8 h in simp (ne_eqb m 8 (λ e. omega arith))

-- the tally after two lines of a task
task_next_law : (t : Tally) (i : ℕ) → t.tasks ≡ i → i < most → (tally_by (tally_by t 8) 9).tasks ≡ i + 1
unfolding tally_by bumped
task_next_law t i e h = simp (e, lt-ltb i most h)

locks_next : (t : Tally) (j : ℕ) → t.locks ≡ j → j < most → (tally_by (tally_by t 10) 9).locks ≡ j + 1
unfolding tally_by locks_by bumped
locks_next t j e h = simp (e, lt-ltb j most h)

filled_two :
    (t : Tally) (i k : Item) (is : List Item) (d e : List ℕ) → task_put (tally_by t (mark_of i.kind)) (say_of k) (task_put t (say_of i) d) ≡ e →
    filled_items task_put t d (i ∷ k ∷ is) ≡ filled_items task_put (tally_by (tally_by t (mark_of i.kind)) (mark_of k.kind)) e is
unfolding filled_items
filled_two t i k is d e h = ap (λ x. filled_items task_put (tally_by (tally_by t (mark_of i.kind)) (mark_of k.kind)) x is) h

-- a task's row
row_shown :
    (P R : List ℕ) (k : Task) →
    shown P k.v k.n k.period k.first (0 + length k.locks) (flat lock_cells k.locks) ((max_locks - length k.locks) * 3) R ≡ (P ++ task_cells k) ++ R
row_shown P R k =
    let c : 0 + length k.locks ≡ length k.locks = omega arith in
    let Z : List ℕ = zeros ((max_locks - length k.locks) * 3) in
    let F : List ℕ = flat lock_cells k.locks in
    ap (λ c. P ++ (k.v ∷ k.n ∷ k.period ∷ k.first ∷ c ∷ (F ++ (Z ++ R)))) c
    ∙ ap (λ y. P ++ (k.v ∷ k.n ∷ k.period ∷ k.first ∷ length k.locks ∷ y)) (sym (append_assoc F Z R))
    ∙ sym (append_assoc P (task_cells k) R)

-- rows C and then F in front of what is left
rows_joined : (P C F Q : List ℕ) (m n k : ℕ) → m + n ≡ k → (P ++ C) ++ (F ++ drop n (drop m Q)) ≡ P ++ ((C ++ F) ++ drop k Q)
rows_joined P C F Q m n k e =
    append_assoc P C (F ++ drop n (drop m Q))
    ∙ ap (λ x. P ++ x) (sym (append_assoc C F (drop n (drop m Q))) ∙ ap (λ x. (C ++ F) ++ x) (drop-drop n m Q ∙ ap (λ j. drop j Q) e))

policy_low : (x : Policy) (y : OverrunChoice) → ltb (mark_of (policy_kind x y)) 8 ≡ true
unfolding mark_of
policy_low Periodic WithOverrun = refl
policy_low Periodic WithoutOverrun = refl
policy_low Deferrable WithOverrun = refl
policy_low Deferrable WithoutOverrun = refl

few_all : (ss : List Section) → Each (λ s. Each Few s.tasks) ss → Each Few (tasks_of ss)
unfolding tasks_of
few_all ss h = each_flat Few (λ s. s.tasks) ss h

-- ITEM AFTER ITEM, up to a result X that the rest gives after any tally with as many tasks
module _ (X : List ℕ) where
  -- the items from here on make X of d
  abbrev Makes : ℕ → List ℕ → List Item → Type 0
  Makes k d is = (u : Tally) → u.tasks ≡ k → filled_items task_put u d is ≡ X

  skip : (d : List ℕ) (k : Kind) (ns : List ℕ) (is : List Item) (i : ℕ) → ltb (mark_of k) 8 ≡ true → Makes i d is → Makes i d (item k ns ∷ is)
  unfolding filled_items
  skip d k ns is i o h u e =
      ap (λ x. filled_items task_put (tally_by u (mark_of k)) x is) (skip_put u k ns d o) ∙ h (tally_by u (mark_of k)) (skip_tasks u (mark_of k) o ∙ e)

  module _ (P : List ℕ) (i : ℕ) (l : length P ≡ i * task_width) (few : i < most) (v n p f z : ℕ) (R : List ℕ) where
    locks_filled :
        (ls : List Lock) (is : List Item) (t : Tally) (j : ℕ) (L : List ℕ) → t.tasks ≡ i + 1 → t.locks ≡ j → j + length ls ≤ max_locks → length L ≡ j * 3 →
        Makes (i + 1) (shown P v n p f (j + length ls) (L ++ flat lock_cells ls) z R) is →
        filled_items task_put t (shown P v n p f j L (length ls * 3 + z) R) (lock_items ls is) ≡ X
    unfolding lock_items flat tally_by bumped mark_of
    locks_filled [] is t j L e d b h k =
        let a : j + 0 ≡ j = omega arith in
        let c : 0 * 3 + z ≡ z = omega arith in
        rw c (rw (a, append-nil L) at (k t e))
    locks_filled (r ∷ rs) is t j L e d b h k =
        let c : suc (length rs) * 3 + z ≡ suc (suc (suc (length rs * 3 + z))) = omega arith in
        let a : j + suc (length rs) ≡ j + 1 + length rs = omega arith in
        let u : Tally = tally_by (tally_by t 10) 9 in
        let M : List ℕ = L ++ lock_cells r in
        let y : length M ≡ (j + 1) * 3 = omega (arith, length-append L (lock_cells r)) in
        rw c
        (filled_two t (item LockLine (r.m ∷ r.ticks ∷ [])) (run_item r.after) (lock_items rs is) _ _
        (lock_run P i l few v n p t f j r.m r.ticks r.after L R (length rs * 3 + z) e d (omega arith) h)
        ∙ locks_filled rs is u (j + 1) M e (locks_next t j d (omega arith)) (omega arith) y
        (rw (a, ← append_assoc L (lock_cells r) (flat lock_cells rs)) at k))

  tasks_filled :
      (ks : List Task) (is : List Item) (t : Tally) (i : ℕ) (P Q : List ℕ) → t.tasks ≡ i → length P ≡ i * task_width → i + length ks ≤ most → Each Few ks → length ks * task_width ≤ length Q →
      Makes (i + length ks) (P ++ (flat task_cells ks ++ drop (length ks * task_width) Q)) is → filled_items task_put t (P ++ Q) (task_items ks is) ≡ X
  unfolding task_items flat mark_of
  tasks_filled [] is t i P Q e l m w h k = k t (omega (arith, e))
  tasks_filled (r ∷ rs) is t i P Q e l m w h k =
      let z : ℕ = (max_locks - length r.locks) * 3 in
      let R : List ℕ = drop task_width Q in
      let C : List ℕ = task_cells r in
      let b : i < most = omega arith in
      let g : 24 ≡ length r.locks * 3 + z = omega (arith, w.0) in
      let u : Tally = tally_by (tally_by t 8) 9 in
      filled_two t (item TaskLine (r.v ∷ r.n ∷ r.period ∷ [])) (run_item r.first) (lock_items r.locks (task_items rs is)) _ _
      (task_run P i l b r.v r.n r.period t r.first Q e (omega arith) ∙ ap (λ y. shown P r.v r.n r.period r.first 0 [] y R) g)
      ∙ locks_filled P i l b r.v r.n r.period r.first z R r.locks (task_items rs is) u 0 [] (task_next_law t i e b) (unfold tally_by locks_by bumped in refl) (omega (arith, w.0)) (omega arith)
      (λ x f.
      ap (λ d. filled_items task_put x d (task_items rs is)) (row_shown P R r)
      ∙ tasks_filled rs is x (i + 1) (P ++ C) R f (omega (arith, length-append P C, task_wide r w.0)) (omega arith) w.1 (omega (arith, length-drop task_width Q))
      (λ y q. ap (λ d. filled_items task_put y d is) (rows_joined P C (flat task_cells rs) Q task_width (length rs * task_width) (suc (length rs) * task_width) (omega arith)) ∙ k y (q ∙ omega arith)))

  sections_filled :
      (ss : List Section) (is : List Item) (t : Tally) (i : ℕ) (P Q : List ℕ) → t.tasks ≡ i → length P ≡ i * task_width → i + length (tasks_of ss) ≤ most → Each (λ s. Each Few s.tasks) ss →
      length (tasks_of ss) * task_width ≤ length Q →
      Makes (i + length (tasks_of ss)) (P ++ (flat task_cells (tasks_of ss) ++ drop (length (tasks_of ss) * task_width) Q)) is → filled_items task_put t (P ++ Q) (section_items ss is) ≡ X
  unfolding section_items tasks_of flat mark_of
  sections_filled [] is t i P Q e l m w h k = k t (omega (arith, e))
  sections_filled (s ∷ ss) is t i P Q e l m w h k =
      let a : ℕ = length s.tasks in
      let b : ℕ = length (tasks_of ss) in
      let n : length (s.tasks ++ tasks_of ss) ≡ a + b = length-append s.tasks (tasks_of ss) in
      let C : List ℕ = flat task_cells s.tasks in
      let c : length C ≡ a * task_width = flat_length task_cells task_width s.tasks (each_map s.tasks task_wide w.0) in
      skip (P ++ Q) GuestLine (s.guest ∷ []) (task_items s.tasks (section_items ss is)) i refl
      (λ u e. tasks_filled s.tasks (section_items ss is) u i P Q e l (omega (arith, n)) w.0 (omega (arith, n))
      (λ x f.
      ap (λ d. filled_items task_put x d (section_items ss is)) (sym (append_assoc P C (drop (a * task_width) Q)))
      ∙ sections_filled ss is x (i + a) (P ++ C) (drop (a * task_width) Q) f (omega (arith, length-append P C, c)) (omega (arith, n)) w.1 (omega (arith, n, length-drop (a * task_width) Q))
      (λ y q.
      ap (λ d. filled_items task_put y d is)
      (rows_joined P C (flat task_cells (tasks_of ss)) Q (a * task_width) (b * task_width) ((a + b) * task_width) (omega arith)
      ∙ ap₂ (λ F m. P ++ (F ++ drop (m * task_width) Q)) (sym (flat_append task_cells s.tasks (tasks_of ss))) (sym n))
      ∙ k y (q ∙ omega (arith, n)))))
      t e

-- the whole plan
module _ (p : Plan) (d : List ℕ) where
  pub tasks_filled_all :
      length (tasks_of p.sections) ≤ most → Each (λ s. Each Few s.tasks) p.sections → length (tasks_of p.sections) * task_width ≤ length d →
      filled_items task_put blank d (items_of p) ≡ over (flat task_cells (tasks_of p.sections)) d
  unfolding items_of mark_of filled_items
  tasks_filled_all m w h =
      let ks : List Task = tasks_of p.sections in
      let X : List ℕ = flat task_cells ks ++ drop (length ks * task_width) d in
      let K : List Item → Type 0 = Makes X 0 d in
      let ok : Kind → Bool = λ k. ltb (mark_of k) 8 in
      let s : (k : Kind) (ns : List ℕ) (is : List Item) → ok k ≡ true → K is → K (item k ns ∷ is) = λ k ns is o h. skip X d k ns is 0 o h in
      let last : Makes X (0 + length ks) X (item EndLine [] ∷ []) = skip X X EndLine [] [] (0 + length ks) refl (λ u e. refl) in
      let z : K (from_sections p) = λ u e. sections_filled X p.sections (item EndLine [] ∷ []) u 0 [] d e (omega arith) (omega arith) w h last in
      let y : K (from_vcpus p) =
      over_vcpus K ok s refl p.vcpus (from_mutexes p) (over_mutexes K ok s refl refl p.mutexes (from_opens p) (over_opens K ok s refl p.opens (from_sections p) z)) in
      s PlanLine [] (item (policy_kind p.policy p.overrun) [] ∷ from_vcpus p) refl
      (s (policy_kind p.policy p.overrun) [] (from_vcpus p) (policy_low p.policy p.overrun) y) blank refl
      ∙ ap (λ n. flat task_cells ks ++ drop n d) (sym (flat_length task_cells task_width ks (each_map ks task_wide (few_all p.sections w))))
