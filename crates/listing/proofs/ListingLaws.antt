-- Laws of the listing: its lines are ended, and stand in it whole; its tasks rise.
use Prim.Native.Nat.{ℕ, zero, suc, ◌+◌, ◌≤◌, ◌<◌}
use Rattle.std.specs.Prelude.{◌≡◌, refl, Bool, true, false, ◌&&◌, ◌⊎◌, eqb, length}
use Rattle.std.proofs.Common.{ap, sym, subst, ◌∙◌, inl, inr, arith, eq-or-lt_of_le}
use mathlib.Core.List.{List, [], ◌∷◌, ◌++◌, append_assoc, append-nil, Memᴰ}
use Rattle.std.proofs.Math.Logic.{⊎_elim}
use Rattle.laws.specs.Sums.{flat, only, Each, Chain, Pairs}
use Rattle.laws.specs.SumLaws.{only_in, each_append, each_map, each_has, members}
use Rattle.laws.specs.Range.{flat_to}
use Rattle.laws.specs.Bytes.{joined}
use Rattle.plan.specs.Limits.{max_v, max_n, tab, lf}
use Rattle.plan.specs.declared.Lock.{Lock}
use Rattle.plan.specs.Plan.{Vcpu, Task, Plan, tasks_of}
use Rattle.plan.specs.Valid.{In, PairRises, Valid}
use Rattle.plan.specs.ListLaws.{only_either, each_only, pairs_only, pairs_append, pairs_map, pairs_chain}
use Rattle.figures.specs.System.{System, system}
use Rattle.figures.specs.Figures.{is_section}
use Rattle.figures.specs.Named.{Placed}
use Rattle.figures.proofs.NamedLaws.{Apart, named_exactly, tasks_apart}
use Rattle.listing.specs.Listing.{line, vcpu_line, wait_line, wait_lines, task_line, task_lines, rising}
use Rattle.listing.specs.ListingLaws.{Ended, Stands}

pub ended_append : (xs ys : List ℕ) → Ended xs → Ended ys → Ended (xs ++ ys)
ended_append xs ys a =
    ⊎_elim (λ e. subst Ended (sym (ap (λ y. xs ++ y) e ∙ append-nil xs)) a)
    (λ q. inr (xs ++ q.0, ap (λ y. xs ++ y) q.1 ∙ sym (append_assoc xs q.0 (lf ∷ []))))

pub ended_flat : {A : Type 0} {f : A → List ℕ} → ((x : A) → Ended (f x)) → (xs : List A) → Ended (flat f xs)
unfolding flat
ended_flat h [] = inl refl
ended_flat {f = f} h (x ∷ xs) = ended_append (f x) (flat f xs) (h x) (ended_flat h xs)

pub line_ended : (fs : List (List ℕ)) → Ended (line fs)
unfolding line
line_ended fs = inr (joined tab fs, refl)

pub stands_self : (l : List ℕ) → Stands l l
stands_self l = record { before = []; after = []; is = sym (append-nil l); whole = inl refl }

pub stands_left : {l xs : List ℕ} (ys : List ℕ) → Stands l xs → Stands l (xs ++ ys)
stands_left {l} ys s = record {
  before = s.before;
  after = s.after ++ ys;
  is = ap (λ x. x ++ ys) s.is ∙ append_assoc s.before (l ++ s.after) ys ∙ ap (λ x. s.before ++ x) (append_assoc l s.after ys);
  whole = s.whole;
}

pub stands_right : {l ys : List ℕ} (xs : List ℕ) → Ended xs → Stands l ys → Stands l (xs ++ ys)
stands_right {l} xs e s = record {
  before = xs ++ s.before;
  after = s.after;
  is = ap (λ y. xs ++ y) s.is ∙ sym (append_assoc xs s.before (l ++ s.after));
  whole = ended_append xs s.before e s.whole;
}

pub stands_flat :
    {A : Type 0} (f : A → List ℕ) → ((x : A) → Ended (f x)) → {l : List ℕ} {x : A} (xs : List A) → Memᴰ x xs → Stands l (f x) → Stands l (flat f xs)
unfolding flat
stands_flat {A = A} f h {l = l} [] x3 s = elim x3 [ ]
stands_flat f h {l} (y ∷ xs) (Memᴰ.head e) s = stands_left (flat f xs) (subst (λ z. Stands l (f z)) e s)
stands_flat f h (y ∷ xs) (Memᴰ.tail m) s = stands_right (f y) (h y) (stands_flat f h xs m s)

-- THE TASKS RISE

module _ {A : Type 0} where
  -- lists one after the other: each row of each
  each_to : (P : A → Type 0) (n : ℕ) (f : ℕ → List A) → ((i : ℕ) → i ≤ n → Each P (f i)) → Each P (flat_to n f)
  unfolding flat_to
  each_to P zero f h = tt
  each_to P (suc n) f h = each_append P (flat_to n f) (f (suc n)) (each_to P n f (λ i l. h i (omega arith))) (h (suc n) (omega arith))

  -- every two rows, where K i holds of the rows of list i, and rows of K i and K j stand in R, i below j
  pairs_to :
      (R : A → A → Type 0) (K : ℕ → A → Type 0) → ((i j : ℕ) → i < j → (x y : A) → K i x → K j y → R x y) →
      (n : ℕ) (f : ℕ → List A) → ((i : ℕ) → Each (K i) (f i)) → ((i : ℕ) → Pairs R (f i)) → Pairs R (flat_to n f)
  unfolding flat_to
  pairs_to R K w zero f k h = tt
  pairs_to R K w (suc n) f k h =
      pairs_append R (flat_to n f) (f (suc n)) (pairs_to R K w n f k h) (h (suc n))
      (each_to (λ x. Each (R x) (f (suc n))) n f (λ i l. each_map (f i) (λ x a. each_map (f (suc n)) (λ y b. w i (suc n) (omega arith) x y a b) (k (suc n))) (k i)))

-- the tasks of this name
abbrev of_name : List Task → ℕ → ℕ → List Task
of_name ks v n = only (λ k. eqb k.v v && eqb k.n n) ks

abbrev Rises : Task → Task → Type 0
Rises j k = PairRises j.v j.n k.v k.n

named_each : (ks : List Task) (v n : ℕ) → Each (λ k. (k.v ≡ v) × (k.n ≡ n)) (of_name ks v n)
named_each ks v n = each_only _ _ ks (each_map ks (λ k m. (named_exactly k v n).0) (members ks))

-- of tasks that are apart one at most has this name, so that every two rise
named_once : (ks : List Task) (v n : ℕ) → Pairs Apart ks → Pairs Rises (of_name ks v n)
named_once ks v n h =
    pairs_only _ Rises ks
    (pairs_map Apart _ ks
    (λ j k a d e. let x = (named_exactly j v n).0 d in let y = (named_exactly k v n).0 e in absurd (a (x.0 ∙ sym y.0, x.1 ∙ sym y.1))) h)

-- the tasks of a valid plan, (v, n) rising over the whole plan
pub rising_rises : {p : Plan} → Valid p → Chain (λ j k. PairRises j.v j.n k.v k.n) (rising (system p))
unfolding rising
rising_rises {p} h =
    let ks : List Task = tasks_of p.sections in
    pairs_chain Rises (rising (system p))
    (pairs_to Rises (λ v k. k.v ≡ v) (λ i j l x y a b. inl (omega arith)) _ _
    (λ v. each_to (λ k. k.v ≡ v) _ _ (λ n l. each_map (of_name ks v n) (λ k e. e.0) (named_each ks v n)))
    (λ v. pairs_to Rises (λ n k. (k.v ≡ v) × (k.n ≡ n)) (λ i j l x y a b. inr (a.0 ∙ sym b.0, let c = a.1 in let d = b.1 in omega arith)) _ _
    (named_each ks v) (λ n. named_once ks v n (tasks_apart h))))

-- THEY ARE THE PLAN'S TASKS, AND NO OTHERS

-- what is listed is a task of the plan
pub rising_only : (s : System) (k : Task) → Memᴰ k (rising s) → Memᴰ k s.tasks
unfolding rising
rising_only s k =
    each_has (λ j. Memᴰ j s.tasks) (rising s)
    (each_to _ _ _ (λ v l. each_to _ _ _ (λ n m. each_only _ _ s.tasks (each_map s.tasks (λ j a e. a) (members s.tasks)))))

module _ {A : Type 0} {x : A} where
  in_left : (xs ys : List A) → Memᴰ x xs → Memᴰ x (xs ++ ys)
  in_left (y ∷ xs) ys (Memᴰ.head e) = Memᴰ.head e
  in_left [] ys x'' = elim x'' [ ]
  in_left (y ∷ xs) ys (Memᴰ.tail m) = Memᴰ.tail (in_left xs ys m)

  in_right : (xs ys : List A) → Memᴰ x ys → Memᴰ x (xs ++ ys)
  in_right [] ys m = m
  in_right (y ∷ xs) ys m = Memᴰ.tail (in_right xs ys m)

  in_only : (f : A → Bool) (xs : List A) → f x ≡ true → Memᴰ x xs → Memᴰ x (only f xs)
  in_only f [] t x3 = elim x3 [ ]
  in_only f (y ∷ xs) t (Memᴰ.head e) = subst (Memᴰ x) (sym (only_in f y xs (ap f (sym e) ∙ t))) (Memᴰ.head e)
  in_only f (y ∷ xs) t (Memᴰ.tail m) = let ih = in_only f xs t m in only_either f (Memᴰ x) y xs (λ e. Memᴰ.tail ih) ih

  in_to : (n : ℕ) (f : ℕ → List A) (i : ℕ) → 1 ≤ i → i ≤ n → Memᴰ x (f i) → Memᴰ x (flat_to n f)
  unfolding flat_to
  in_to zero f i h k m = absurd (omega arith)
  in_to (suc n) f i h k m =
      ⊎_elim (λ e. in_right (flat_to n f) (f (suc n)) (subst (λ j. Memᴰ x (f j)) e m)) (λ l. in_left (flat_to n f) (f (suc n)) (in_to n f i h (omega arith) m)) (eq-or-lt_of_le k)

-- and each task of the plan is listed
pub in_rising : (s : System) (k : Task) → In k.v 1 max_v → In k.n 1 max_n → Memᴰ k s.tasks → Memᴰ k (rising s)
unfolding rising
in_rising s k a b m =
    in_to max_v _ k.v a.0 a.1 (in_to max_n _ k.n b.0 b.1 (in_only _ s.tasks ((named_exactly k k.v k.n).1 (refl, refl)) m))

-- LINES

pub vcpu_line_ended : (s : System) (x : Vcpu) → Ended (vcpu_line s x)
unfolding vcpu_line
vcpu_line_ended s x = line_ended _

-- the line of a wait, or nothing
wait_line_ended : (s : System) (k : Task) (i : ℕ) (l : Lock) (b : Bool) → Ended (elim b [ true ↦ wait_line s k i l | false ↦ [] ])
unfolding wait_line
wait_line_ended s k i l true = line_ended _
wait_line_ended s k i l false = inl refl

-- the line of the wait at a place stands among the waits' lines, counted from i
wait_stands :
    (s : System) (k : Task) (before after : List Lock) (l : Lock) (i : ℕ) → is_section s l ≡ true →
    Stands (wait_line s k (i + length before) l) (wait_lines s k i (before ++ (l ∷ after)))
unfolding wait_lines
wait_stands s k [] after l i g =
    let at : i + 0 ≡ i = omega arith in
    subst (λ j. Stands (wait_line s k j l) (wait_lines s k i (l ∷ after))) (sym at)
    (stands_left (wait_lines s k (i + 1) after) (subst (λ b. Stands (wait_line s k i l) (elim b [ true ↦ wait_line s k i l | false ↦ [] ])) (sym g) (stands_self _)))
wait_stands s k (x ∷ xs) after l i g =
    let at : i + 1 + length xs ≡ i + suc (length xs) = omega arith in
    stands_right (elim (is_section s x) [ true ↦ wait_line s k i x | false ↦ [] ]) (wait_line_ended s k i x (is_section s x))
    (subst (λ j. Stands (wait_line s k j l) (wait_lines s k (i + 1) (xs ++ (l ∷ after)))) at (wait_stands s k xs after l (i + 1) g))

-- so of the lock at place i, all counted from 1
pub placed_stands :
    (s : System) (k : Task) (i : ℕ) (l : Lock) → Placed k.locks i l → is_section s l ≡ true → Stands (wait_line s k i l) (wait_lines s k 1 k.locks)
placed_stands s k i l q g =
    let at : 1 + length q.0 ≡ i = let e = q.3 in omega arith in
    subst (λ ls. Stands (wait_line s k i l) (wait_lines s k 1 ls)) (sym q.2)
    (subst (λ j. Stands (wait_line s k j l) (wait_lines s k 1 (q.0 ++ (l ∷ q.1)))) at (wait_stands s k q.0 q.1 l 1 g))

pub wait_lines_ended : (s : System) (k : Task) (i : ℕ) (ls : List Lock) → Ended (wait_lines s k i ls)
unfolding wait_lines
wait_lines_ended s k i [] = inl refl
wait_lines_ended s k i (l ∷ ls) =
    ended_append (elim (is_section s l) [ true ↦ wait_line s k i l | false ↦ [] ]) (wait_lines s k (i + 1) ls)
    (wait_line_ended s k i l (is_section s l)) (wait_lines_ended s k (i + 1) ls)

pub task_line_ended : (s : System) (k : Task) → Ended (task_line s k)
unfolding task_line
task_line_ended s k = line_ended _

pub task_lines_ended : (s : System) (k : Task) → Ended (task_lines s k)
unfolding task_lines
task_lines_ended s k = ended_append (wait_lines s k 1 k.locks) (task_line s k) (wait_lines_ended s k 1 k.locks) (task_line_ended s k)
