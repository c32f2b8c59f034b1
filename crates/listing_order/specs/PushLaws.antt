-- Laws of places that are written one after the other.
use Rattle.std.specs.Prelude.{ℕ, suc, ◌+◌, ◌-◌, ◌≤◌, ◌<◌, ◌≡◌, refl, Bool, true, false, set}
use Rattle.std.proofs.Math.Path.{ap}
use Rattle.std.proofs.Common.{ap₂, sym, ◌∙◌, le_antisymm, eq-or-lt_of_le, add-one, length-append}
use Rattle.std.proofs.Math.Logic.{⊎_elim}
use mathlib.Core.List.{List, [], ◌∷◌, ◌++◌, append-nil, append_assoc}
use Rattle.std.proofs.Math.Decide.{le_ind}
use native.Mathlib.Omega.{arith}
use Rattle.std.proofs.Math.ListN.{length, get_or, length-set}
use Rattle.std.proofs.Math.Seq.{get_or-set_same, get_or-set_other}
use Rattle.laws.specs.Sums.{only}
use Rattle.laws.specs.SumLaws.{only_in, only_out}
use Rattle.laws.specs.Range.{flat_to}
use Rattle.laws.specs.Rows.{rows}
use Rattle.laws.specs.RowLaws.{rows_length, rows_same}
use Rattle.plan.specs.Plan.{Task}
use Rattle.plan.specs.Limits.{most_tasks}
use Rattle.plan_tables.specs.Layout.{task_row}
use Rattle.plan_tables.specs.declared.PlanRecord.{PlanRecord}
use Rattle.figures.specs.Tabled.{system_in}
use Rattle.listing.specs.Listing.{rising}
use Rattle.listing_order.specs.Ordered.{Ordered}
use Rattle.listing_order.specs.Pushed.{named, of_vcpu, tasks_at, Placed, Added, Growing}
use Rattle.listing_order.specs.RisingLaws.{rising_no_more}

-- LISTS THAT GROW AT THEIR END

only_append : {A : Type 0} (f : A → Bool) (xs ys : List A) → only f (xs ++ ys) ≡ only f xs ++ only f ys
unfolding only
only_append f [] ys = refl
only_append f (x ∷ xs) ys = go (f x) refl (only_append f xs ys)
  where
    go : (b : Bool) → f x ≡ b → only f (xs ++ ys) ≡ only f xs ++ only f ys → only f (x ∷ (xs ++ ys)) ≡ only f (x ∷ xs) ++ only f ys
    go true e h = rw (only_in f x (xs ++ ys) e, only_in f x xs e, h)
    go false e h = rw (only_out f x (xs ++ ys) e, only_out f x xs e, h)

-- one more row
pub only_next : {A : Type 0} (f : A → Bool) (row : ℕ → A) (i : ℕ) → only f (rows (i + 1) row) ≡ only f (rows i row) ++ only f (row i ∷ [])
unfolding rows
only_next f row i = rw add-one (only_append f (rows i row) (row i ∷ []))

-- one more number
pub to_next : {B : Type 0} (f : ℕ → List B) (n : ℕ) → flat_to (n + 1) f ≡ flat_to n f ++ f (n + 1)
unfolding flat_to
to_next f n = rw add-one

-- PLACES

tasks_length : (ts order : List ℕ) (k : ℕ) → length (tasks_at ts order k) ≡ k
unfolding tasks_at
tasks_length ts order k = rows_length k _

-- there is room for a row that is asked for
pub pushed_room : {t : ℕ} {order : List ℕ} {k : ℕ} (q : Task → Bool) (x : Task) {b : Bool} → b ≡ q x → b ≡ true
    → Placed t order k → k + length (only q (x ∷ [])) ≤ most_tasks → k < length order
unfolding only
pushed_room q x e f h r = omega (arith, ap length (only_in q x [] (sym e ∙ f)))

module _ {ts : List ℕ} {t : ℕ} where
  -- the row is not asked for
  pub pushed_out : {order : List ℕ} {k : ℕ} (q : Task → Bool) (i : ℕ) {b : Bool} → Placed t order k → b ≡ q (task_row ts i) → b ≡ false
      → Added ts t (tasks_at ts order k) (only q (task_row ts i ∷ [])) order k
  unfolding only
  pushed_out q i h e f = record { placed = h; is = rw (only_out q (task_row ts i) [] (sym e ∙ f), append-nil) }

  -- it is asked for, and its place is written
  pub pushed_in : {order : List ℕ} {k : ℕ} (q : Task → Bool) (i : ℕ) {b : Bool} → Placed t order k → i < t → b ≡ q (task_row ts i) → b ≡ true
      → k < length order → Added ts t (tasks_at ts order k) (only q (task_row ts i ∷ [])) (set order k i) (k + 1)
  unfolding only tasks_at rows
  pushed_in {order} {k} q i h l e f room =
      let here : get_or (set order k i) k 0 ≡ i = get_or-set_same order k i 0 room in
      let there : (j : ℕ) → j < k → get_or (set order k i) j 0 ≡ get_or order j 0 = λ j b. get_or-set_other order k j i 0 (λ p. omega arith) in
      record {
        placed = record {
          long = rw length-set h.long;
          within = λ j b. ⊎_elim (λ p. let z : j ≡ k = omega arith in rw (z, here) l) (λ p. let z : j < k = omega arith in rw (there j z) (h.within j z)) (eq-or-lt_of_le b);
        };
        is = rw (add-one, only_in q (task_row ts i) [] (sym e ∙ f)) (ap₂ (λ l x. l ++ (x ∷ [])) (rows_same k (λ j b. ap (task_row ts) (there j b))) (ap (task_row ts) here));
      }

-- A LOOP THAT ADDS `more i` IN ROUND i

-- what is added in a round fits into what is added in all
grows : (grown more : ℕ → List Task) → ((i : ℕ) → grown (i + 1) ≡ grown i ++ more i) → (n i : ℕ) → i < n
    → length (grown i) + length (more i) ≤ length (grown n)
grows grown more next n i h =
    let step : (j : ℕ) → length (grown (suc j)) ≡ length (grown j) + length (more j) = λ j. ap (λ m. length (grown m)) (sym (add-one j)) ∙ ap length (next j) ∙ length-append (grown j) (more j) in
    le_ind (λ m. length (grown i) + length (more i) ≤ length (grown m)) (omega (arith, step i)) (λ m l e. omega (arith, step m)) n h

module _ {ts : List ℕ} {t : ℕ} {before : List ℕ} {k : ℕ} (grown more : ℕ → List Task) (next : (i : ℕ) → grown (i + 1) ≡ grown i ++ more i) {n : ℕ} where
  pub growing_none : Placed t before k → grown 0 ≡ [] → Growing ts t before k grown n before k 0
  growing_none h e = record { rounds = omega arith; added = record { placed = h; is = rw (e, append-nil) } }

  pub growing_room : {order : List ℕ} {e i : ℕ} → Growing ts t before k grown n order e i → i < n → k + length (grown n) ≤ most_tasks → e + length (more i) ≤ most_tasks
  growing_room {order} {e} {i} h l r =
      let count : length (tasks_at ts order e) ≡ length (tasks_at ts before k) + length (grown i) = ap length h.added.is ∙ length-append (tasks_at ts before k) (grown i) in
      omega (arith, count, tasks_length ts order e, tasks_length ts before k, grows grown more next n i l)

  pub growing_more : {order after : List ℕ} {e f i : ℕ} → Growing ts t before k grown n order e i → i < n
      → Added ts t (tasks_at ts order e) (more i) after f → Growing ts t before k grown n after f (i + 1)
  growing_more {i} h l a =
      record {
        rounds = omega arith;
        added = record {
          placed = a.placed;
          is = a.is ∙ ap (λ l. l ++ more i) h.added.is ∙ append_assoc (tasks_at ts before k) (grown i) (more i) ∙ ap (λ l. tasks_at ts before k ++ l) (sym (next i));
        };
      }

  pub growing_all : {order : List ℕ} {e i : ℕ} → Growing ts t before k grown n order e i → n ≤ i → Added ts t (tasks_at ts before k) (grown n) order e
  growing_all h l = rw (le_antisymm l h.rounds) h.added

  -- the same of a loop whose next round is m, from 1 to n, where x is added
  module _ {m : ℕ} {x : List Task} (l : 1 ≤ m) (u : m ≤ n) (w : x ≡ more (m - 1)) where
    pub growing_fits : {order : List ℕ} {e : ℕ} → Growing ts t before k grown n order e (m - 1) → k + length (grown n) ≤ most_tasks → e + length x ≤ most_tasks
    growing_fits h r = rw w (growing_room h (omega arith) r)

    pub growing_next : {order after : List ℕ} {e f : ℕ} → Growing ts t before k grown n order e (m - 1)
        → Added ts t (tasks_at ts order e) x after f → Growing ts t before k grown n after f (m + 1 - 1)
    growing_next h a =
        let y : m + 1 - 1 ≡ m - 1 + 1 = omega arith in
        rw y (growing_more h (omega arith) (rw w at a))

-- ALL TASKS

module _ (r : PlanRecord) (vt mt ts : List ℕ) where
  tasks_count : length (system_in r vt mt ts).tasks ≡ r.tasks
  unfolding system_in
  tasks_count = rows_length r.tasks (task_row ts)

  pub rising_room : length (flat_to 16 (of_vcpu (system_in r vt mt ts))) ≤ r.tasks
  unfolding rising of_vcpu named
  rising_room = omega (arith, rising_no_more (system_in r vt mt ts), tasks_count)

  pub rising_ordered : (before : List ℕ) {order : List ℕ} {e : ℕ} → Added ts r.tasks (tasks_at ts before 0) (flat_to 16 (of_vcpu (system_in r vt mt ts))) order e
      → Ordered (system_in r vt mt ts) ts order r.tasks e
  unfolding rising of_vcpu named tasks_at rows
  rising_ordered before {order} {e} h =
      record {
        few = omega (arith, tasks_length ts order e, ap length h.is, rising_room);
        within = h.placed.within;
        is = h.is;
      }
