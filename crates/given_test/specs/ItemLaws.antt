-- The items of rows, row by row, are those of the plan in the tables.
use Prim.Native.Nat.{ℕ, zero, suc, ◌-◌}
use Rattle.std.specs.Prelude.{◌≡◌, List, [], ◌∷◌, ◌++◌, Bool, true, not}
use Rattle.std.proofs.Math.Path.{refl, ap, sym}
use Rattle.std.proofs.Common.{◌∙◌, append_assoc}
use Rattle.std.proofs.Math.Bool.{false}
use native.Mathlib.Omega.{arith}
use Rattle.std.proofs.Math.Dec.{eqb}
use borrow.Author.Tests.{ne_eqb}
use Rattle.std.specs.Prelude.{if◌then◌else◌}
use Rattle.laws.specs.Rows.{rows}
use Rattle.plan.specs.declared.Kind.TheVariants.{PlanLine, TaskLine, LockLine, EndLine}
use Rattle.plan.specs.Line.{Item}
use Rattle.plan.specs.Plan.{Vcpu, Task, Section}
use Rattle.plan.specs.Text.{item, policy_kind, vcpu_item, owned_item, open_item, run_item, vcpu_items, mutex_items, open_items, lock_items, task_items, section_items, items_of}
use Rattle.plan_tables.specs.declared.PlanRecord.{PlanRecord}
use Rattle.plan_tables.specs.Layout.{Tables, task_width, cell, vcpu_row, mutex_row, open_row, lock_row, task_row}
use Rattle.plan_tables.specs.Given.{guest_for, atop, sections_of, plan_in}
use Rattle.given_tidy.specs.Hosts.{host_of, begins}
use Rattle.given_test.specs.Feed.{lined, vcpu_lines, mutex_lines, open_lines, lock_lines, guest_line, head_lines, task_lines}
use Rattle.given_test.specs.FeedLaws.{items_rows}
use Rattle.given_test.specs.Tests.{row_items}

-- TABLES OF ONE LINE A ROW

vcpu_rows_law : (t : List ℕ) (n : ℕ) (is : List Item) → vcpu_items (rows n (vcpu_row t)) is ≡ lined n (vcpu_lines t) ++ is
unfolding vcpu_items vcpu_lines
vcpu_rows_law t n is = items_rows vcpu_items (λ r. vcpu_item r ∷ []) (λ js. refl) (λ x xs js. refl) n (vcpu_row t) is

mutex_rows : (t : List ℕ) (n : ℕ) (is : List Item) → mutex_items (rows n (mutex_row t)) is ≡ lined n (mutex_lines t) ++ is
unfolding mutex_items mutex_lines
mutex_rows t n is = items_rows mutex_items (λ r. owned_item r.m r.owner ∷ []) (λ js. refl) (λ x xs js. refl) n (mutex_row t) is

open_rows : (t : List ℕ) (n : ℕ) (is : List Item) → open_items (rows n (open_row t)) is ≡ lined n (open_lines t) ++ is
unfolding open_items open_lines
open_rows t n is = items_rows open_items (λ r. open_item r ∷ []) (λ js. refl) (λ x xs js. refl) n (open_row t) is

lock_rows : (t : List ℕ) (i n : ℕ) (is : List Item) → lock_items (rows n (lock_row t i)) is ≡ lined n (lock_lines t i) ++ is
unfolding lock_items lock_lines
lock_rows t i n is =
    items_rows lock_items (λ r. item LockLine (r.m ∷ r.ticks ∷ []) ∷ run_item r.after ∷ []) (λ js. refl) (λ x xs js. refl) n (lock_row t i) is

-- TASKS. From the front: a guest's line stands before each task that is the first or whose guest is another than that of the task before it
data Last : Type 0 where
  Nobody : Last
  Guest : ℕ → Last

abbrev differs : Last → ℕ → Bool
differs Nobody g = true
differs (Guest h) g = not (eqb g h)

-- a task's lines before the rest
unfoldable one_items : Task → List Item → List Item
one_items k is = item TaskLine (k.v ∷ k.n ∷ k.period ∷ []) ∷ run_item k.first ∷ lock_items k.locks is

unfoldable flat_items : List Vcpu → Last → List Task → List Item → List Item
flat_items vs p [] is = is
flat_items vs p (k ∷ ks) is =
    guest_line (differs p (guest_for vs k.v)) (guest_for vs k.v) (one_items k (flat_items vs (Guest (guest_for vs k.v)) ks is))

-- sections after p: the first has no line of its own where it is p's
unfoldable after_items : Last → List Section → List Item → List Item
after_items p [] is = is
after_items p (s ∷ ss) is = guest_line (differs p s.guest) s.guest (task_items s.tasks (section_items ss is))

atop_after :
    (p : Last) (g : ℕ) (k : Task) (ss : List Section) (is : List Item) →
    guest_line (differs p g) g (one_items k (after_items (Guest g) ss is)) ≡ after_items p (atop g k ss) is
unfolding after_items one_items task_items section_items
atop_after p g k [] is = refl
atop_after p g k (s ∷ ss) is = go (eqb s.guest g)
  where
    go :
        (b : Bool) →
        guest_line (differs p g) g (one_items k (guest_line (not b) s.guest (task_items s.tasks (section_items ss is))))
        ≡ after_items p (if b then record { guest = g; tasks = k ∷ s.tasks } ∷ ss else record { guest = g; tasks = k ∷ [] } ∷ s ∷ ss) is
    go true = refl
    go false = refl

flat_after : (vs : List Vcpu) (p : Last) (ks : List Task) (is : List Item) → flat_items vs p ks is ≡ after_items p (sections_of vs ks) is
unfolding flat_items sections_of
flat_after vs p [] is = unfold after_items in refl
flat_after vs p (k ∷ ks) is =
    ap (λ l. guest_line (differs p (guest_for vs k.v)) (guest_for vs k.v) (one_items k l)) (flat_after vs (Guest (guest_for vs k.v)) ks is)
    ∙ atop_after p (guest_for vs k.v) k (sections_of vs ks) is

sections_after : (ss : List Section) (is : List Item) → after_items Nobody ss is ≡ section_items ss is
unfolding after_items section_items
sections_after [] is = refl
sections_after (s ∷ ss) is = refl

-- one task more
unfoldable last_of : List Vcpu → Last → List Task → Last
last_of vs p [] = p
last_of vs p (k ∷ ks) = last_of vs (Guest (guest_for vs k.v)) ks

flat_last :
    (vs : List Vcpu) (p : Last) (ks : List Task) (k : Task) (is : List Item) →
    flat_items vs p (ks ++ (k ∷ [])) is
    ≡ flat_items vs p ks (guest_line (differs (last_of vs p ks) (guest_for vs k.v)) (guest_for vs k.v) (one_items k is))
unfolding flat_items last_of
flat_last vs p [] k is = refl
flat_last vs p (j ∷ ks) k is =
    ap (λ l. guest_line (differs p (guest_for vs j.v)) (guest_for vs j.v) (one_items j l)) (flat_last vs (Guest (guest_for vs j.v)) ks k is)

last_last : (vs : List Vcpu) (p : Last) (ks : List Task) (k : Task) → last_of vs p (ks ++ (k ∷ [])) ≡ Guest (guest_for vs k.v)
unfolding last_of
last_last vs p [] k = refl
last_last vs p (j ∷ ks) k = last_last vs (Guest (guest_for vs j.v)) ks k

module _ (vs : List Vcpu) (t : List ℕ) where
  begins_more : (i : ℕ) → not (eqb (host_of vs t (suc i)) (host_of vs t i)) ≡ begins vs t (suc i)
  unfolding begins
  begins_more i =
      let z : suc i - 1 ≡ i = omega arith in
      let e : eqb (suc i) 0 ≡ false = ne_eqb (suc i) 0 (λ h. omega arith) in
      rw (e, z)

  begins_last : (i : ℕ) → differs (last_of vs Nobody (rows i (task_row t))) (host_of vs t i) ≡ begins vs t i
  unfolding rows
  begins_last zero = unfold last_of begins in refl
  begins_last (suc i) =
      ap (λ p. differs p (host_of vs t (suc i))) (last_last vs Nobody (rows i (task_row t)) (task_row t i))
      ∙ (unfold host_of task_row in begins_more i)

  guest_append : (on : Bool) (g : ℕ) (is js : List Item) → guest_line on g (is ++ js) ≡ guest_line on g is ++ js
  guest_append true g is js = refl
  guest_append false g is js = refl

  task_lines_law : (i : ℕ) (is : List Item) → guest_line (begins vs t i) (host_of vs t i) (one_items (task_row t i) is) ≡ task_lines vs t i ++ is
  unfolding task_lines one_items task_row
  task_lines_law i is =
      ap (λ l. guest_line (begins vs t i) (host_of vs t i) (head_lines t i l)) (lock_rows t i (cell t task_width i 4) is)
      ∙ guest_append (begins vs t i) (host_of vs t i) (head_lines t i (lined (cell t task_width i 4) (lock_lines t i))) is

  row_lines_law :
      (n : ℕ) (is : List Item) →
      guest_line (differs (last_of vs Nobody (rows n (task_row t))) (guest_for vs (task_row t n).v)) (guest_for vs (task_row t n).v) (one_items (task_row t n) is)
      ≡ task_lines vs t n ++ is
  unfolding host_of task_row
  row_lines_law n is = ap (λ b. guest_line b (host_of vs t n) (one_items (task_row t n) is)) (begins_last n) ∙ task_lines_law n is

  flat_rows : (n : ℕ) (is : List Item) → flat_items vs Nobody (rows n (task_row t)) is ≡ lined n (task_lines vs t) ++ is
  unfolding rows lined
  flat_rows zero is = unfold flat_items in refl
  flat_rows (suc n) is =
      flat_last vs Nobody (rows n (task_row t)) (task_row t n) is
      ∙ ap (flat_items vs Nobody (rows n (task_row t))) (row_lines_law n is)
      ∙ flat_rows n (task_lines vs t n ++ is)
      ∙ sym (append_assoc (lined n (task_lines vs t)) (task_lines vs t n) is)

  task_rows_law : (n : ℕ) (is : List Item) → section_items (sections_of vs (rows n (task_row t))) is ≡ lined n (task_lines vs t) ++ is
  task_rows_law n is =
      sym (sections_after (sections_of vs (rows n (task_row t))) is) ∙ sym (flat_after vs Nobody (rows n (task_row t)) is) ∙ flat_rows n is

-- THE PLAN
pub row_items_law : (r : PlanRecord) (t : Tables) → items_of (plan_in r t) ≡ row_items r t
unfolding items_of plan_in row_items
row_items_law r t =
    let vs : List Vcpu = rows r.vcpus (vcpu_row t.vcpus) in
    let end : List Item = item EndLine [] ∷ [] in
    let ks : List Item = lined r.tasks (task_lines vs t.tasks) ++ end in
    let os : List Item = lined r.opens (open_lines t.opens) ++ ks in
    ap (λ l. item PlanLine [] ∷ item (policy_kind r.policy r.overrun) [] ∷ l)
    (ap (λ l. vcpu_items vs (mutex_items (rows r.mutexes (mutex_row t.mutexes)) (open_items (rows r.opens (open_row t.opens)) l)))
    (task_rows_law vs t.tasks r.tasks end)
    ∙ ap (λ l. vcpu_items vs (mutex_items (rows r.mutexes (mutex_row t.mutexes)) l)) (open_rows t.opens r.opens ks)
    ∙ ap (vcpu_items vs) (mutex_rows t.mutexes r.mutexes os)
    ∙ vcpu_rows_law t.vcpus r.vcpus (lined r.mutexes (mutex_lines t.mutexes) ++ os))
