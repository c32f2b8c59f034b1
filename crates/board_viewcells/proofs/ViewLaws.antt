-- The view of a valid plan says its facts.
use Rattle.std.specs.Prelude.{ℕ, ◌+◌, ◌-◌, ◌*◌, ◌<◌, ◌≡◌, refl, Bool, true, false, ◌&&◌, List, [], ◌∷◌, eqb, ltb, leb, length, get_or}
use Rattle.std.proofs.Common.{sym, ◌∙◌, arith}
use Rattle.std.proofs.Math.Path.{ap}
use borrow.Author.Tests.{eqb-true, ltb-true, leb-true, lt-ltb, le-leb, eq-eqb}
use Rattle.std.proofs.Math.ListN.{length-append}
use Rattle.laws.specs.BoolLaws.{both_left, both_right, both, neither_left, neither_right, both_ways, clash, is_true, is_false, missed}
use Rattle.laws.specs.Choice.{when}
use Rattle.laws.specs.Sums.{any, greatest, flat}
use Rattle.laws.specs.Range.{list_to, flat_to, OneTo}
use Rattle.laws.specs.RangeLaws.{list_length}
use Rattle.plan.specs.Limits.{max_v, max_m, most_n}
use Rattle.plan.specs.Plan.{Task, Plan}
use Rattle.plan.specs.Rules.{within}
use Rattle.plan.specs.Lookup as lookup
use Rattle.plan.specs.Valid.{Valid}
use Rattle.figures.specs.System.{System, system}
use Rattle.figures.specs.Figures.{vcpu_at, overrun_of, locks_it, ceiling}
use Rattle.figures.specs.Named.{has_task}
use Rattle.board_rules.specs.Facts.{lists, facts_of}
use Rattle.board_rules.specs.View.{at_overrun, at_owner, at_ceiling, at_task, at_lists, view_length, global_owner, is_v, is_n, is_m, owner_at, facts_in}
use Rattle.board_rules.specs.Board.{seat}
use Rattle.board_keeps.specs.Fair.{Fair}
use Rattle.board_keeps.specs.FairLaws.{fair}
use Rattle.board_viewcells.specs.ViewOf.{bit, owner_of, budgets, overruns, owners, ceilings, tasks, sheets, parts, view_of}
use Rattle.board_viewcells.specs.PartLaws.{start_of, part_of, part_at, name_at, flat_length, flat_at}
use Rattle.board_viewcells.specs.OwnerLaws.{global_has, local_has, owner_global, owner_is, owner_is_global, owner_has, local_in, local_owner, has_owner}

-- TESTS

-- a name passes its range test where it is in range, and only there
pub name_in : (x hi : ℕ) → OneTo hi x → within x 1 hi ≡ true
name_in x hi i = both (leb 1 x) (leb x hi) (le-leb 1 x i.from) (le-leb x hi i.to)

pub in_name : (x hi : ℕ) → within x 1 hi ≡ true → OneTo hi x
in_name x hi e = record { from = leb-true 1 x (both_left (leb 1 x) (leb x hi) e); to = leb-true x hi (both_right (leb 1 x) (leb x hi) e) }

-- a test that equals f in range, where f holds only in range
ranged : (r : Bool) {t f : Bool} → (r ≡ true → t ≡ f) → (f ≡ true → r ≡ true) → (r && t) ≡ f
ranged true a b = a refl
ranged false {t} {f} a b = sym (is_false f (λ e. clash (b e) refl))

-- a number that equals y in range, where y is 0 out of range
ranged_number : (r : Bool) {x y : ℕ} → (r ≡ true → x ≡ y) → (r ≡ false → y ≡ 0) → when r x ≡ y
unfolding when
ranged_number true a b = a refl
ranged_number false a b = sym (b refl)

bit_test : (t : Bool) → ltb 0 (bit t) ≡ t
unfolding when
bit_test true = refl
bit_test false = refl

-- CELLS of the view of any system

record Lengths (s : System) : Type 0 where
  of_budgets : length (budgets s) ≡ max_v
  of_overruns : length (overruns s) ≡ max_v
  of_owners : length (owners s) ≡ max_m
  of_ceilings : length (ceilings s) ≡ max_m
  of_tasks : length (tasks s) ≡ max_v * most_n
  of_sheets : length (sheets s) ≡ max_v * most_n * max_m

module _ (s : System) where
  sheet_length : (v : ℕ) → length (flat_to most_n (λ n. list_to max_m (λ m. bit (lists s v n m)))) ≡ most_n * max_m
  sheet_length v = flat_length max_m (λ n. list_to max_m (λ m. bit (lists s v n m))) (λ n. list_length max_m (λ m. bit (lists s v n m))) most_n

  lengths : Lengths s
  unfolding budgets overruns owners ceilings tasks sheets
  lengths = record {
    of_budgets = list_length max_v (λ v. (vcpu_at s v).budget);
    of_overruns = list_length max_v (λ v. overrun_of s v);
    of_owners = list_length max_m (λ m. owner_of s m);
    of_ceilings = list_length max_m (λ m. ceiling s m);
    of_tasks = flat_length most_n (λ v. list_to most_n (λ n. bit (has_task s v n))) (λ v. list_length most_n (λ n. bit (has_task s v n))) max_v;
    of_sheets = flat_length (most_n * max_m) (λ v. flat_to most_n (λ n. list_to max_m (λ m. bit (lists s v n m)))) sheet_length max_v;
  }

  pub view_length_law : length (view_of s) ≡ view_length
  unfolding view_of flat
  view_length_law = let a = lengths in simp length-append (omega arith)

  -- the cell j of the view is the cell i of part k
  cell : (k i j : ℕ) → j ≡ start_of (parts s) k + i → i < length (part_of (parts s) k) → get_or (view_of s) j 0 ≡ get_or (part_of (parts s) k) i 0
  unfolding view_of
  cell k i j e l = rw e (part_at (parts s) k i l)

  pub budget_cell : (v : ℕ) → is_v v ≡ true → get_or (view_of s) (v - 1) 0 ≡ (vcpu_at s v).budget
  unfolding budgets
  budget_cell v e =
      let h = in_name v max_v e in
      let a = lengths in
      cell 0 (v - 1) (v - 1) (omega arith) (omega arith) ∙ name_at max_v v (λ w. (vcpu_at s w).budget) h

  pub overrun_cell : (v : ℕ) → is_v v ≡ true → get_or (view_of s) (at_overrun + (v - 1)) 0 ≡ overrun_of s v
  unfolding overruns
  overrun_cell v e =
      let h = in_name v max_v e in
      let a = lengths in
      cell 1 (v - 1) (at_overrun + (v - 1)) (omega arith) (omega arith) ∙ name_at max_v v (λ w. overrun_of s w) h

  pub owner_cell_law : (m : ℕ) → is_m m ≡ true → owner_at (view_of s) m ≡ owner_of s m
  unfolding owners
  owner_cell_law m e =
      let h = in_name m max_m e in
      let a = lengths in
      cell 2 (m - 1) (at_owner + (m - 1)) (omega arith) (omega arith) ∙ name_at max_m m (λ w. owner_of s w) h

  pub ceiling_cell : (m : ℕ) → is_m m ≡ true → get_or (view_of s) (at_ceiling + (m - 1)) 0 ≡ ceiling s m
  unfolding ceilings
  ceiling_cell m e =
      let h = in_name m max_m e in
      let a = lengths in
      cell 3 (m - 1) (at_ceiling + (m - 1)) (omega arith) (omega arith) ∙ name_at max_m m (λ w. ceiling s w) h

  pub task_cell_law : (v n : ℕ) → (is_v v && is_n n) ≡ true → get_or (view_of s) (at_task + (seat v n - 1)) 0 ≡ bit (has_task s v n)
  unfolding tasks
  task_cell_law v n e =
      let h = in_name v max_v (both_left (is_v v) _ e) in
      let g = in_name n most_n (both_right (is_v v) _ e) in
      let a = lengths in
      cell 4 ((v - 1) * most_n + (n - 1)) (at_task + (seat v n - 1)) (omega arith) (omega arith)
      ∙ flat_at most_n (λ w. list_to most_n (λ k. bit (has_task s w k))) (λ w. list_length most_n (λ k. bit (has_task s w k))) max_v v (n - 1) h.from h.to (omega arith)
      ∙ name_at most_n n (λ k. bit (has_task s v k)) g

  pub sheet_cell : (v n m : ℕ) → ((is_v v && is_n n) && is_m m) ≡ true →
      get_or (view_of s) (at_lists + ((seat v n - 1) * max_m + (m - 1))) 0 ≡ bit (lists s v n m)
  unfolding sheets
  sheet_cell v n m e =
      let q = both_left (is_v v && is_n n) _ e in
      let h = in_name v max_v (both_left (is_v v) _ q) in
      let g = in_name n most_n (both_right (is_v v) _ q) in
      let k = in_name m max_m (both_right (is_v v && is_n n) _ e) in
      let a = lengths in
      cell 5 ((v - 1) * (most_n * max_m) + ((n - 1) * max_m + (m - 1))) (at_lists + ((seat v n - 1) * max_m + (m - 1))) (omega arith) (omega arith)
      ∙ flat_at (most_n * max_m) (λ w. flat_to most_n (λ j. list_to max_m (λ x. bit (lists s w j x)))) sheet_length max_v v ((n - 1) * max_m + (m - 1)) h.from h.to (omega arith)
      ∙ flat_at max_m (λ j. list_to max_m (λ x. bit (lists s v j x))) (λ j. list_length max_m (λ x. bit (lists s v j x))) most_n n (m - 1) g.from g.to (omega arith)
      ∙ name_at max_m m (λ x. bit (lists s v n x)) k

-- a mutex that no sheet locks has the ceiling 0
no_ceiling : (m : ℕ) (ts : List Task) → ((v n : ℕ) → any (λ k. (eqb k.v v && eqb k.n n) && locks_it m k) ts ≡ false) →
    greatest (λ k. when (locks_it m k) k.n) ts ≡ 0
unfolding any greatest when
no_ceiling m [] h = refl
no_ceiling m (k ∷ ts) h =
    let rest = no_ceiling m ts (λ v n. neither_right ((eqb k.v v && eqb k.n n) && locks_it m k) _ (h v n)) in
    let own = both (eqb k.v k.v) (eqb k.n k.n) (eq-eqb k.v k.v refl) (eq-eqb k.n k.n refl) in
    let none : locks_it m k ≡ false = missed _ (locks_it m k) (neither_left ((eqb k.v k.v && eqb k.n k.n) && locks_it m k) _ (h k.v k.n)) own in
    rw (none, rest)

-- THE FACTS of a valid plan

module _ (p : Plan) (h : Valid p) where
  v_in : (v : ℕ) → lookup.has_vcpu p.vcpus v ≡ true → is_v v ≡ true
  unfolding facts_of
  v_in v e = name_in v max_v ((fair p h).vcpu_in v e)

  m_in : (m : ℕ) → lookup.has_mutex p.mutexes m ≡ true → is_m m ≡ true
  unfolding facts_of
  m_in m e = name_in m max_m ((fair p h).mutex_in m e)

  seat_in : (v n : ℕ) → has_task (system p) v n ≡ true → (is_v v && is_n n) ≡ true
  unfolding facts_of
  seat_in v n e = both (is_v v) (is_n n) (v_in v ((fair p h).task_vcpu v n e)) (name_in n most_n ((fair p h).task_in_law v n e))

  has_vcpu_law : (v : ℕ) → (is_v v && ltb 0 (get_or (view_of (system p)) (v - 1) 0)) ≡ lookup.has_vcpu p.vcpus v
  unfolding facts_of
  has_vcpu_law v =
      ranged (is_v v)
      (λ e. ap (ltb 0) (budget_cell (system p) v e) ∙
      both_ways (ltb 0 (vcpu_at (system p) v).budget) (lookup.has_vcpu p.vcpus v)
      (λ q. is_true _ (λ r. let z = (fair p h).no_budget v r in let l = ltb-true 0 (vcpu_at (system p) v).budget q in omega arith))
      (λ q. lt-ltb 0 _ ((fair p h).vcpu_budget v q)))
      (v_in v)

  budget : (v : ℕ) → when (is_v v) (get_or (view_of (system p)) (v - 1) 0) ≡ (vcpu_at (system p) v).budget
  unfolding facts_of
  budget v =
      ranged_number (is_v v) (budget_cell (system p) v)
      (λ e. (fair p h).no_budget v (is_false _ (λ q. clash (v_in v q) e)))

  overrun : (v : ℕ) → when (is_v v) (get_or (view_of (system p)) (at_overrun + (v - 1)) 0) ≡ overrun_of (system p) v
  unfolding facts_of
  overrun v =
      ranged_number (is_v v) (overrun_cell (system p) v)
      (λ e. (fair p h).no_overrun v (is_false _ (λ q. clash (v_in v q) e)))

  has_task_law : (v n : ℕ) → ((is_v v && is_n n) && ltb 0 (get_or (view_of (system p)) (at_task + (seat v n - 1)) 0)) ≡ has_task (system p) v n
  has_task_law v n =
      ranged (is_v v && is_n n) (λ e. ap (ltb 0) (task_cell_law (system p) v n e) ∙ bit_test (has_task (system p) v n)) (seat_in v n)

  sheet : (v n m : ℕ) →
      (((is_v v && is_n n) && is_m m) && ltb 0 (get_or (view_of (system p)) (at_lists + ((seat v n - 1) * max_m + (m - 1))) 0)) ≡ lists (system p) v n m
  unfolding facts_of
  sheet v n m =
      ranged ((is_v v && is_n n) && is_m m) (λ e. ap (ltb 0) (sheet_cell (system p) v n m e) ∙ bit_test (lists (system p) v n m))
      (λ e. both (is_v v && is_n n) (is_m m) (seat_in v n ((fair p h).sheet_task v n m e)) (m_in m ((fair p h).sheet_mutex v n m e)))

  has_mutex_law : (m : ℕ) → (is_m m && ltb 0 (owner_at (view_of (system p)) m)) ≡ lookup.has_mutex p.mutexes m
  has_mutex_law m =
      ranged (is_m m)
      (λ e. ap (ltb 0) (owner_cell_law (system p) m e) ∙
      both_ways (ltb 0 (owner_of (system p) m)) (lookup.has_mutex p.mutexes m)
      (λ q. owner_has (system p) m (ltb-true 0 _ q)) (λ q. lt-ltb 0 _ (has_owner p h m q)))
      (m_in m)

  is_global_law : (m : ℕ) → (is_m m && eqb (owner_at (view_of (system p)) m) global_owner) ≡ lookup.global p.mutexes m
  is_global_law m =
      ranged (is_m m)
      (λ e. ap (λ x. eqb x global_owner) (owner_cell_law (system p) m e) ∙
      both_ways (eqb (owner_of (system p) m) global_owner) (lookup.global p.mutexes m)
      (λ q. owner_is_global (system p) m (eqb-true _ global_owner q)) (λ q. eq-eqb _ global_owner (owner_global (system p) m q)))
      (λ e. m_in m (global_has p.mutexes m e))

  is_local_law : (v m : ℕ) → ((is_v v && is_m m) && eqb (owner_at (view_of (system p)) m) v) ≡ lookup.local_to p.mutexes v m
  is_local_law v m =
      ranged (is_v v && is_m m)
      (λ e. let i = in_name v max_v (both_left (is_v v) _ e) in
      ap (λ x. eqb x v) (owner_cell_law (system p) m (both_right (is_v v) _ e)) ∙
      both_ways (eqb (owner_of (system p) m) v) (lookup.local_to p.mutexes v m)
      (λ q. owner_is (system p) m v i (eqb-true _ v q)) (λ q. eq-eqb _ v (local_owner p h v m q)))
      (λ e. both (is_v v) (is_m m) (name_in v max_v (local_in p h v m e)) (m_in m (local_has p.mutexes v m e)))

  the_ceiling : (m : ℕ) → when (is_m m) (get_or (view_of (system p)) (at_ceiling + (m - 1)) 0) ≡ ceiling (system p) m
  unfolding ceiling lists facts_of
  the_ceiling m =
      ranged_number (is_m m) (ceiling_cell (system p) m)
      (λ e. no_ceiling m (system p).tasks (λ v n. is_false _ (λ q. clash (m_in m ((fair p h).sheet_mutex v n m q)) e)))

  -- THE VIEW SAYS THE FACTS
  pub facts_in_law : facts_in p.policy p.overrun (view_of (system p)) ≡ facts_of (system p)
  unfolding facts_in facts_of
  facts_in_law = λ i. record {
    policy = p.policy;
    choice = p.overrun;
    has_vcpu = λ v. has_vcpu_law v i;
    budget = λ v. budget v i;
    overrun = λ v. overrun v i;
    has_task = λ v n. has_task_law v n i;
    lists = λ v n m. sheet v n m i;
    has_mutex = λ m. has_mutex_law m i;
    global = λ m. is_global_law m i;
    local_to = λ v m. is_local_law v m i;
    ceiling = λ m. the_ceiling m i;
  }

  -- so what holds of fair facts holds of the view
  pub view_fair : Fair (facts_in p.policy p.overrun (view_of (system p)))
  view_fair = rw facts_in_law (fair p h)
