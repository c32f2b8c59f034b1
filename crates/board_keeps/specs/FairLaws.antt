-- The facts of a valid plan are fair.
use Rattle.std.specs.Prelude.{ℕ, ◌≤◌, ◌<◌, ◌≡◌, Bool, ◌&&◌, List, [], ◌∷◌}
use Rattle.std.proofs.Math.Path.{refl, ap, subst}
use Rattle.std.proofs.Common.{sym, ◌∙◌, ⊎_elim}
use Rattle.std.proofs.Math.Bool.{true, false}
use Rattle.std.proofs.lemmas.Bool.{false≢true}
use native.Mathlib.Omega.{arith}
use borrow.Author.Tests.{eqb-true, ne_eqb}
use Rattle.std.proofs.Math.Dec.{eqb}
use Rattle.laws.specs.BoolLaws.{both_left, both_right, clash, is_false, either_of}
use Rattle.laws.specs.Choice.{when}
use Rattle.laws.specs.Sums.{any, Each, Chain}
use Rattle.laws.specs.SumLaws.{each_map, first_none, each_flat, Passing, any_row, first_each, sum_zero, greatest_row}
use Rattle.plan.specs.Limits.{max_n}
use Rattle.plan.specs.declared.OverrunChoice.{OverrunChoice}
use Rattle.plan.specs.declared.OverrunChoice.TheVariants.{WithOverrun, WithoutOverrun}
use Rattle.plan.specs.declared.Lock.{Lock}
use Rattle.plan.specs.Plan.{Vcpu, Owner, Global, Local, Mutex, Open, Task, Plan, tasks_of}
use Rattle.plan.specs.Lookup.{is_global, is_local_to, has_vcpu, has_mutex, global, local_to}
use Rattle.plan.specs.Valid.{VcpuValid, MutexValid, LockValid, TaskValid, Valid}
use Rattle.plan.specs.ListLaws.{any_weaker, chain_rest, rising_above}
use Rattle.plan.proofs.LookupLaws.{declared_exactly, mutex_exactly, global_exactly, local_exactly, of_declared, reach_declared}
use Rattle.figures.specs.System.{system}
use Rattle.figures.specs.Figures.{vcpu_at, no_vcpu, longest_global, ght, overrun_by, overrun_of, locks_it, ceiling}
use Rattle.board_rules.specs.Facts.{facts_of}
use Rattle.figures.specs.Named as named
use Rattle.board_rules.specs.Facts as facts
use Rattle.board_keeps.specs.Fair.{Fair, InV, InN, InM}

-- MUTEXES RISE, so that a name has one row

-- what two look-ups of m say is said by one owner
record OneOwner (p q : Owner → Bool) : Type 0 where
  owner : Owner
  this : p owner ≡ true
  that : q owner ≡ true

one_owner : (p q : Owner → Bool) (m : ℕ) (ms : List Mutex) → Chain (λ r s. r.m < s.m) ms →
    any (λ r. eqb r.m m && p r.owner) ms ≡ true → any (λ r. eqb r.m m && q r.owner) ms ≡ true → OneOwner p q
unfolding any
one_owner p q m [] c a d = absurd (false≢true a)
one_owner p q m (r ∷ rs) c a d =
    let ih = one_owner p q m rs (chain_rest (λ r s. r.m < s.m) r rs c) in
    ⊎_elim
    (λ e. ⊎_elim
    (λ u. record { owner = r.owner; this = both_right (eqb r.m m) _ e; that = both_right (eqb r.m m) _ u })
    (λ u. absurd (above q (eqb-true r.m m (both_left (eqb r.m m) _ e)) u)) (either_of (eqb r.m m && q r.owner) _ d))
    (λ e. ⊎_elim
    (λ u. absurd (above p (eqb-true r.m m (both_left (eqb r.m m) _ u)) e))
    (λ u. ih e u) (either_of (eqb r.m m && q r.owner) _ d))
    (either_of (eqb r.m m && p r.owner) _ a)
  where
    -- no later row has r's name
    above : (t : Owner → Bool) → r.m ≡ m → any (λ s. eqb s.m m && t s.owner) rs ≡ true → ⊥
    above t e u =
        let w = any_row (λ s. eqb s.m m && t s.owner) (λ s. r.m < s.m) rs u (rising_above (λ s. s.m) r rs c) in
        let z = eqb-true w.row.m m (both_left (eqb w.row.m m) _ w.passes) in
        let l = w.has in omega arith

local_not_global : (v : ℕ) (o : Owner) → is_local_to v o ≡ true → is_global o ≡ true → ⊥
local_not_global v Global e f = false≢true e
local_not_global v (Local w) e f = false≢true f

local_to_one : (v w : ℕ) (o : Owner) → is_local_to v o ≡ true → is_local_to w o ≡ true → v ≡ w
local_to_one v w Global e f = absurd (false≢true e)
local_to_one v w (Local x) e f = sym (eqb-true x v e) ∙ eqb-true x w f

-- A SHEET'S ROWS

-- what is locked is declared, and global or local to v
record LockFair (ms : List Mutex) (v : ℕ) (l : Lock) : Type 0 where
  declared : has_mutex ms l.m ≡ true
  own : global ms l.m ≡ false → local_to ms v l.m ≡ true

record TaskFair (vs : List Vcpu) (ms : List Mutex) (k : Task) : Type 0 where
  v_declared : has_vcpu vs k.v ≡ true
  n_from : 1 ≤ k.n
  n_to : k.n ≤ max_n
  locks_fair : Each (LockFair ms k.v) k.locks

lock_fair : (ms : List Mutex) (os : List Open) (g v : ℕ) (l : Lock) → LockValid ms os g v l → LockFair ms v l
lock_fair ms os g v l h = record {
  declared = (mutex_exactly ms l.m).1 (reach_declared ms os g v l.m h.within_reach);
  own = λ e. ⊎_elim (local_exactly ms v l.m).1 (λ q. absurd (clash ((global_exactly ms l.m).1 q.0) e)) h.within_reach;
}

task_fair : (vs : List Vcpu) (ms : List Mutex) (os : List Open) (g : ℕ) (k : Task) → TaskValid vs ms os g k → TaskFair vs ms k
task_fair vs ms os g k h = record {
  v_declared = (declared_exactly vs k.v).1 (of_declared vs g k.v h.own_vcpu_law);
  n_from = h.n_in.0;
  n_to = h.n_in.1;
  locks_fair = each_map k.locks (lock_fair ms os g k.v) h.locks_valid;
}

tasks_fair : (p : Plan) → Valid p → Each (TaskFair p.vcpus p.mutexes) (tasks_of p.sections)
unfolding tasks_of
tasks_fair p h =
    each_flat (TaskFair p.vcpus p.mutexes) (λ s. s.tasks) p.sections
    (each_map p.sections (λ s v. each_map s.tasks (task_fair p.vcpus p.mutexes p.opens s.guest) v.tasks_valid) h.sections_valid)

-- THE FACTS

module _ (p : Plan) (h : Valid p) where
  vcpu_row_law : (v : ℕ) → has_vcpu p.vcpus v ≡ true → Passing (λ r. eqb r.v v) VcpuValid p.vcpus
  unfolding has_vcpu
  vcpu_row_law v e = any_row (λ r. eqb r.v v) VcpuValid p.vcpus e h.vcpus_valid

  fair_vcpu_in : (v : ℕ) → has_vcpu p.vcpus v ≡ true → InV v
  fair_vcpu_in v e =
      let r = vcpu_row_law v e in
      let z = eqb-true r.row.v v r.passes in
      let i = r.has.v_in in
      record { from = omega arith; to = omega arith }

  fair_budget : (v : ℕ) → has_vcpu p.vcpus v ≡ true → 0 < (vcpu_at (system p) v).budget
  unfolding has_vcpu vcpu_at
  fair_budget v e = (first_each (λ r. eqb r.v v) VcpuValid no_vcpu p.vcpus (λ q. absurd (clash e q)) h.vcpus_valid).budget_in.0

  fair_no_budget : (v : ℕ) → has_vcpu p.vcpus v ≡ false → (vcpu_at (system p) v).budget ≡ 0
  unfolding has_vcpu vcpu_at
  fair_no_budget v e = ap (λ (x : Vcpu). x.budget) (first_none (λ r. eqb r.v v) no_vcpu p.vcpus e)

  no_ght : (v : ℕ) → has_vcpu p.vcpus v ≡ false → ght (system p) v ≡ 0
  unfolding ght when
  no_ght v e =
      sum_zero (λ k. when (eqb k.v v) (longest_global (system p) k)) (tasks_of p.sections)
      (each_map (tasks_of p.sections) (λ k t. rw (ne_eqb k.v v (λ q. clash (subst (λ x. has_vcpu p.vcpus x ≡ true) q t.v_declared) e))) (tasks_fair p h))

  fair_no_overrun : (v : ℕ) → has_vcpu p.vcpus v ≡ false → overrun_of (system p) v ≡ 0
  unfolding overrun_of
  fair_no_overrun v e = rw (no_ght v e) (none p.overrun)
    where
      none : (c : OverrunChoice) → overrun_by c 0 ≡ 0
      none WithOverrun = refl
      none WithoutOverrun = refl

  -- a task of the plan, with what its row says
  fair_task : (v n : ℕ) → named.has_task (system p) v n ≡ true → (has_vcpu p.vcpus v ≡ true) × InN n
  unfolding named.has_task
  fair_task v n e =
      let r = any_row (λ k. eqb k.v v && eqb k.n n) (TaskFair p.vcpus p.mutexes) (tasks_of p.sections) e (tasks_fair p h) in
      let k = r.row in
      let ev = eqb-true k.v v (both_left (eqb k.v v) _ r.passes) in
      let en = eqb-true k.n n (both_right (eqb k.v v) _ r.passes) in
      (subst (λ x. has_vcpu p.vcpus x ≡ true) ev r.has.v_declared, subst InN en (record { from = r.has.n_from; to = let l = r.has.n_to in omega arith }))

  fair_mutex : (m : ℕ) → has_mutex p.mutexes m ≡ true → InM m
  unfolding has_mutex
  fair_mutex m e =
      let r = any_row (λ x. eqb x.m m) (MutexValid p.vcpus) p.mutexes e h.mutexes_valid in
      let z = eqb-true r.row.m m r.passes in
      let i = r.has.m_in in
      record { from = omega arith; to = omega arith }

  fair_sheet : (v n m : ℕ) → facts.lists (system p) v n m ≡ true → (has_mutex p.mutexes m ≡ true) × (global p.mutexes m ≡ false → local_to p.mutexes v m ≡ true)
  unfolding facts.lists
  fair_sheet v n m e =
      let r = any_row (λ k. (eqb k.v v && eqb k.n n) && locks_it m k) (TaskFair p.vcpus p.mutexes) (tasks_of p.sections) e (tasks_fair p h) in
      let k = r.row in
      let a = both_left (eqb k.v v && eqb k.n n) _ r.passes in
      let ev = eqb-true k.v v (both_left (eqb k.v v) _ a) in
      let q = any_row (λ l. eqb l.m m) (LockFair p.mutexes k.v) k.locks (both_right (eqb k.v v && eqb k.n n) _ r.passes) r.has.locks_fair in
      let em = eqb-true q.row.m m q.passes in (
        subst (λ x. has_mutex p.mutexes x ≡ true) em q.has.declared,
        subst (λ x. global p.mutexes m ≡ false → local_to p.mutexes x m ≡ true) ev
            (subst (λ x. global p.mutexes x ≡ false → local_to p.mutexes k.v x ≡ true) em q.has.own),
      )

  fair_sheet_task : (v n m : ℕ) → facts.lists (system p) v n m ≡ true → named.has_task (system p) v n ≡ true
  unfolding facts.lists named.has_task
  fair_sheet_task v n m e = any_weaker (tasks_of p.sections) (λ k. both_left (eqb k.v v && eqb k.n n) (locks_it m k)) e

  fair_ceiling : (v n m : ℕ) → facts.lists (system p) v n m ≡ true → n ≤ ceiling (system p) m
  unfolding facts.lists ceiling
  fair_ceiling v n m e =
      greatest_row (λ k. (eqb k.v v && eqb k.n n) && locks_it m k) (λ k. when (locks_it m k) k.n) n (tasks_of p.sections) at_row e
    where
      at_row : (k : Task) → ((eqb k.v v && eqb k.n n) && locks_it m k) ≡ true → n ≤ when (locks_it m k) k.n
      at_row k q =
          let a = both_left (eqb k.v v && eqb k.n n) _ q in
          let en = eqb-true k.n n (both_right (eqb k.v v) _ a) in
          rw (both_right (eqb k.v v && eqb k.n n) (locks_it m k) q) (unfold when in omega arith)

  fair_local_only : (v m : ℕ) → local_to p.mutexes v m ≡ true → global p.mutexes m ≡ false
  unfolding local_to global
  fair_local_only v m e =
      is_false (global p.mutexes m) (λ q. let o = one_owner (is_local_to v) is_global m p.mutexes h.mutexes_rise e q in local_not_global v o.owner o.this o.that)

  fair_local_one : (v w m : ℕ) → local_to p.mutexes v m ≡ true → local_to p.mutexes w m ≡ true → v ≡ w
  unfolding local_to
  fair_local_one v w m e q =
      let o = one_owner (is_local_to v) (is_local_to w) m p.mutexes h.mutexes_rise e q in local_to_one v w o.owner o.this o.that

pub fair : (p : Plan) → Valid p → Fair (facts_of (system p))
unfolding facts_of
fair p h = record {
  vcpu_in = fair_vcpu_in p h;
  vcpu_budget = fair_budget p h;
  no_budget = fair_no_budget p h;
  no_overrun = fair_no_overrun p h;
  task_vcpu = λ v n e. (fair_task p h v n e).0;
  task_in_law = λ v n e. (fair_task p h v n e).1;
  mutex_in = fair_mutex p h;
  sheet_task = fair_sheet_task p h;
  sheet_mutex = λ v n m e. (fair_sheet p h v n m e).0;
  sheet_local = λ v n m e. (fair_sheet p h v n m e).1;
  sheet_ceiling = fair_ceiling p h;
  local_only = fair_local_only p h;
  local_one = fair_local_one p h;
}
