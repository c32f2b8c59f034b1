-- The lines of a plan pass exactly when the plan is valid.
use Prim.Native.Nat.{ℕ, suc, ◌+◌, ◌≤◌, ◌<◌}
use Rattle.std.specs.Prelude.{◌≡◌, ◌↔◌, true, eqb, leb}
use Rattle.std.proofs.Math.Path.{refl, subst}
use mathlib.Core.List.{List, [], ◌∷◌, ◌++◌, append-nil, append_assoc}
use Rattle.std.proofs.Math.Logic.{inl}
use Rattle.std.proofs.lemmas.Bool.{false≢true}
use native.Mathlib.Omega.{arith}
use Rattle.std.proofs.Math.Nat.{add-zero}
use Rattle.std.proofs.Math.ListN.{length}
use Rattle.std.proofs.Common.{length-append}
use borrow.Author.Tests.{eqb-true, eq-eqb, leb-true}
use Rattle.laws.specs.BoolLaws.{both_right, either_left}
use Rattle.laws.specs.Sums.{Each, Chain, Some, flat}
use Rattle.plan.specs.Limits.{max_tasks, max_locks}
use Rattle.plan.specs.Refusals.{unless}
use Rattle.plan.specs.Line.{Item, shape, written, PlanLine, GuestLine, EndLine}
use Rattle.plan.specs.Plan.{Policy, Periodic, Deferrable, OverrunChoice, WithOverrun, WithoutOverrun, Vcpu, Owner, Global, Local, Mutex, Open, Lock, Task, Section, Plan, tasks_of, no_vcpu, no_task}
use Rattle.plan.specs.Text.{item, policy_kind, owned_item, open_item, vcpu_items, mutex_items, open_items, lock_items, task_items, section_items, items_of}
use Rattle.plan.specs.Rules.{Known, known, start, within, follows, rule, tests_of, phase, learn, learnt, with_mutex, last}
use Rattle.plan.specs.Reading.{rules, fault, Passes}
use Rattle.plan.specs.Valid.{PairRises, VcpuValid, MutexValid, OpenValid, LockValid, TaskValid, SectionValid, Valid}
use Rattle.plan.specs.ListLaws.{chain_rest, chain_from, last_append}
use Rattle.plan.specs.JudgeLaws.{fault_allowed}
use Rattle.plan.proofs.RuleLaws.{vcpu_clear, mutex_clear, open_clear, guest_clear_law, task_clear_law, run_clear_law, lock_clear_law, end_clear}

-- the phase after some rows: k, or q where there is no row
abbrev phase_after : {A : Type 0} → ℕ → ℕ → List A → ℕ
phase_after q k [] = q
phase_after q k (x ∷ xs) = k

phase_same : {A : Type 0} (k : ℕ) (xs : List A) → phase_after k k xs ≡ k
phase_same k [] = refl
phase_same k (x ∷ xs) = refl

phase_some : {A : Type 0} (q k : ℕ) (xs : List A) → Some xs → phase_after q k xs ≡ k
phase_some q k [] h = absurd h
phase_some q k (x ∷ xs) h = refl

-- the locks of the last task, l where there is none
abbrev last_locks : ℕ → List Task → ℕ
last_locks l [] = l
last_locks l (r ∷ rs) = last_locks (0 + length r.locks) rs

-- before the first row of a table
abbrev no_mutex : Mutex
no_mutex = record { m = 0; owner = Global }

abbrev no_open : Open
no_open = record { m = 0; guest = 0 }

abbrev no_section : Section
no_section = record { guest = 0; tasks = [] }

tasks_length : (s : Section) (ss : List Section) → length (tasks_of (s ∷ ss)) ≡ length s.tasks + length (tasks_of ss)
unfolding tasks_of flat
tasks_length s ss = simp length-append

-- one row more: it is clear exactly when it is valid and rises
row_more : {F X U P C E K : Type 0} → F ↔ (X × U) → P ↔ (C × E × K) → (F × P) ↔ ((U × C) × (X × E) × K)
row_more e i = (
  λ h. let a = e.0 h.0 in let b = i.0 h.1 in ((a.1, b.0), (a.0, b.1), b.2),
  λ h. (e.1 (h.1.0, h.0.0), i.1 (h.0.1, h.1.1, h.2)),
)

-- the rows after one more row rise from that row
rise_from :
    {A : Type 0} (R : A → A → Type 0) (d x : A) (xs rs : List A) {P E K : Type 0} →
    P ↔ (Chain R (last d (xs ++ (x ∷ [])) ∷ rs) × E × K) → P ↔ (Chain R (x ∷ rs) × E × K)
rise_from R d x xs rs {P = P} {E = E} {K = K} h = subst (λ y. P ↔ (Chain R (y ∷ rs) × E × K)) (last_append d x xs) h

-- THE HOST LINES: a table passes exactly when its rows are valid and rise from its last row so far
vcpus_pass :
    (rs : List Vcpu) (q : ℕ) (ws : List Vcpu) (is : List Item) → within q 2 3 ≡ true →
    Passes rules (known q ws [] [] 0 0 0 0 0) (vcpu_items rs is)
    ↔ (Chain (λ r s. r.v < s.v) (last no_vcpu ws ∷ rs) × Each VcpuValid rs × Passes rules (known (phase_after q 3 rs) (ws ++ rs) [] [] 0 0 0 0 0) is)
unfolding vcpu_items learn phase follows
vcpus_pass [] q ws is f = rw append-nil (λ h. (tt, tt, h), λ h. h.2)
vcpus_pass (r ∷ rs) q ws is f =
    row_more (vcpu_clear (known q ws [] [] 0 0 0 0 0) r f) (simp (phase_same, append_assoc) at (rise_from (λ r s. r.v < s.v) no_vcpu r ws rs (vcpus_pass rs 3 (ws ++ (r ∷ [])) is refl)))

owned_learnt : (t : Known) (m : ℕ) (o : Owner) → learnt t (owned_item m o) ≡ with_mutex 4 t (record { m = m; owner = o })
unfolding learn phase
owned_learnt t m Global = refl
owned_learnt t m (Local v) = refl

module _ (vs : List Vcpu) where
  mutexes_pass :
      (rs : List Mutex) (q : ℕ) (ws : List Mutex) (is : List Item) → within q 3 4 ≡ true →
      Passes rules (known q vs ws [] 0 0 0 0 0) (mutex_items rs is)
      ↔ (Chain (λ r s. r.m < s.m) (last no_mutex ws ∷ rs)
      × Each (MutexValid vs) rs
      × Passes rules (known (phase_after q 4 rs) vs (ws ++ rs) [] 0 0 0 0 0) is)
  unfolding mutex_items
  mutexes_pass [] q ws is f = rw append-nil (λ h. (tt, tt, h), λ h. h.2)
  mutexes_pass (r ∷ rs) q ws is f =
      rw owned_learnt
      (row_more (mutex_clear (known q vs ws [] 0 0 0 0 0) r.m r.owner f)
      (simp (phase_same, append_assoc) at (rise_from (λ r s. r.m < s.m) no_mutex r ws rs (mutexes_pass rs 4 (ws ++ (r ∷ [])) is refl))))

  module _ (ms : List Mutex) where
    opens_pass :
        (rs : List Open) (q : ℕ) (ws : List Open) (is : List Item) → within q 3 5 ≡ true →
        Passes rules (known q vs ms ws 0 0 0 0 0) (open_items rs is)
        ↔ (Chain (λ r s. PairRises r.m r.guest s.m s.guest) (last no_open ws ∷ rs)
        × Each (OpenValid vs ms) rs
        × Passes rules (known (phase_after q 5 rs) vs ms (ws ++ rs) 0 0 0 0 0) is)
    unfolding open_items learn phase follows
    opens_pass [] q ws is f = rw append-nil (λ h. (tt, tt, h), λ h. h.2)
    opens_pass (r ∷ rs) q ws is f =
        row_more (open_clear (known q vs ms ws 0 0 0 0 0) r f) (simp (phase_same, append_assoc) at (rise_from (λ r s. PairRises r.m r.guest s.m s.guest) no_open r ws rs (opens_pass rs 5 (ws ++ (r ∷ [])) is refl)))

    -- THE SECTIONS
    module _ (os : List Open) where
      module _ (g : ℕ) where
        -- a task's locks pass exactly when they are valid and no more than 8
        locks_pass :
            (v n k : ℕ) (rs : List Lock) (l : ℕ) (is : List Item) → l ≤ max_locks →
            Passes rules (known 7 vs ms os g v n k l) (lock_items rs is)
            ↔ (Each (LockValid ms os g v) rs × (l + length rs ≤ max_locks) × Passes rules (known 7 vs ms os g v n k (l + length rs)) is)
        unfolding lock_items learn phase follows
        locks_pass v n k [] l is p = rw add-zero (λ h. (tt, p, h), λ h. h.2)
        locks_pass v n k (r ∷ rs) l is p =
            let e = lock_clear_law (known 7 vs ms os g v n k l) r.m r.ticks refl in
            let f = run_clear_law (known 9 vs ms os g v n k (l + 1)) r.after refl in
            let s : l + 1 + length rs ≡ l + suc (length rs) = omega arith in (
              λ h.
                  let a = e.0 h.0 in
                  let b = (locks_pass v n k rs (l + 1) is (omega arith)).0 h.1.1 in
                  ((record { m_in = a.0; ticks_in = a.1; after_in = f.0 h.1.0; within_reach = a.2 }, b.0), omega arith, rw s at b.2),
              λ h.
                  let a = h.0.0 in
                  (e.1 (a.m_in, a.ticks_in, a.within_reach, omega arith), (f.1 a.after_in, (locks_pass v n k rs (l + 1) is (omega arith)).1 (h.0.1, omega arith, rw s h.2))),
            )

        -- a section's tasks pass exactly when they are valid, rise from the last task d, and are no more than 64 with the k before them
        tasks_pass :
            (rs : List Task) (q : ℕ) (d : Task) (k l : ℕ) (is : List Item) → within q 6 7 ≡ true → k ≤ max_tasks →
            Passes rules (known q vs ms os g d.v d.n k l) (task_items rs is)
            ↔ (Chain (λ i j. PairRises i.v i.n j.v j.n) (d ∷ rs)
            × Each (TaskValid vs ms os g) rs
            × (k + length rs ≤ max_tasks)
            × Passes rules (known (phase_after q 7 rs) vs ms os g (last d rs).v (last d rs).n (k + length rs) (last_locks l rs)) is)
        unfolding task_items learn phase follows
        tasks_pass [] q d k l is f p = rw add-zero (λ h. (tt, tt, p, h), λ h. h.3)
        tasks_pass (r ∷ rs) q d k l is f p =
            let e = task_clear_law (known q vs ms os g d.v d.n k l) r.v r.n r.period f in
            let w = run_clear_law (known 8 vs ms os g r.v r.n (k + 1) 0) r.first refl in
            let c = locks_pass r.v r.n (k + 1) r.locks 0 (task_items rs is) (omega arith) in
            let s : k + 1 + length rs ≡ k + suc (length rs) = omega arith in (
              λ h.
                  let a = e.0 h.0 in
                  let b = c.0 h.1.1 in
                  let t = (tasks_pass rs 7 r (k + 1) (0 + length r.locks) is refl (omega arith)).0 b.2 in (
                    (a.3, t.0),
                    (record { v_in = a.0; n_in = a.1; period_in = a.2; own_vcpu_law = a.4; first_in_law = w.0 h.1.0; few_locks = omega arith; locks_valid = b.0 }, t.1),
                    omega arith,
                    rw (s, phase_same 7 rs) at t.3,
                  ),
              λ h.
                  let a = h.1.0 in (
                    e.1 (a.v_in, a.n_in, a.period_in, h.0.0, a.own_vcpu_law, omega arith),
                    (
                      w.1 a.first_in_law,
                      c.1 (a.locks_valid, omega arith, (tasks_pass rs 7 r (k + 1) (0 + length r.locks) is refl (omega arith)).1 (h.0.1, h.1.1, omega arith, rw (s, phase_same 7 rs) h.3)),
                    ),
                  ),
            )

      -- neither a guest nor the end follows a guest's line, so a section has a task
      some_task :
          (ts : List Task) (g v n k l : ℕ) (ss : List Section) →
          Passes rules (known (phase_after 6 7 ts) vs ms os g v n k l) (section_items ss (item EndLine [] ∷ [])) → Some ts
      unfolding section_items follows
      some_task [] g v n k l [] h = absurd (false≢true (fault_allowed rules _ (item EndLine []) h.0))
      some_task [] g v n k l (s ∷ ss) h = absurd (false≢true (fault_allowed rules _ (item GuestLine (s.guest ∷ [])) h.0))
      some_task (t ∷ ts) g v n k l ss h = tt

      -- the sections and the end pass exactly when the sections are valid, rise from the last one, d, and the last line before the end is a run
      sections_pass :
          (ss : List Section) (q : ℕ) (d : Section) (v n k l : ℕ) → follows q GuestLine ≡ true → k ≤ max_tasks →
          Passes rules (known q vs ms os d.guest v n k l) (section_items ss (item EndLine [] ∷ []))
          ↔ (Chain (λ r s. r.guest < s.guest) (d ∷ ss) × Each (SectionValid vs ms os) ss × (k + length (tasks_of ss) ≤ max_tasks) × (phase_after q 7 ss ≡ 7))
      unfolding section_items learn phase
      sections_pass [] q d v n k l f p = (
        λ h. (tt, tt, (unfold tasks_of flat in omega arith), eqb-true q 7 (unfold follows in fault_allowed rules (known q vs ms os d.guest v n k l) (item EndLine []) h.0)),
        λ h. (end_clear (known q vs ms os d.guest v n k l) (unfold follows in eq-eqb q 7 h.3), refl),
      )
      sections_pass (s ∷ ss) q d v n k l f p =
          let e = guest_clear_law (known q vs ms os d.guest v n k l) s.guest f in
          let c = tasks_pass s.guest s.tasks 6 no_task k l (section_items ss (item EndLine [] ∷ [])) refl p in
          let w = last no_task s.tasks in
          let next = sections_pass ss 7 s w.v w.n (k + length s.tasks) (last_locks l s.tasks) (unfold follows in refl) in (
            λ h.
                let a = e.0 h.0 in
                let b = c.0 h.1 in
                let o = some_task s.tasks s.guest w.v w.n (k + length s.tasks) (last_locks l s.tasks) ss b.3 in
                let t = (next b.2).0 (rw (phase_some 6 7 s.tasks o) at b.3) in (
                  (a.1, t.0),
                  (record { guest_in = a.0; has_vcpu_law = a.2; some_task = o; tasks_rise = chain_rest _ no_task s.tasks b.0; tasks_valid = b.1 }, t.1),
                  omega (arith, tasks_length s ss),
                  refl,
                ),
            λ h.
                let a = h.1.0 in
                let b : k + length s.tasks ≤ max_tasks = omega (arith, tasks_length s ss) in (
                  e.1 (a.guest_in, h.0.0, a.has_vcpu_law),
                  c.1 (
                    chain_from _ no_task (TaskValid vs ms os s.guest) s.tasks (λ x j. inl j.v_in.0) a.tasks_valid a.tasks_rise,
                    a.tasks_valid,
                    b,
                    rw (phase_some 6 7 s.tasks a.some_task) ((next b).1 (h.0.1, h.1.1, omega (arith, tasks_length s ss), phase_same 7 ss)),
                  ),
                ),
          )

-- THE PLAN: after its first two lines
front_pass : (q : Policy) (o : OverrunChoice) (is : List Item) → Passes rules start (item PlanLine [] ∷ item (policy_kind q o) [] ∷ is) ↔ Passes rules (known 2 [] [] [] 0 0 0 0 0) is
unfolding fault unless follows written shape rule tests_of learn phase
front_pass Periodic WithOverrun is = (λ h. h.1.1, λ h. (refl, (refl, h)))
front_pass Periodic WithoutOverrun is = (λ h. h.1.1, λ h. (refl, (refl, h)))
front_pass Deferrable WithOverrun is = (λ h. h.1.1, λ h. (refl, (refl, h)))
front_pass Deferrable WithoutOverrun is = (λ h. h.1.1, λ h. (refl, (refl, h)))

owned_follows : (q m : ℕ) (o : Owner) → follows q (owned_item m o).kind ≡ within q 3 4
unfolding follows
owned_follows q m Global = refl
owned_follows q m (Local v) = refl

-- no line but a VCPU's follows the policy, so there is a VCPU
some_vcpu :
    (vs ws : List Vcpu) (ms : List Mutex) (os : List Open) (ss : List Section) →
    Passes rules (known (phase_after 2 3 vs) ws [] [] 0 0 0 0 0) (mutex_items ms (open_items os (section_items ss (item EndLine [] ∷ [])))) → Some vs
unfolding mutex_items open_items section_items follows
some_vcpu (v ∷ vs) ws ms os ss h = tt
some_vcpu [] ws [] [] [] h = absurd (false≢true (fault_allowed rules _ (item EndLine []) h.0))
some_vcpu [] ws [] [] (s ∷ ss) h = absurd (false≢true (fault_allowed rules _ (item GuestLine (s.guest ∷ [])) h.0))
some_vcpu [] ws [] (o ∷ os) ss h = absurd (false≢true (fault_allowed rules _ (open_item o) h.0))
some_vcpu [] ws (m ∷ ms) os ss h = absurd (false≢true (rw owned_follows at (fault_allowed rules _ (owned_item m.m m.owner) h.0)))

phase_within : {A : Type 0} (q k : ℕ) (xs : List A) → within q 3 5 ≡ true → within k 3 5 ≡ true → within (phase_after q k xs) 3 5 ≡ true
phase_within q k [] f g = f
phase_within q k (x ∷ xs) f g = g

some_section : (q : ℕ) (ss : List Section) → within q 3 5 ≡ true → phase_after q 7 ss ≡ 7 → Some ss
some_section q [] f e = absurd (omega (arith, leb-true q 5 (both_right (leb 3 q) (leb q 5) f)))
some_section q (s ∷ ss) f e = tt

-- the lines of a plan pass exactly when it is valid: table by table, with the phases between
pub passes_exactly : (p : Plan) → Passes rules start (items_of p) ↔ Valid p
unfolding items_of follows
passes_exactly p =
    let vs : List Vcpu = p.vcpus in
    let ms : List Mutex = p.mutexes in
    let os : List Open = p.opens in
    let ss : List Section = p.sections in
    let sections : List Item = section_items ss (item EndLine [] ∷ []) in
    let opens : List Item = open_items os sections in
    let mutexes : List Item = mutex_items ms opens in
    let q : ℕ = phase_after (phase_after 3 4 ms) 5 os in
    let f : within (phase_after 3 4 ms) 3 5 ≡ true = phase_within 3 4 ms refl refl in
    let g : within q 3 5 ≡ true = phase_within (phase_after 3 4 ms) 5 os f refl in
    let A = front_pass p.policy p.overrun (vcpu_items vs mutexes) in
    let B = vcpus_pass vs 2 [] mutexes refl in
    let C = mutexes_pass vs ms 3 [] opens refl in
    let D = opens_pass vs ms os (phase_after 3 4 ms) [] sections f in
    let E = sections_pass vs ms os ss q no_section 0 0 0 0 (either_left (within q 3 5) (eqb q 7) g) (omega arith) in (
      λ h.
          let b = B.0 (A.0 h) in
          let v = some_vcpu vs vs ms os ss b.2 in
          let c = C.0 (rw (phase_some 2 3 vs v) at b.2) in
          let d = D.0 c.2 in
          let e = E.0 d.2 in
          record {
            some_vcpu = v;
            vcpus_rise = chain_rest _ no_vcpu vs b.0;
            vcpus_valid = b.1;
            mutexes_rise = chain_rest _ no_mutex ms c.0;
            mutexes_valid = c.1;
            opens_rise = chain_rest _ no_open os d.0;
            opens_valid = d.1;
            some_section = some_section q ss g e.3;
            sections_rise = chain_rest _ no_section ss e.0;
            sections_valid = e.1;
            few_tasks = omega (arith, e.2);
          },
      λ h.
          let e = E.1 (chain_from _ no_section (SectionValid vs ms os) ss (λ x r. r.guest_in.0) h.sections_valid h.sections_rise, h.sections_valid, omega arith, phase_some q 7 ss h.some_section) in
          let d = D.1 (chain_from _ no_open (OpenValid vs ms) os (λ x r. inl r.m_in.0) h.opens_valid h.opens_rise, h.opens_valid, e) in
          let c = C.1 (chain_from _ no_mutex (MutexValid vs) ms (λ x r. r.m_in.0) h.mutexes_valid h.mutexes_rise, h.mutexes_valid, d) in
          let b = B.1 (chain_from _ no_vcpu VcpuValid vs (λ x r. r.v_in.0) h.vcpus_valid h.vcpus_rise, h.vcpus_valid, rw (phase_some 2 3 vs h.some_vcpu) c) in
          A.1 b,
    )

pub passes_valid : (p : Plan) → Passes rules start (items_of p) → Valid p
passes_valid p = (passes_exactly p).0

pub valid_passes : (p : Plan) → Valid p → Passes rules start (items_of p)
valid_passes p = (passes_exactly p).1
