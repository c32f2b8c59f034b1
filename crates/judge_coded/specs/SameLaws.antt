-- Where what is known and what is seen are the same, the two judges say the same of a line, and after a line with no fault they are the same again.
use Rattle.std.specs.Prelude.{ℕ, ◌+◌, ◌≤◌, ◌<◌, ◌≡◌, List, ◌&&◌, ltb, Ok}
use Rattle.std.proofs.Math.Path.{refl, sym}
use Rattle.std.proofs.Common.{ap, ◌∙◌, arith}
use Rattle.std.proofs.Math.Bool.{true, and-true}
use Rattle.std.proofs.Math.Dec.{eqb}
use borrow.Author.Tests.{ltb-true, lt-ltb, ne_eqb}
use Rattle.laws.specs.BoolLaws.{both_left, both_right}
use Rattle.plan.specs.Limits.{max_v, max_guest, max_core, max_m, max_period, max_tasks, max_locks}
use Rattle.plan.specs.declared.Refusal.TheVariants.{Range, Order}
use Rattle.plan.specs.Refusals.{unless}
use Rattle.plan.specs.declared.Kind.{Kind}
use Rattle.plan.specs.declared.Kind.TheVariants.{PlanLine, PolicyPO, PolicyPN, PolicyDO, PolicyDN, VcpuLine, MutexG, MutexL, OpenLine, GuestLine, TaskLine, RunLine, LockLine, EndLine, AskLine, FreeLine, UseLine, TopLine, ShowLine}
use Rattle.plan.specs.Plan.{Owner, Global, Local, Open}
use Rattle.plan.specs.Lookup.{is_global, is_local_to}
use Rattle.plan.specs.Rules.{Known, within, nth, vcpu_of, vcpu_fits, rule, tests_of, moved, with_mutex, learn}
use Rattle.plan.specs.JudgeLaws.{clear_test, clear_rest}
use Rattle.plan.proofs.RuleLaws.{in_range_law}
use Rattle.judge_coded.specs.Coded.{Seen, global, bump, ranged, vcpu_fault, mutex_fault, open_fault, guest_fault, host_fault, task_fault, run_fault, lock_fault, ruled, after_vcpu, after_mutex, after_open, placed, seen_by}
use Rattle.judge_coded.specs.Same.{Same}
use Rattle.judge_coded.specs.TableLaws.{byte_small, vcpus_more, mutexes_more, opens_more}

-- THE SAME IS WRONG

global_rule : (s : Seen) (m : ℕ) → mutex_fault s m 1 true ≡ unless (within m 1 max_m) Range (unless (ltb s.mutex m) Order (Ok tt))
unfolding mutex_fault unless
global_rule s m = rw (and-true (within m 1 max_m))

pub same_rule : {t : Known} {s : Seen} → Same t s → (k : Kind) (ns : List ℕ) → rule t k ns ≡ ruled s k ns
unfolding rule tests_of ruled vcpu_fault mutex_fault open_fault guest_fault host_fault task_fault run_fault lock_fault
same_rule r PlanLine ns = refl
same_rule r PolicyPO ns = refl
same_rule r PolicyPN ns = refl
same_rule r PolicyDO ns = refl
same_rule r PolicyDN ns = refl
same_rule r VcpuLine ns = rw r.vcpus.top_is
same_rule {s = s} r MutexG ns = rw r.mutexes.top_is (sym (global_rule s (nth 0 ns)))
same_rule r MutexL ns = rw (r.mutexes.top_is, r.vcpus.has (nth 1 ns))
same_rule r OpenLine ns = rw (r.opens.m_is, r.opens.guest_is, r.mutexes.is_global_law (nth 0 ns), r.vcpus.host (nth 1 ns))
same_rule r GuestLine ns = rw (r.guest_is, r.vcpus.host (nth 0 ns))
same_rule {s = s} r TaskLine ns = rw (r.v_is, r.n_is, r.guest_is, r.tasks_is, r.vcpus.has (nth 0 ns), r.vcpus.of s.guest (nth 0 ns))
same_rule r RunLine ns = refl
same_rule {s = s} r LockLine ns = rw (r.v_is, r.guest_is, r.locks_is, r.mutexes.has (nth 0 ns), r.mutexes.is_local_law s.v (nth 0 ns), r.mutexes.is_global_law (nth 0 ns), r.opens.has s.guest (nth 0 ns))
same_rule r EndLine ns = refl
same_rule r AskLine ns = refl
same_rule r FreeLine ns = refl
same_rule r UseLine ns = refl
same_rule r TopLine ns = refl
same_rule r ShowLine ns = refl

-- WHAT A LINE WITH NO FAULT SAYS

bump_one : (n : ℕ) → n < max_tasks → bump n ≡ n + 1
unfolding bump
bump_one n h = rw (lt-ltb n max_tasks h)

-- THE SAME IS KNOWN

module _ (q : ℕ) {t : Known} {s : Seen} (r : Same t s) where
  placed_same :
      {g v n ts ls g' v' n' ts' ls' : ℕ} → g ≡ g' → v ≡ v' → n ≡ n' → ts ≡ ts' → ls ≡ ls' →
      Same (record { phase = q; vcpus = t.vcpus; mutexes = t.mutexes; opens = t.opens; guest = g; v = v; n = n; tasks = ts; locks = ls }) (placed q s g' v' n' ts' ls')
  unfolding placed
  placed_same a b c d e =
      record {
        phase_is = refl;
        vcpus = r.vcpus;
        mutexes = r.mutexes;
        opens = r.opens;
        guest_is = a;
        v_is = b;
        n_is = c;
        tasks_is = d;
        locks_is = e;
      }

  after_vcpu_law : (ns : List ℕ) → rule t VcpuLine ns ≡ Ok tt → Same (learn q t VcpuLine ns) (seen_by q s VcpuLine ns)
  unfolding rule tests_of vcpu_fits learn seen_by after_vcpu
  after_vcpu_law ns h =
      let x = vcpu_of ns in
      let fits : vcpu_fits x ≡ true = clear_test _ _ _ h in
      let later = both_right (within x.v 1 max_v) (within x.guest 1 max_guest && (within x.core 0 max_core && (within x.period 1 max_period && within x.budget 1 x.period))) fits in
      let a = in_range_law x.v 1 max_v (both_left (within x.v 1 max_v) _ fits) in
      let b = in_range_law x.guest 1 max_guest (both_left (within x.guest 1 max_guest) _ later) in
      let l : s.vcpu < x.v = ltb-true s.vcpu x.v (rw r.vcpus.top_is at (clear_test _ _ _ (clear_rest _ _ _ h))) in
      record {
        phase_is = refl;
        vcpus = rw (byte_small x.guest (omega arith)) (vcpus_more r.vcpus x a.0 a.1 b.0 b.1 l);
        mutexes = r.mutexes;
        opens = r.opens;
        guest_is = r.guest_is;
        v_is = r.v_is;
        n_is = r.n_is;
        tasks_is = r.tasks_is;
        locks_is = r.locks_is;
      }

  mutex_after :
      (m e : ℕ) (o : Owner) → m ≤ max_m → s.mutex < m → 1 ≤ e → e < 256 → is_global o ≡ eqb e global →
      ((v : ℕ) → is_local_to v o ≡ (within e 1 max_v && eqb e v)) → Same (with_mutex q t (record { m = m; owner = o })) (after_mutex q s m e)
  unfolding after_mutex
  mutex_after m e o a b c d f g =
      record {
        phase_is = refl;
        vcpus = r.vcpus;
        mutexes = rw (byte_small e d) (mutexes_more r.mutexes m o e a b c f g);
        opens = r.opens;
        guest_is = r.guest_is;
        v_is = r.v_is;
        n_is = r.n_is;
        tasks_is = r.tasks_is;
        locks_is = r.locks_is;
      }

  after_global : (ns : List ℕ) → rule t MutexG ns ≡ Ok tt → Same (learn q t MutexG ns) (seen_by q s MutexG ns)
  unfolding rule tests_of learn seen_by
  after_global ns h =
      let a = in_range_law (nth 0 ns) 1 max_m (clear_test _ _ _ h) in
      let l : s.mutex < nth 0 ns = ltb-true s.mutex (nth 0 ns) (rw r.mutexes.top_is at (clear_test _ _ _ (clear_rest _ _ _ h))) in
      mutex_after (nth 0 ns) global Global a.1 l (omega arith) (omega arith) refl (λ v. refl)

  after_local : (ns : List ℕ) → rule t MutexL ns ≡ Ok tt → Same (learn q t MutexL ns) (seen_by q s MutexL ns)
  unfolding rule tests_of learn seen_by
  after_local ns h =
      let w = nth 1 ns in
      let fits : ranged (nth 0 ns) max_m w max_v ≡ true = clear_test _ _ _ h in
      let a = in_range_law (nth 0 ns) 1 max_m (both_left (within (nth 0 ns) 1 max_m) (within w 1 max_v) fits) in
      let ok : within w 1 max_v ≡ true = both_right (within (nth 0 ns) 1 max_m) (within w 1 max_v) fits in
      let b = in_range_law w 1 max_v ok in
      let l : s.mutex < nth 0 ns = ltb-true s.mutex (nth 0 ns) (rw r.mutexes.top_is at (clear_test _ _ _ (clear_rest _ _ _ h))) in
      mutex_after (nth 0 ns) w (Local w) a.1 l b.0 (omega arith) (sym (ne_eqb w global (λ e. omega arith))) (λ v. sym (ap (λ x. x && eqb w v) ok))

  after_open_law : (ns : List ℕ) → rule t OpenLine ns ≡ Ok tt → Same (learn q t OpenLine ns) (seen_by q s OpenLine ns)
  unfolding rule tests_of learn seen_by after_open
  after_open_law ns h =
      let x : Open = record { m = nth 0 ns; guest = nth 1 ns } in
      record {
        phase_is = refl;
        vcpus = r.vcpus;
        mutexes = r.mutexes;
        opens = opens_more r.opens x (clear_test _ _ _ h);
        guest_is = r.guest_is;
        v_is = r.v_is;
        n_is = r.n_is;
        tasks_is = r.tasks_is;
        locks_is = r.locks_is;
      }

  still : Same (moved q t) (placed q s s.guest s.v s.n s.tasks s.locks)
  still = placed_same r.guest_is r.v_is r.n_is r.tasks_is r.locks_is

  -- one more, below the limit
  more_is : {m n : ℕ} → m ≡ n → m < max_tasks → m + 1 ≡ bump n
  more_is {m} {n} e l = ap (λ x. x + 1) e ∙ sym (bump_one n (omega arith))

  after_task : (ns : List ℕ) → rule t TaskLine ns ≡ Ok tt → Same (learn q t TaskLine ns) (seen_by q s TaskLine ns)
  unfolding rule tests_of learn seen_by
  after_task ns h =
      let few = clear_test _ _ _ (clear_rest _ _ _ (clear_rest _ _ _ (clear_rest _ _ _ (clear_rest _ _ _ h)))) in
      placed_same r.guest_is refl refl (more_is r.tasks_is (ltb-true t.tasks max_tasks few)) refl

  after_lock : (ns : List ℕ) → rule t LockLine ns ≡ Ok tt → Same (learn q t LockLine ns) (seen_by q s LockLine ns)
  unfolding rule tests_of learn seen_by
  after_lock ns h =
      let few : t.locks < max_locks = ltb-true t.locks max_locks (clear_test _ _ _ (clear_rest _ _ _ (clear_rest _ _ _ (clear_rest _ _ _ h)))) in
      placed_same r.guest_is r.v_is r.n_is r.tasks_is (more_is r.locks_is (omega arith))

  pub same_learn : (k : Kind) (ns : List ℕ) → rule t k ns ≡ Ok tt → Same (learn q t k ns) (seen_by q s k ns)
  unfolding learn seen_by
  same_learn PlanLine ns h = still
  same_learn PolicyPO ns h = still
  same_learn PolicyPN ns h = still
  same_learn PolicyDO ns h = still
  same_learn PolicyDN ns h = still
  same_learn VcpuLine ns h = after_vcpu_law ns h
  same_learn MutexG ns h = after_global ns h
  same_learn MutexL ns h = after_local ns h
  same_learn OpenLine ns h = after_open_law ns h
  same_learn GuestLine ns h = placed_same refl refl refl r.tasks_is r.locks_is
  same_learn TaskLine ns h = after_task ns h
  same_learn RunLine ns h = still
  same_learn LockLine ns h = after_lock ns h
  same_learn EndLine ns h = still
  same_learn AskLine ns h = still
  same_learn FreeLine ns h = still
  same_learn UseLine ns h = still
  same_learn TopLine ns h = still
  same_learn ShowLine ns h = still
