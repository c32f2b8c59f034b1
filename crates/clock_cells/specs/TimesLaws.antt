-- The times of a valid plan say its timing, and go with a view that says its facts.
use Rattle.std.specs.Prelude.{ℕ, ◌+◌, ◌-◌, ◌*◌, ◌<◌, ◌≤◌, ◌≡◌, refl, Bool, ◌&&◌, List, [], ◌∷◌, ltb, length}
use Rattle.std.proofs.Math.Path.{sym, ap}
use Rattle.std.proofs.Common.{◌∙◌, lt-ltb}
use Rattle.std.proofs.Math.Bool.{true, false}
use native.Mathlib.Omega.{arith}
use Rattle.std.proofs.Math.Dec.{eqb}
use Rattle.laws.specs.BoolLaws.{both_left, both_right, both, clash, is_false}
use Rattle.laws.specs.Choice.{when}
use Rattle.laws.specs.Sums.{sum, Each}
use Rattle.laws.specs.SumLaws.{each_map, each_flat, first_each, first_none}
use Rattle.plan.specs.Limits.{max_v, most_n, max_locks, max_period}
use Rattle.plan.specs.Plan.{Vcpu, Task, Plan, tasks_of, no_vcpu, no_task}
use Rattle.plan.specs.Lookup as lookup
use Rattle.plan.specs.Valid.{VcpuValid, TaskValid, Valid}
use Rattle.figures.specs.System.{system}
use Rattle.figures.specs.Figures.{vcpu_at}
use Rattle.figures.specs.Figures as figures
use Rattle.figures.specs.Named.{has_task, task_at, lock_at}
use Rattle.board_seats.specs.Seats.{is_v, is_n}
use Rattle.board_seats.specs.Seats as seats
use Rattle.board_rules.specs.Facts.{Facts, facts_of}
use Rattle.board_rules.specs.View.{facts_in}
use Rattle.board_keeps.specs.Fair.{InV, InN}
use Rattle.board_keeps.specs.FairLaws.{fair}
use Rattle.board_viewcells.specs.ViewOf.{view_of}
use Rattle.board_viewcells.proofs.ViewLaws.{name_in, in_name, facts_in_law}
use Rattle.clock_rules.specs.Clock.{timing_of, begins_in, ends_in}
use Rattle.clock_times.specs.Times.{at_begin, at_end, core_cell, refill_cell, period_cell, lengths_cell, mutex_with, timing_in, Paired, Ordered}
use Rattle.clock_times.specs.Times as times
use Rattle.clock_cells.specs.TimesOf.{core_of, start_of, begin_of, end_of, mutex_of, times_of}
use Rattle.clock_cells.specs.LockLaws.{begins_picks, ends_picks, eight_pick}
use Rattle.clock_cells.specs.OrderLaws.{lock_in, has_mutex_law, has_ticks, ends_before, ends_within}
use Rattle.clock_cells.specs.CellLaws.{InJ, times_length_law, core_cell_law, refill_cell_law, period_cell_law, lengths_cell_law, begin_cell, end_cell, mutex_cell}

-- a number that equals y in range, where y is 0 out of range
ranged : (r : Bool) {x y : ℕ} → (r ≡ true → x ≡ y) → (r ≡ false → y ≡ 0) → when r x ≡ y
unfolding when
ranged true a b = a refl
ranged false a b = sym (b refl)

-- a number that is above 0 just where the test holds
above : (t : Bool) {x : ℕ} → (t ≡ true → 0 < x) → (t ≡ false → x ≡ 0) → t ≡ ltb 0 x
above true {x} a b = sym (lt-ltb 0 x (a refl))
above false {x} a b = ap (ltb 0) (sym (b refl))

-- WHAT IS SAID OF A TASK of a valid plan, and of one that the plan lacks
record Good (k : Task) : Type 0 where
  few : length k.locks ≤ max_locks
  named : Each (λ l. 1 ≤ l.m) k.locks
  ticked : Each (λ l. 1 ≤ l.ticks) k.locks
  period_to : k.period ≤ max_period
  lengths_to : figures.lengths k ≤ 17000000

sum_to : {A : Type 0} (f : A → ℕ) (b : ℕ) (xs : List A) → Each (λ x. f x ≤ b) xs → sum f xs ≤ length xs * b
unfolding sum
sum_to f b [] h = omega arith
sum_to f b (x ∷ xs) h = let l = h.0 in let r = sum_to f b xs h.1 in omega arith

no_good : Good no_task
unfolding figures.lengths sum
no_good = record { few = omega arith; named = tt; ticked = tt; period_to = omega arith; lengths_to = omega arith }

pub no_length : figures.lengths no_task ≡ 0
unfolding figures.lengths sum
no_length = omega arith

module _ (p : Plan) (h : Valid p) where
  task_good_law : (g : ℕ) (k : Task) → TaskValid p.vcpus p.mutexes p.opens g k → Good k × (1 ≤ k.period)
  unfolding figures.lengths
  task_good_law g k t = (
    record {
      few = t.few_locks;
      named = each_map k.locks (λ l v. v.m_in.0) t.locks_valid;
      ticked = each_map k.locks (λ l v. v.ticks_in.0) t.locks_valid;
      period_to = t.period_in.1;
      lengths_to =
          let few = t.few_locks in
          let from = t.first_in_law.1 in
          let each = sum_to (λ l. l.ticks + l.after) 2000000 k.locks (each_map k.locks (λ l v. let a = v.ticks_in.1 in let b = v.after_in.1 in omega arith) t.locks_valid) in
          omega arith;
    },
    t.period_in.0,
  )

  tasks_good_law : Each (λ k. Good k × (1 ≤ k.period)) (tasks_of p.sections)
  unfolding tasks_of
  tasks_good_law =
      each_flat (λ k. Good k × (1 ≤ k.period)) (λ s. s.tasks) p.sections
      (each_map p.sections (λ s v. each_map s.tasks (task_good_law s.guest) v.tasks_valid) h.sections_valid)

  -- BY NAME

  good : (v n : ℕ) → Good (task_at (system p) v n)
  unfolding task_at
  good v n =
      first_each (λ k. eqb k.v v && eqb k.n n) Good no_task (tasks_of p.sections) (λ e. no_good)
      (each_map (tasks_of p.sections) (λ k g. g.0) tasks_good_law)

  period_from : (v n : ℕ) → has_task (system p) v n ≡ true → 0 < (task_at (system p) v n).period
  unfolding task_at has_task
  period_from v n e =
      first_each (λ k. eqb k.v v && eqb k.n n) (λ k. 0 < k.period) no_task (tasks_of p.sections) (λ q. absurd (clash e q))
      (each_map (tasks_of p.sections) (λ k g. g.1) tasks_good_law)

  no_task_law : (v n : ℕ) → has_task (system p) v n ≡ false → task_at (system p) v n ≡ no_task
  unfolding task_at has_task
  no_task_law v n e = first_none (λ k. eqb k.v v && eqb k.n n) no_task (tasks_of p.sections) e

  no_vcpu_law : (v : ℕ) → lookup.has_vcpu p.vcpus v ≡ false → vcpu_at (system p) v ≡ no_vcpu
  unfolding lookup.has_vcpu vcpu_at
  no_vcpu_law v e = first_none (λ r. eqb r.v v) no_vcpu p.vcpus e

  core_from : (v : ℕ) → lookup.has_vcpu p.vcpus v ≡ true → 0 < core_of (system p) v
  unfolding core_of when
  core_from v e = rw e (omega arith)

  core_none : (v : ℕ) → lookup.has_vcpu p.vcpus v ≡ false → core_of (system p) v ≡ 0
  unfolding core_of when
  core_none v e = rw e

  refill_from : (v : ℕ) → lookup.has_vcpu p.vcpus v ≡ true → 0 < (vcpu_at (system p) v).period
  unfolding lookup.has_vcpu vcpu_at
  refill_from v e = (first_each (λ r. eqb r.v v) VcpuValid no_vcpu p.vcpus (λ q. absurd (clash e q)) h.vcpus_valid).period_in.0

  refill_most : (v : ℕ) → (vcpu_at (system p) v).period ≤ max_period
  unfolding vcpu_at
  refill_most v =
      first_each (λ r. eqb r.v v) (λ r. r.period ≤ max_period) no_vcpu p.vcpus (λ q. omega arith)
      (each_map p.vcpus (λ r v. v.period_in.1) h.vcpus_valid)

  -- a name out of range is none of the plan's
  out_vcpu : (v : ℕ) → is_v v ≡ false → vcpu_at (system p) v ≡ no_vcpu
  unfolding facts_of
  out_vcpu v e = no_vcpu_law v (is_false _ (λ q. clash (name_in v max_v ((fair p h).vcpu_in v q)) e))

  out_task : (v n : ℕ) → (is_v v && is_n n) ≡ false → task_at (system p) v n ≡ no_task
  unfolding facts_of
  out_task v n e =
      no_task_law v n
      (is_false _ (λ q.
      clash (both (is_v v) (is_n n) (name_in v max_v ((fair p h).vcpu_in v ((fair p h).task_vcpu v n q))) (name_in n most_n ((fair p h).task_in_law v n q))) e))

  in_seat : (v n : ℕ) → (is_v v && is_n n) ≡ true → InV v × InN n
  in_seat v n e = (in_name v max_v (both_left (is_v v) _ e), in_name n most_n (both_right (is_v v) _ e))

  -- THE TIMING

  the_core : (v : ℕ) → when (is_v v) (core_cell (times_of (system p)) v - 1) ≡ (vcpu_at (system p) v).core
  unfolding core_of
  the_core v =
      ranged (is_v v)
      (λ e. ap (λ x. x - 1) (core_cell_law (system p) v (in_name v max_v e)) ∙ go (lookup.has_vcpu p.vcpus v) refl)
      (λ e. ap (λ (x : Vcpu). x.core) (out_vcpu v e))
    where
      go : (t : Bool) → lookup.has_vcpu p.vcpus v ≡ t → when t ((vcpu_at (system p) v).core + 1) - 1 ≡ (vcpu_at (system p) v).core
      go true e = unfold when in omega arith
      go false e = unfold when in sym (ap (λ (x : Vcpu). x.core) (no_vcpu_law v e))

  the_refill : (v : ℕ) → when (is_v v) (refill_cell (times_of (system p)) v) ≡ (vcpu_at (system p) v).period
  the_refill v =
      ranged (is_v v) (λ e. refill_cell_law (system p) v (in_name v max_v e)) (λ e. ap (λ (x : Vcpu). x.period) (out_vcpu v e))

  the_period : (v n : ℕ) → when (is_v v && is_n n) (period_cell (times_of (system p)) v n) ≡ (task_at (system p) v n).period
  the_period v n =
      ranged (is_v v && is_n n) (λ e. let i = in_seat v n e in period_cell_law (system p) v n i.0 i.1)
      (λ e. ap (λ (x : Task). x.period) (out_task v n e))

  the_lengths : (v n : ℕ) → when (is_v v && is_n n) (lengths_cell (times_of (system p)) v n) ≡ figures.lengths (task_at (system p) v n)
  unfolding figures.lengths sum
  the_lengths v n =
      ranged (is_v v && is_n n) (λ e. let i = in_seat v n e in lengths_cell_law (system p) v n i.0 i.1)
      (λ e. ap figures.lengths (out_task v n e))

  the_begins : (v n d : ℕ) →
      when (is_v v && is_n n) (mutex_with (times_of (system p)) at_begin v n d) ≡ begins_in (task_at (system p) v n).first (task_at (system p) v n).locks d
  unfolding begin_of start_of mutex_of lock_at begins_in
  the_begins v n d =
      let k = task_at (system p) v n in
      let x = times_of (system p) in
      ranged (is_v v && is_n n)
      (λ e. let i = in_seat v n e in
      eight_pick (λ t l. t) max_locks k.first k.locks (times.lock_cell x times.at_mutex v n) (times.lock_cell x at_begin v n) d (good v n).few (good v n).named
      (λ j a b. mutex_cell (system p) v n j i.0 i.1 (record { from = a; to = b }))
      (λ j a b. begin_cell (system p) v n j i.0 i.1 (record { from = a; to = b }))
      ∙ begins_picks k.first k.locks d)
      (λ e. ap (λ (y : Task). begins_in y.first y.locks d) (out_task v n e))

  the_ends : (v n d : ℕ) →
      when (is_v v && is_n n) (mutex_with (times_of (system p)) at_end v n d) ≡ ends_in (task_at (system p) v n).first (task_at (system p) v n).locks d
  unfolding end_of start_of mutex_of lock_at ends_in
  the_ends v n d =
      let k = task_at (system p) v n in
      let x = times_of (system p) in
      ranged (is_v v && is_n n)
      (λ e. let i = in_seat v n e in
      eight_pick (λ t l. t + l.ticks) max_locks k.first k.locks (times.lock_cell x times.at_mutex v n) (times.lock_cell x at_end v n) d (good v n).few (good v n).named
      (λ j a b. mutex_cell (system p) v n j i.0 i.1 (record { from = a; to = b }))
      (λ j a b. end_cell (system p) v n j i.0 i.1 (record { from = a; to = b }))
      ∙ ends_picks k.first k.locks d)
      (λ e. ap (λ (y : Task). ends_in y.first y.locks d) (out_task v n e))

  -- THE TIMES SAY THE TIMING
  pub timing_in_law : timing_in (facts_of (system p)) (times_of (system p)) ≡ timing_of (system p)
  unfolding timing_in timing_of
  timing_in_law = λ i. record {
    facts = facts_of (system p);
    core = λ v. the_core v i;
    refill = λ v. the_refill v i;
    period = λ v n. the_period v n i;
    lengths = λ v n. the_lengths v n i;
    begins = λ v n d. the_begins v n d i;
    ends = λ v n d. the_ends v n d i;
  }

  -- A VIEW THAT SAYS THE FACTS goes with the times

  module _ (t : List ℕ) (e : facts_in p.policy p.overrun t ≡ facts_of (system p)) where
    same_vcpu : (v : ℕ) → seats.has_vcpu t v ≡ lookup.has_vcpu p.vcpus v
    unfolding facts_in facts_of
    same_vcpu v = ap (λ (F : Facts). F.has_vcpu v) e

    same_task : (v n : ℕ) → seats.has_task t v n ≡ has_task (system p) v n
    unfolding facts_in facts_of
    same_task v n = ap (λ (F : Facts). F.has_task v n) e

    pub facts_paired : Paired t (times_of (system p))
    facts_paired = record {
      long = times_length_law (system p);
      same_vcpu = λ v i.
          same_vcpu v
          ∙ above (lookup.has_vcpu p.vcpus v) (core_from v) (core_none v)
          ∙ ap (ltb 0) (sym (core_cell_law (system p) v i));
      some_refill = λ v i.
          same_vcpu v
          ∙ above (lookup.has_vcpu p.vcpus v) (refill_from v) (λ q. ap (λ (x : Vcpu). x.period) (no_vcpu_law v q))
          ∙ ap (ltb 0) (sym (refill_cell_law (system p) v i));
      some_period = λ v n i j.
          same_task v n
          ∙ above (has_task (system p) v n) (period_from v n) (λ q. ap (λ (x : Task). x.period) (no_task_law v n q))
          ∙ ap (ltb 0) (sym (period_cell_law (system p) v n i j));
      no_lengths = λ v n i j q. lengths_cell_law (system p) v n i j ∙ ap figures.lengths (no_task_law v n (sym (same_task v n) ∙ q)) ∙ no_length;
      refill_to = λ v i. rw (refill_cell_law (system p) v i) (refill_most v);
      period_to = λ v n i j. rw (period_cell_law (system p) v n i j) (good v n).period_to;
      lengths_to = λ v n i j. rw (lengths_cell_law (system p) v n i j) (good v n).lengths_to;
    }

  pub view_paired : Paired (view_of (system p)) (times_of (system p))
  view_paired = facts_paired (view_of (system p)) (facts_in_law p h)

  -- THE SECTIONS OF A TASK stand one behind the other
  module _ (v n : ℕ) (i : InV v) (q : InN n) where
    abbrev task : Task
    task = task_at (system p) v n

    -- a place that has a mutex, as the task has it
    at_lock : (j : ℕ) → (k : InJ j) → 0 < times.lock_cell (times_of (system p)) times.at_mutex v n j → j ≤ length task.locks
    at_lock j k m = lock_in task j k.from (rw (mutex_cell (system p) v n j i q k) at m)

    cells_ticks : (j : ℕ) → 0 < j → j ≤ max_locks → 0 < times.lock_cell (times_of (system p)) times.at_mutex v n j →
        times.lock_cell (times_of (system p)) at_begin v n j < times.lock_cell (times_of (system p)) at_end v n j
    cells_ticks j a b m =
        let k : InJ j = record { from = a; to = b } in
        rw (begin_cell (system p) v n j i q k, end_cell (system p) v n j i q k) (has_ticks task (good v n).ticked j a (at_lock j k m))

    cells_gap : (h j : ℕ) → 0 < h → h < j → j ≤ max_locks → 0 < times.lock_cell (times_of (system p)) times.at_mutex v n j →
        0 < times.lock_cell (times_of (system p)) times.at_mutex v n h
    cells_gap h j a l b m =
        let e = at_lock j (record { from = omega arith; to = b }) m in
        rw (mutex_cell (system p) v n h i q (record { from = a; to = omega arith })) (has_mutex_law task (good v n).named h a (omega arith))

    cells_behind : (h j : ℕ) → 0 < h → h < j → j ≤ max_locks → 0 < times.lock_cell (times_of (system p)) times.at_mutex v n j →
        times.lock_cell (times_of (system p)) at_end v n h ≤ times.lock_cell (times_of (system p)) at_begin v n j
    cells_behind h j a l b m =
        let k : InJ j = record { from = omega arith; to = b } in
        rw (end_cell (system p) v n h i q (record { from = a; to = omega arith }), begin_cell (system p) v n j i q k)
        (ends_before task h j a l (at_lock j k m))

    cells_within : (j : ℕ) → 0 < j → j ≤ max_locks → 0 < times.lock_cell (times_of (system p)) times.at_mutex v n j →
        times.lock_cell (times_of (system p)) at_end v n j ≤ lengths_cell (times_of (system p)) v n
    cells_within j a b m =
        let k : InJ j = record { from = a; to = b } in
        rw (end_cell (system p) v n j i q k, lengths_cell_law (system p) v n i q) (ends_within task j a (at_lock j k m))

  pub times_ordered : Ordered (times_of (system p))
  times_ordered = record {
    some_ticks = λ v n j i q. cells_ticks v n i q j;
    no_gap = λ v n h j i q. cells_gap v n i q h j;
    behind = λ v n h j i q. cells_behind v n i q h j;
    in_lengths = λ v n j i q. cells_within v n i q j;
  }
