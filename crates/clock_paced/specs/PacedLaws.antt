-- The timing of a valid plan is paced.
use Rattle.std.specs.Prelude.{ℕ, ◌<◌, ◌≡◌, false, ◌&&◌, List, [], ◌∷◌}
use Rattle.std.proofs.Math.Path.{refl, ap}
use Rattle.std.proofs.Common.{◌∙◌, arith}
use Rattle.std.proofs.Math.Bool.{Bool, true}
use Rattle.std.proofs.Math.Logic.{⊎_elim}
use Rattle.std.proofs.Math.Dec.{eqb}
use Rattle.laws.specs.BoolLaws.{both, clash, bool_cases, either_of}
use Rattle.laws.specs.Sums.{any, first, sum, Each}
use Rattle.laws.specs.SumLaws.{each_map, each_flat, first_in_law, first_out_law, first_none, first_each, members, has_any}
use Rattle.plan.specs.Plan.{Task, Plan, tasks_of}
use Rattle.plan.specs.Lookup.{has_vcpu}
use Rattle.plan.specs.Valid.{VcpuValid, Valid}
use Rattle.figures.specs.System.{system}
use Rattle.figures.specs.Figures.{vcpu_at, no_vcpu, lengths, locks_it}
use Rattle.figures.specs.Named as named
use Rattle.figures.specs.Named.{no_task, task_at}
use Rattle.board_rules.specs.Facts.{facts_of}
use Rattle.board_rules.specs.Facts as facts
use Rattle.board_keeps.specs.FairLaws.{fair}
use Rattle.clock_rules.specs.Clock.{timing_of, begins_in, ends_in}
use Rattle.clock_paced.specs.Paced.{SectionAt, Begun, Over, Paced}
use Rattle.clock_paced.specs.SectionLaws.{Ticking, SectionIn, begin_in, end_in}

-- the first row that passes, passes
first_passes : {A : Type 0} (f : A → Bool) (d : A) (xs : List A) → any f xs ≡ true → f (first f d xs) ≡ true
unfolding any
first_passes f d [] e = absurd (clash e refl)
first_passes f d (x ∷ xs) e =
    let ih = first_passes f d xs in
    ⊎_elim (λ p. ap f (first_in_law f d x xs p) ∙ p) (λ p. ap f (first_out_law f d x xs p) ∙ ih (⊎_elim (λ q. absurd (clash q p)) (λ q. q) (either_of (f x) (any f xs) e)))
    (bool_cases (f x))

-- what the clock asks of a task's row
record Timed (k : Task) : Type 0 where
  some_period : 0 < k.period
  ticking : Each Ticking k.locks

-- so is the row of every task of a valid plan
tasks_timed : (p : Plan) → Valid p → Each Timed (tasks_of p.sections)
unfolding tasks_of
tasks_timed p h =
    each_flat Timed (λ s. s.tasks) p.sections
    (each_map p.sections
    (λ s v. each_map s.tasks
    (λ k t. record {
      some_period = t.period_in.0;
      ticking = each_map k.locks (λ l x. record { some_m = x.m_in.0; some_ticks = x.ticks_in.0 }) t.locks_valid;
    }) v.tasks_valid) h.sections_valid)

module _ (p : Plan) (h : Valid p) where
  -- a VCPU of the plan has a period
  refill_some : (v : ℕ) → has_vcpu p.vcpus v ≡ true → 0 < (vcpu_at (system p) v).period
  unfolding has_vcpu vcpu_at
  refill_some v e = (first_each (λ r. eqb r.v v) VcpuValid no_vcpu p.vcpus (λ q. absurd (clash e q)) h.vcpus_valid).period_in.0

  -- a task of the plan has a row that is timed
  at_timed : (v n : ℕ) → named.has_task (system p) v n ≡ true → Timed (task_at (system p) v n)
  unfolding named.has_task task_at
  at_timed v n e = first_each (λ k. eqb k.v v && eqb k.n n) Timed no_task (tasks_of p.sections) (λ q. absurd (clash e q)) (tasks_timed p h)

  -- one that the plan lacks has an empty row
  no_row : (v n : ℕ) → named.has_task (system p) v n ≡ false → task_at (system p) v n ≡ no_task
  unfolding named.has_task task_at
  no_row v n e = first_none (λ k. eqb k.v v && eqb k.n n) no_task (tasks_of p.sections) e

  -- what a task's row locks is on its sheet
  row_lists : (v n m : ℕ) → named.has_task (system p) v n ≡ true → locks_it m (task_at (system p) v n) ≡ true → facts.lists (system p) v n m ≡ true
  unfolding named.has_task task_at facts.lists
  row_lists v n m e l =
      let f : Task → Bool = λ k. eqb k.v v && eqb k.n n in
      let ts = tasks_of p.sections in
      first_each f (λ k. (g : Task → Bool) → g k ≡ true → any g ts ≡ true) no_task ts (λ q. absurd (clash e q))
      (each_map ts (λ k i g t. has_any g ts i t) (members ts)) (λ k. f k && locks_it m k) (both (f (first f no_task ts)) (locks_it m (first f no_task ts)) (first_passes f no_task ts e) l)

  -- and no length
  row_length : (v n : ℕ) → named.has_task (system p) v n ≡ false → lengths (task_at (system p) v n) ≡ 0
  unfolding lengths sum
  row_length v n e = ap lengths (no_row v n e)

  -- a section of the row is one of the timing
  row_section : (v n : ℕ) {m a e : ℕ} → named.has_task (system p) v n ≡ true →
      SectionIn (task_at (system p) v n).first (task_at (system p) v n).locks m a e → SectionAt (timing_of (system p)) v n m a e
  unfolding timing_of lengths facts_of
  row_section v n {m} {a} {e} t s = record {
    some_mutex = λ z. let q = s.some_mutex in omega arith;
    starts = s.starts;
    stops = s.stops;
    forward = s.forward;
    not_beyond = s.not_beyond;
    no_start = s.no_start;
    no_stop = s.no_stop;
    listed = row_lists v n m t s.listed;
  }

  -- without a row nothing begins and nothing ends
  row_begins : (v n a : ℕ) → named.has_task (system p) v n ≡ false → begins_in (task_at (system p) v n).first (task_at (system p) v n).locks a ≡ 0
  unfolding begins_in
  row_begins v n a e = ap (λ (k : Task). begins_in k.first k.locks a) (no_row v n e)

  -- and nothing ends
  row_ends : (v n a : ℕ) → named.has_task (system p) v n ≡ false → ends_in (task_at (system p) v n).first (task_at (system p) v n).locks a ≡ 0
  unfolding ends_in
  row_ends v n a e = ap (λ (k : Task). ends_in k.first k.locks a) (no_row v n e)

  -- what the timing begins is a section of the row
  row_begun : (v n a : ℕ) → ((timing_of (system p)).begins v n a ≡ 0 → ⊥) → Begun (timing_of (system p)) v n ((timing_of (system p)).begins v n a) a
  unfolding timing_of
  row_begun v n a nz =
      ⊎_elim
      (λ t.
      let k = task_at (system p) v n in
      let r = begin_in k.first k.locks (at_timed v n t).ticking a _ refl (omega arith) in
      record { stop = r.0; section = row_section v n t r.1 })
      (λ t. absurd (nz (row_begins v n a t))) (bool_cases (named.has_task (system p) v n))

  -- and so is what it ends
  row_over : (v n e : ℕ) → ((timing_of (system p)).ends v n e ≡ 0 → ⊥) → Over (timing_of (system p)) v n ((timing_of (system p)).ends v n e) e
  unfolding timing_of
  row_over v n e nz =
      ⊎_elim
      (λ t.
      let k = task_at (system p) v n in
      let r = end_in k.first k.locks (at_timed v n t).ticking e _ refl (omega arith) in
      record { start = r.0; section = row_section v n t r.1 })
      (λ t. absurd (nz (row_ends v n e t))) (bool_cases (named.has_task (system p) v n))

-- THE THEOREM: the timing of a valid plan is paced
pub paced : (p : Plan) → Valid p → Paced (timing_of (system p))
unfolding timing_of facts_of
paced p h = record {
  fair = fair p h;
  some_refill = refill_some p h;
  some_period = λ v n t. (at_timed p h v n t).some_period;
  no_length = row_length p h;
  begun = row_begun p h;
  over = row_over p h;
}
