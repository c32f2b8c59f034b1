-- Code over the tables that a reading left answers as the run of the plan in bytes ends.
use Rattle.std.specs.Prelude.{ℕ, ◌≤◌, ◌<◌, ◌≡◌, List, Bool, true, false, ltb, length, Result, Ok, Err}
use Rattle.std.proofs.Math.Path.{refl, ap}
use Rattle.std.proofs.Common.{sym, ◌∙◌, lt-ltb, le-ltb}
use Rattle.std.specs.Prelude.{if◌then◌else◌}
use Rattle.plan.specs.Limits.{max_input}
use Rattle.plan.specs.declared.Complaint.{Complaint}
use Rattle.plan.specs.declared.Refusal.TheVariants.{Room, Foreign}
use Rattle.plan.specs.Reading.{reading}
use Rattle.plan_tables.specs.declared.PlanRecord.{PlanRecord}
use Rattle.plan_tables.specs.Layout.{Tables, lent}
use Rattle.plan_tables.specs.Given.{plan_in, is_given}
use Rattle.read_fill.specs.Fill.{vcpu_put, mutex_put, open_put, task_put}
use Rattle.read_answer.specs.Into.{plan_answer}
use Rattle.read_answer.specs.Judged.{lines_left}
use Rattle.read_answer.specs.Ample.{Ample}
use Rattle.records_read.specs.Lies.{refused_reads, left_lies}
use Rattle.clock_rules.specs.declared.RunAnswer.{RunAnswer}
use Rattle.clock_rules.specs.declared.RunAnswer.TheVariants.{NoRun}
use Rattle.clock_rules.specs.Clock.{run_for}
use Rattle.desk_runs.specs.Ran.{run_plan, run_read, run_bytes, run_into, run_or}

-- as code finds out
module _ {a : Result PlanRecord Complaint} (t : Tables) (h : ℕ) where
  pub ran_accepted : {r : PlanRecord} → a ≡ Ok r → {b : RunAnswer} → b ≡ run_for r t h → b ≡ run_or a t h
  unfolding run_or
  ran_accepted e q = q ∙ ap (λ z. run_or z t h) (sym e)

  pub ran_refused : {c : Complaint} → a ≡ Err c → NoRun c.number ≡ run_or a t h
  unfolding run_or
  ran_refused e = ap (λ z. run_or z t h) (sym e)

-- tables that pass the test for 9 run as their plan
given_runs : (r : PlanRecord) (t : Tables) (h : ℕ) → is_given r t ≡ true → run_for r t h ≡ run_plan (plan_in r t) h
unfolding run_for
given_runs r t h g = ap (λ (b : Bool). elim b [ true ↦ run_plan (plan_in r t) h | false ↦ NoRun Foreign ]) g

-- of a reading into tables with room for every plan: what it answers, and the rows that its lines leave
module _ (s : List ℕ) {vt mt ot ts : List ℕ} (l : Ample (lent vt mt ot ts)) {a : Result PlanRecord Complaint} {vu mu ou tu : List ℕ}
    (e : a ≡ plan_answer s (lent vt mt ot ts)) (v : vu ≡ lines_left vcpu_put s vt) (m : mu ≡ lines_left mutex_put s mt)
    (o : ou ≡ lines_left open_put s ot) (k : tu ≡ lines_left task_put s ts) (h : ℕ) where
  abbrev left : Tables
  left = lent vu mu ou tu

  accepted_ran : (r : PlanRecord) → a ≡ Ok r → run_for r left h ≡ run_read (reading s) h
  accepted_ran r z =
      let w = left_lies s l e v m o k r z in
      given_runs r left h w.1.given ∙ ap (λ p. run_plan p h) w.1.is ∙ ap (λ y. run_read y h) (sym w.1.reads)

  left_ran : (z : Result PlanRecord Complaint) → a ≡ z → run_or z left h ≡ run_read (reading s) h
  unfolding run_or
  left_ran (Ok r) z = accepted_ran r z
  left_ran (Err x) z = ap (λ y. run_read y h) (sym (refused_reads s (lent vt mt ot ts) l x (sym e ∙ z)))

  -- where the plan is not too large
  pub ran_read : {y : Bool} → y ≡ ltb max_input (length s) → y ≡ false → {b : RunAnswer} → b ≡ run_or a left h → b ≡ run_bytes s h
  unfolding run_bytes
  ran_read f n q = q ∙ left_ran a refl ∙ ap (λ (b : Bool). if b then NoRun Room else run_read (reading s) h) (sym n ∙ f)

-- where it is
pub ran_large : (s : List ℕ) (h : ℕ) {y : Bool} → y ≡ ltb max_input (length s) → y ≡ true → NoRun Room ≡ run_bytes s h
unfolding run_bytes
ran_large s h f n = ap (λ (b : Bool). if b then NoRun Room else run_read (reading s) h) (sym n ∙ f)

-- by the places
module _ (s : List ℕ) (h : ℕ) (ys : List ℕ) where
  pub into_few : length ys < 3 → NoRun Room ≡ run_into s h ys
  unfolding run_into
  into_few k = ap (λ (b : Bool). if b then NoRun Room else run_bytes s h) (sym (lt-ltb (length ys) 3 k))

  pub into_ran : 3 ≤ length ys → run_bytes s h ≡ run_into s h ys
  unfolding run_into
  into_ran k = ap (λ (b : Bool). if b then NoRun Room else run_bytes s h) (sym (le-ltb (length ys) 3 k))
