-- Demand 3 from the bytes: of a byte string that is accepted, each row of the plan that it says is reported by the calls on what the reading left.
use Rattle.std.specs.Prelude.{ℕ, ◌≡◌, refl, Bool, true, Ok, Err}
use Rattle.std.proofs.Math.Path.{ap}
use Rattle.std.proofs.Common.{sym, subst, ◌∙◌}
use Rattle.std.proofs.Math.Bool.{false}
use mathlib.Core.List.{List, Memᴰ}
use Rattle.laws.specs.BoolLaws.{both, both_left, both_right, is_false}
use Rattle.laws.specs.Sums.{Has}
use Rattle.plan.specs.declared.Refusal.TheVariants.{Foreign}
use Rattle.plan.specs.declared.Lock.{Lock}
use Rattle.plan.specs.Plan.{Vcpu, Task, Plan, tasks_of}
use Rattle.plan.specs.Declares.{GlobalMutex}
use Rattle.plan.specs.Valid.{Valid}
use Rattle.plan.specs.Lookup.{has_vcpu}
use Rattle.plan.proofs.LookupLaws.{declared_exactly}
use Rattle.plan.specs.Reading.{Accepts, reading}
use Rattle.plan_tables.specs.declared.PlanRecord.{PlanRecord}
use Rattle.plan_tables.specs.Layout.{Tables}
use Rattle.plan_tables.specs.Given.{Gives, if_given}
use Rattle.plan_tables.proofs.GivenLaws.{plan_given, given_exactly}
use Rattle.read_answer.specs.Into.{plan_answer, tables_after}
use Rattle.read_answer.specs.Claims.{accepted_gives}
use Rattle.records.specs.declared.Task as sheet
use Rattle.records.specs.Sheet.{tables_of}
use Rattle.records_read.specs.After.{sheets_after}
use Rattle.records_read.proofs.ReadLaws.{sheets_left}
use Rattle.figures.specs.System.{system}
use Rattle.figures.specs.Figures.{response}
use Rattle.figures.specs.Named.{has_task, task_at, lock_at, has_section, Placed}
use Rattle.figures.proofs.NamedLaws.{vcpu_named, task_named, lock_named, has_task_exactly, section_exactly}
use Rattle.figures.specs.Answers.{vcpu_answer, wait_answer, task_answer}
use Rattle.answers_tasks.specs.Asked.{has_place, vcpu_row_of, wait_row_of, task_row_of, response_row_of, vcpu_asked, wait_asked, task_asked, response_asked}
use Rattle.claims.specs.Reported.{RowsReported}
use Rattle.claims.proofs.Reports.{vcpu_answer_reports, wait_answer_reports, task_answer_reports}

-- what a test chooses
module _ {A : Type 0} (x y : A) where
  yes : {b : Bool} → b ≡ true → elim b [ true ↦ x | false ↦ y ] ≡ x
  yes e = rw e

  no_so : {b : Bool} → b ≡ false → elim b [ true ↦ x | false ↦ y ] ≡ y
  no_so e = rw e

module _ {p : Plan} (h : Valid p) where
  -- OF THE PLAN, by names
  vcpu_there : (x : Vcpu) → Memᴰ x p.vcpus → vcpu_row_of (system p) x.v ≡ Ok (vcpu_answer (system p) x)
  unfolding vcpu_row_of
  vcpu_there x m = yes _ _ ((declared_exactly p.vcpus x.v).1 (x, m, refl)) ∙ ap (λ y. Ok (vcpu_answer (system p) y)) (vcpu_named h x m)

  task_there : (k : Task) → Memᴰ k (tasks_of p.sections) → task_row_of (system p) k.v k.n ≡ Ok (task_answer (system p) k)
  unfolding task_row_of
  task_there k m = yes _ _ ((has_task_exactly (system p) k.v k.n).1 (k, m, (refl, refl))) ∙ ap (λ y. Ok (task_answer (system p) y)) (task_named h k m)

  module _ (k : Task) (m : Memᴰ k (tasks_of p.sections)) (i : ℕ) (l : Lock) (q : Placed k.locks i l) (g : GlobalMutex p.mutexes l.m) where
    place_there : has_place (system p) k.v k.n i ≡ true
    place_there =
        both _ _ ((has_task_exactly (system p) k.v k.n).1 (k, m, (refl, refl)))
        (ap (λ (j : Task). has_section (system p) j i) (task_named h k m) ∙ (section_exactly (system p) k i).1 (l, q, g))

    wait_there : wait_row_of (system p) k.v k.n i ≡ Ok (wait_answer (system p) k l)
    unfolding wait_row_of
    wait_there =
        yes _ _ place_there
        ∙ ap (λ (j : Task). Ok (wait_answer (system p) j (lock_at j i))) (task_named h k m)
        ∙ ap (λ (x : Lock). Ok (wait_answer (system p) k x)) (lock_named k i l q)

    response_there : response_row_of (system p) k.v k.n i ≡ Ok (response (system p) k l)
    unfolding response_row_of
    response_there =
        yes _ _ place_there
        ∙ ap (λ (j : Task). Ok (response (system p) j (lock_at j i))) (task_named h k m)
        ∙ ap (λ (x : Lock). Ok (response (system p) k x)) (lock_named k i l q)

  -- a place that is there is a global section of a task of the plan
  place_has :
      (v n i : ℕ) → has_place (system p) v n i ≡ true →
      Has (λ k. (k.v ≡ v) × (k.n ≡ n) × ((l : Lock) × Placed k.locks i l × GlobalMutex p.mutexes l.m)) (tasks_of p.sections)
  place_has v n i e =
      let x = (has_task_exactly (system p) v n).0 (both_left (has_task (system p) v n) _ e) in
      let k : Task = x.0 in
      let same : task_at (system p) v n ≡ k = ap (λ (w : ℕ). task_at (system p) w n) (sym x.2.0) ∙ ap (task_at (system p) k.v) (sym x.2.1) ∙ task_named h k x.1 in
      (k, x.1, (x.2.0, x.2.1, (section_exactly (system p) k i).0 (ap (λ (j : Task). has_section (system p) j i) (sym same) ∙ both_right (has_task (system p) v n) _ e)))

-- OF TABLES that a valid plan gives
module _ {p : Plan} {r : PlanRecord} {u : Tables} (h : Valid p) (q : Gives p r u) where
  asked_of : {A : Type 0} (f : Plan → A) (other : A) → if_given r u f other ≡ f p
  asked_of f other = yes _ _ ((given_exactly r u).1 (p, h, q)) ∙ ap f (plan_given h q)

  pub given_reported : RowsReported p r u
  unfolding vcpu_asked wait_asked task_asked response_asked vcpu_row_of wait_row_of task_row_of response_row_of
  given_reported = record {
    vcpus = λ x m. (vcpu_answer (system p) x, asked_of (λ y. vcpu_row_of (system y) x.v) (Err Foreign) ∙ vcpu_there h x m, vcpu_answer_reports (system p) x);
    waits =
        λ k m i l w g.
        (wait_answer (system p) k l, asked_of (λ y. wait_row_of (system y) k.v k.n i) (Err Foreign) ∙ wait_there h k m i l w g, wait_answer_reports (system p) k l);
    tasks = λ k m. (task_answer (system p) k, asked_of (λ y. task_row_of (system y) k.v k.n) (Err Foreign) ∙ task_there h k m, task_answer_reports (system p) k);
    responses = λ k m i l w g. asked_of (λ y. response_row_of (system y) k.v k.n i) (Err Foreign) ∙ response_there h k m i l w g;
    no_vcpu_law =
        λ v n. asked_of (λ y. vcpu_row_of (system y) v) (Err Foreign) ∙ no_so _ _ (is_false (has_vcpu p.vcpus v) (λ e. n ((declared_exactly p.vcpus v).0 e)));
    no_task_law =
        λ v n e. asked_of (λ y. task_row_of (system y) v n) (Err Foreign) ∙ no_so _ _ (is_false (has_task (system p) v n) (λ b. e ((has_task_exactly (system p) v n).0 b)));
    no_place =
        λ v n i e.
        let none : has_place (system p) v n i ≡ false = is_false (has_place (system p) v n i) (λ b. e (place_has h v n i b)) in (
          asked_of (λ y. wait_row_of (system y) v n i) (Err Foreign) ∙ no_so _ _ none,
          asked_of (λ y. response_row_of (system y) v n i) (Err Foreign) ∙ no_so _ _ none,
        );
  }

-- FROM THE BYTES: into rows of numbers, and into records
pub accepted_reported :
    (s : List ℕ) (t : Tables) (r : PlanRecord) → plan_answer s t ≡ Ok r → (p : Plan) × (reading s ≡ Accepts p) × RowsReported p r (tables_after s t)
accepted_reported s t r e = let w = accepted_gives s t r e in (w.0, w.1, given_reported w.2 w.3)

pub sheet_reported :
    (s vt mt ot : List ℕ) (ks : List sheet.Task) (r : PlanRecord) → plan_answer s (tables_of vt mt ot ks) ≡ Ok r →
    let u : Tables = tables_after s (tables_of vt mt ot ks) in
    (p : Plan) × (reading s ≡ Accepts p) × RowsReported p r (tables_of u.vcpus u.mutexes u.opens (sheets_after s vt mt ot ks))
sheet_reported s vt mt ot ks r e =
    let w = accepted_reported s (tables_of vt mt ot ks) r e in
    (w.0, w.1, subst (RowsReported w.0 r) (sym (sheets_left s vt mt ot ks)) w.2)
