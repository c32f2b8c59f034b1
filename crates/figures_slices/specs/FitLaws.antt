-- Tables that pass the test for 9 are fit for the figures' code, and the system in them is the plan's.
use Rattle.std.specs.Prelude.{ℕ, ◌<◌, ◌≡◌, Bool, true, false}
use Rattle.std.proofs.Common.{ap, sym, ◌∙◌}
use Rattle.laws.specs.Rows.{rows}
use Rattle.plan.specs.Lookup.{has_vcpu}
use Rattle.plan.proofs.LookupLaws.{declared_exactly, of_declared}
use Rattle.plan.specs.Valid.{Valid}
use Rattle.plan_tables.specs.declared.PlanRecord.{PlanRecord}
use Rattle.plan_tables.specs.Layout.{Tables, vcpu_row, task_row}
use Rattle.plan_tables.specs.Given.{plan_in, is_given, if_given}
use Rattle.plan_tables.proofs.GivenLaws.{given_plan, row_valid, tasks_in, if_given_law, if_foreign}
use Rattle.plan_tables.proofs.Sound.{given_sound}
use Rattle.figures.specs.System.{System, system}
use Rattle.figures.specs.Tabled.{system_in, Fit}

module _ (r : PlanRecord) (t : Tables) where
  -- every task's VCPU is there
  task_hosted : Valid (plan_in r t) → (i : ℕ) → i < r.tasks → has_vcpu (rows r.vcpus (vcpu_row t.vcpus)) (task_row t.tasks i).v ≡ true
  unfolding plan_in
  task_hosted h i l =
      row_valid {P = λ k. has_vcpu (rows r.vcpus (vcpu_row t.vcpus)) k.v ≡ true} r t h (λ g k w. (declared_exactly _ k.v).1 (of_declared _ g k.v w.own_vcpu_law)) i l

  pub given_fit : is_given r t ≡ true → Fit r t.vcpus t.mutexes t.tasks
  unfolding task_row
  given_fit g =
      let s = given_sound r t g in
      record {
        vcpus_few = s.few_vcpus;
        mutexes_few = s.few_mutexes;
        tasks_few = s.few_tasks;
        vcpus_room = s.room.vcpus;
        mutexes_room = s.room.mutexes;
        tasks_room = s.room.tasks;
        vcpu_small = s.small.vcpus;
        task_small = s.small.tasks;
        vcpu_valid = s.vcpu_valid;
        task_period = λ i l. (s.task_sound i l).period_in.0;
        task_locks = λ i l. (s.task_sound i l).few_locks;
        task_vcpu = λ i l. task_hosted (given_plan r t g).0 i l;
      }

  -- the system in the tables is that of the plan in them
  pub system_in_law : system (plan_in r t) ≡ system_in r t.vcpus t.mutexes t.tasks
  unfolding plan_in system_in
  system_in_law = rw (tasks_in r t)

-- 9 FIRST, where b is what the test for 9 said: what is worked out of the system in the tables is what is asked of the plan in them
module _ {A : Type 0} (r : PlanRecord) (t : Tables) (f : System → A) (no : A) {b : Bool} (e : b ≡ is_given r t) where
  pub given_asked : {a : A} → b ≡ true → a ≡ f (system_in r t.vcpus t.mutexes t.tasks) → a ≡ if_given r t (λ p. f (system p)) no
  given_asked h k = k ∙ ap f (sym (system_in_law r t)) ∙ sym (if_given_law r t (λ p. f (system p)) no (sym e ∙ h))

  pub foreign_asked : b ≡ false → no ≡ if_given r t (λ p. f (system p)) no
  foreign_asked h = sym (if_foreign r t (λ p. f (system p)) no (sym e ∙ h))
