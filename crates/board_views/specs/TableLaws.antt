-- The tables that a valid plan gives hold its system, so the view written from them says its facts.
use Rattle.std.specs.Prelude.{◌≡◌, true, List, ℕ, take}
use Rattle.std.proofs.Math.Path.{ap, ap₂}
use Rattle.std.proofs.Common.{◌∙◌}
use Rattle.plan.specs.Plan.{Plan, tasks_of}
use Rattle.plan.specs.Valid.{Valid}
use Rattle.plan_tables.specs.declared.PlanRecord.{PlanRecord}
use Rattle.plan_tables.specs.Layout.{Tables, vcpu_row, mutex_row, task_row, record_of}
use Rattle.plan_tables.proofs.LayoutLaws.{vcpus_back, mutexes_back, tasks_back}
use Rattle.plan_tables.specs.FlatLaws.{held_back}
use Rattle.plan_tables.specs.Given.{Gives, plan_in, is_given}
use Rattle.plan_tables.proofs.GivenLaws.{Kept, gives_kept, valid_few, valid_named, given_plan}
use Rattle.figures.specs.System.{system}
use Rattle.figures.specs.Tabled.{system_in}
use Rattle.board_rules.specs.Facts.{facts_of}
use Rattle.board_rules.specs.View.{view_length, facts_in}
use Rattle.board_viewcells.specs.ViewOf.{view_of}
use Rattle.board_viewcells.proofs.FillLaws.{filled_facts}

pub system_given : {p : Plan} {r : PlanRecord} {t : Tables} → Valid p → Gives p r t → system_in r t.vcpus t.mutexes t.tasks ≡ system p
unfolding system_in record_of
system_given {p} {r} {t} h g =
    let e : r ≡ record_of p = g.recorded in
    let k : Kept p r t = gives_kept g in
    λ i.
    record {
      policy = (e i).policy;
      overrun = (e i).overrun;
      vcpus = held_back k.vcpus vcpu_row (vcpus_back p.vcpus t.vcpus) i;
      mutexes = held_back k.mutexes mutex_row (mutexes_back p.mutexes t.mutexes (valid_named h)) i;
      tasks = held_back k.tasks task_row (tasks_back (tasks_of p.sections) t.tasks (valid_few h)) i;
    }

module _ {p : Plan} {r : PlanRecord} {t : Tables} (view : List ℕ) (h : Valid p) (g : Gives p r t)
    (e : take view_length view ≡ view_of (system_in r t.vcpus t.mutexes t.tasks)) where
  -- what `fill_view` writes says the plan's facts
  pub given_facts : facts_in r.policy r.overrun view ≡ facts_of (system p)
  unfolding record_of
  given_facts =
      ap₂ (λ x y. facts_in x y view) (ap (λ (x : PlanRecord). x.policy) g.recorded) (ap (λ (x : PlanRecord). x.overrun) g.recorded)
      ∙ filled_facts p view h (e ∙ ap view_of (system_given h g))

-- the facts in the view that is written are those of the plan in tables that pass the test for 9
module _ (r : PlanRecord) (t : Tables) (view : List ℕ) (g : is_given r t ≡ true)
    (e : take view_length view ≡ view_of (system_in r t.vcpus t.mutexes t.tasks)) where
  pub view_facts : facts_in r.policy r.overrun view ≡ facts_of (system (plan_in r t))
  view_facts = let w = given_plan r t g in given_facts view w.0 w.1 e
