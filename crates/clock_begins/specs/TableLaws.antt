-- What is written from tables that pass the test for 9 says the timing of their plan.
use Rattle.std.specs.Prelude.{ℕ, ◌≡◌, true, List, take}
use Rattle.std.proofs.Common.{sym, ap, ap₂, subst, ◌∙◌}
use Rattle.plan.specs.Plan.{Plan}
use Rattle.plan.specs.Valid.{Valid}
use Rattle.plan.specs.declared.Policy.{Policy}
use Rattle.plan.specs.declared.OverrunChoice.{OverrunChoice}
use Rattle.plan_tables.specs.declared.PlanRecord.{PlanRecord}
use Rattle.plan_tables.specs.Layout.{Tables}
use Rattle.plan_tables.specs.Given.{Gives, plan_in, is_given}
use Rattle.plan_tables.proofs.GivenLaws.{given_plan}
use Rattle.figures.specs.System.{System, system}
use Rattle.figures.specs.Tabled.{system_in}
use Rattle.board_rules.specs.Facts.{facts_of}
use Rattle.board_rules.specs.View.{view_length, facts_in}
use Rattle.board_keeps.specs.Fair.{Fair}
use Rattle.board_viewcells.specs.ViewOf.{view_of}
use Rattle.board_viewcells.proofs.FillLaws.{filled_facts}
use Rattle.board_views.specs.TableLaws.{system_given, view_facts}
use Rattle.log_answers.specs.Small.{Small, small}
use Rattle.clock_rules.specs.Clock.{Timing, timing_of}
use Rattle.clock_times.specs.Times.{timing_in, Paired, Ordered}
use Rattle.clock_cells.specs.TimesOf.{times_of}
use Rattle.clock_cells.specs.TimesLaws.{timing_in_law, facts_paired, times_ordered}
use Rattle.clock_paced.specs.Paced.{SectionAt, Paced}
use Rattle.clock_paced.specs.PacedLaws.{paced}
use Rattle.clock_going.specs.Going.{timing_by}

-- THE POLICY says nothing of the pace
module _ (p q : Policy) (o : OverrunChoice) (view x : List ℕ) where
  fair_any : Fair (timing_by p o view x).facts → Fair (timing_by q o view x).facts
  unfolding timing_in facts_in
  fair_any f = record {
    vcpu_in = f.vcpu_in;
    vcpu_budget = f.vcpu_budget;
    no_budget = f.no_budget;
    no_overrun = f.no_overrun;
    task_vcpu = f.task_vcpu;
    task_in_law = f.task_in_law;
    mutex_in = f.mutex_in;
    sheet_task = f.sheet_task;
    sheet_mutex = f.sheet_mutex;
    sheet_local = f.sheet_local;
    sheet_ceiling = f.sheet_ceiling;
    local_only = f.local_only;
    local_one = f.local_one;
  }

  section_any : {v n m a e : ℕ} → SectionAt (timing_by p o view x) v n m a e → SectionAt (timing_by q o view x) v n m a e
  unfolding timing_in facts_in
  section_any s = record {
    some_mutex = s.some_mutex;
    starts = s.starts;
    stops = s.stops;
    forward = s.forward;
    not_beyond = s.not_beyond;
    no_start = s.no_start;
    no_stop = s.no_stop;
    listed = s.listed;
  }

  pub paced_any : Paced (timing_by p o view x) → Paced (timing_by q o view x)
  unfolding timing_in facts_in
  paced_any h = record {
    fair = fair_any h.fair;
    some_refill = h.some_refill;
    some_period = h.some_period;
    no_length = h.no_length;
    begun = λ v n a z. let b = h.begun v n a z in record { stop = b.stop; section = section_any b.section };
    over = λ v n e z. let b = h.over v n e z in record { start = b.start; section = section_any b.section };
  }

-- written from tables t with the record r, which pass the test for 9
module _ (r : PlanRecord) (t : Tables) (g : is_given r t ≡ true) where
  abbrev p : Plan
  p = plan_in r t

  valid : Valid p
  valid = (given_plan r t g).0

  same_system : system_in r t.vcpus t.mutexes t.tasks ≡ system p
  same_system = system_given valid (given_plan r t g).1

  -- times
  module _ (x : List ℕ) (timed : x ≡ times_of (system_in r t.vcpus t.mutexes t.tasks)) where
    times_are : x ≡ times_of (system p)
    times_are = timed ∙ ap times_of same_system

    pub given_ordered : Ordered x
    given_ordered = subst Ordered (sym times_are) (times_ordered p valid)

    -- and a view
    module _ (view : List ℕ) (seen : take view_length view ≡ view_of (system_in r t.vcpus t.mutexes t.tasks)) where
      the_facts : facts_in r.policy r.overrun view ≡ facts_of (system p)
      the_facts = view_facts r t view g seen

      -- the timing is the plan's
      pub timing_is : timing_by r.policy r.overrun view x ≡ timing_of (system p)
      timing_is = ap₂ timing_in the_facts times_are ∙ timing_in_law p valid

      -- the view goes with the times
      pub given_paired : Paired view x
      given_paired = subst (Paired view) (sym times_are) (facts_paired p valid view (filled_facts p view valid (seen ∙ ap view_of same_system)))

      pub given_paced : (q : Policy) → Paced (timing_by q r.overrun view x)
      given_paced q = paced_any r.policy q r.overrun view x (subst Paced (sym timing_is) (paced p valid))

      -- no figure is too large to be told
      pub given_small : Small (facts_in r.policy r.overrun view)
      given_small = subst Small (sym the_facts) (small p valid)
