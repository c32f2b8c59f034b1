-- The lists of a run before tick 0, from tables that pass the test for 9; and the run's answer.
use Rattle.std.specs.Prelude.{ℕ, ◌≤◌, ◌≡◌, List, Bool, true, false, leb, take}
use Rattle.std.proofs.Common.{sym, ap₂, subst, ◌∙◌, leb-true}
use Rattle.std.proofs.Math.Path.{ap}
use Rattle.std.specs.Prelude.{if◌then◌else◌}
use Rattle.laws.specs.BoolLaws.{both_right}
use Rattle.plan.specs.declared.Refusal.TheVariants.{Range, Foreign}
use Rattle.plan_tables.specs.declared.PlanRecord.{PlanRecord}
use Rattle.plan_tables.specs.Layout.{Tables}
use Rattle.plan_tables.specs.Given.{plan_in, is_given}
use Rattle.figures.specs.System.{system}
use Rattle.figures.specs.Tabled.{system_in}
use Rattle.board_rules.specs.View.{view_length, facts_in}
use Rattle.board_viewcells.specs.ViewOf.{view_of}
use Rattle.log_answers.specs.Small.{Small}
use Rattle.clock_rules.specs.declared.RunAnswer.{RunAnswer}
use Rattle.clock_rules.specs.declared.RunAnswer.TheVariants.{NoRun}
use Rattle.clock_rules.specs.Clock.{Timing, Run, timing_of, at_first, run_from, run_of, max_horizon, is_horizon, run_for}
use Rattle.clock_marks.specs.Marks.{run_in}
use Rattle.clock_cells.specs.TimesOf.{times_of}
use Rattle.clock_going.specs.Going.{timing_by, Going}
use Rattle.clock_starts.specs.Starts.{Started}
use Rattle.clock_begins.specs.TableLaws.{timing_is, given_small}

-- the lists are those of the plan in the tables t, before tick 0
pub record Begun (r : PlanRecord) (t : Tables) (view x ls os : List ℕ) (ss : List Bool) (hs ws k y : List ℕ) : Type 0 where
  pub timing : timing_by r.policy r.overrun view x ≡ timing_of (system (plan_in r t))
  pub started : Started r.overrun view x ls os ss hs ws k y
  pub small : Small (facts_in r.policy r.overrun view)

pub begins : (r : PlanRecord) (t : Tables) (g : is_given r t ≡ true) (view x : List ℕ) →
    take view_length view ≡ view_of (system_in r t.vcpus t.mutexes t.tasks) → x ≡ times_of (system_in r t.vcpus t.mutexes t.tasks) →
    {ls os : List ℕ} {ss : List Bool} {hs ws k y : List ℕ} → Started r.overrun view x ls os ss hs ws k y → Begun r t view x ls os ss hs ws k y
begins r t g view x e q s = record { timing = timing_is r t g x q view e; started = s; small = given_small r t g x q view e }

module _ {r : PlanRecord} {t : Tables} {view x ls os : List ℕ} {ss : List Bool} {hs ws k y : List ℕ} (b : Begun r t view x ls os ss hs ws k y) where
  -- what holds between the parts of a tick
  pub begun_going : Going r.policy r.overrun view x ls os ss hs ws k
  begun_going = b.started.going r.policy

  first_is : run_in ls os ss hs ws k ≡ at_first (timing_by r.policy r.overrun view x)
  first_is = ap₂ (λ z d. record { board = z; done = d }) (b.started.board_first r.policy) (b.started.done_first r.policy)

  -- the run from there is the plan's
  pub begun_run : (h : ℕ) {a : RunAnswer} → a ≡ run_from (timing_by r.policy r.overrun view x) h 0 (run_in ls os ss hs ws k) → a ≡ run_of (timing_of (system (plan_in r t))) h
  begun_run h e = e ∙ ap (run_from (timing_by r.policy r.overrun view x) h 0) first_is ∙ ap (λ T. run_from T h 0 (at_first T)) b.timing

-- a horizon is not beyond the largest
pub horizon_to : (h : ℕ) {y : Bool} → y ≡ is_horizon h → y ≡ true → h ≤ max_horizon
horizon_to h f z = leb-true h max_horizon (both_right (leb 1 h) (leb h max_horizon) (sym f ∙ z))

-- the answer over tables, as code finds out: 9, then 3
module _ (r : PlanRecord) (t : Tables) (h : ℕ) {x : Bool} (e : x ≡ is_given r t) where
  -- of tables that pass, by the test of the horizon
  abbrev within : Bool → RunAnswer
  within y = if y then run_of (timing_of (system (plan_in r t))) h else NoRun Range

  -- by the test for 9
  abbrev given : Bool → RunAnswer
  given b = elim b [ true ↦ within (is_horizon h) | false ↦ NoRun Foreign ]

  is_given_law : (b : Bool) → x ≡ b → given b ≡ run_for r t h
  unfolding run_for
  is_given_law b z = ap given (sym z ∙ e)

  pub run_foreign : x ≡ false → NoRun Foreign ≡ run_for r t h
  run_foreign z = is_given_law false z

  module _ (g : x ≡ true) {y : Bool} (f : y ≡ is_horizon h) where
    pub run_range : y ≡ false → NoRun Range ≡ run_for r t h
    run_range z = ap within (sym z ∙ f) ∙ is_given_law true g

    pub run_told : y ≡ true → {a : RunAnswer} → a ≡ run_of (timing_of (system (plan_in r t))) h → a ≡ run_for r t h
    run_told z q = q ∙ ap within (sym z ∙ f) ∙ is_given_law true g
