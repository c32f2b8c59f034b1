-- The answers to events by a view of the plan in tables that pass the test for 9 are the plan's.
use Rattle.std.specs.Prelude.{ℕ, ◌*◌, ◌≤◌, ◌≡◌, List, true, length, take, Result}
use Rattle.std.proofs.Math.Path.{ap}
use Rattle.std.proofs.Common.{◌∙◌}
use Rattle.plan.specs.declared.Policy.{Policy}
use Rattle.plan.specs.declared.OverrunChoice.{OverrunChoice}
use Rattle.plan.specs.declared.Refusal.{Refusal}
use Rattle.plan_tables.specs.declared.PlanRecord.{PlanRecord}
use Rattle.plan_tables.specs.Layout.{Tables}
use Rattle.plan_tables.specs.Given.{plan_in, is_given}
use Rattle.plan_tables.proofs.GivenLaws.{given_plan}
use Rattle.figures.specs.System.{system}
use Rattle.figures.specs.Tabled.{system_in}
use Rattle.board_rules.specs.Facts.{facts_of}
use Rattle.board_rules.specs.View.{view_length, facts_in}
use Rattle.board_rules.specs.declared.Board.{Board}
use Rattle.board_rules.specs.Board.{fresh}
use Rattle.board_events.specs.Events.{replies_to}
use Rattle.board_viewcells.specs.ViewOf.{view_of}
use Rattle.board_views.specs.TableLaws.{view_facts}
use Rattle.listing_lines.specs.Into.{text_answer, text_after}
use Rattle.desk_rooms.specs.Boarded.{answers_for, plan_bound}

module _ (r : PlanRecord) (t : Tables) (view : List ℕ) (g : is_given r t ≡ true)
    (e : take view_length view ≡ view_of (system_in r t.vcpus t.mutexes t.tasks)) where
  -- the answers from a board that is fresh by the view are the plan's
  pub view_answers : (b : Board) (es : List ℕ) → ((p : Policy) (o : OverrunChoice) → b ≡ fresh (facts_in p o view)) → replies_to (facts_in r.policy r.overrun view) b es ≡ answers_for (facts_of (system (plan_in r t))) es
  unfolding answers_for
  view_answers b es h =
      ap (λ x. replies_to (facts_in r.policy r.overrun view) x es) (h r.policy r.overrun)
      ∙ ap (λ F. replies_to F (fresh F) es) (view_facts r t view g e)

  module _ (b : Board) (es : List ℕ) (h : (p : Policy) (o : OverrunChoice) → b ≡ fresh (facts_in p o view)) where
    -- they are short
    pub view_short : length (replies_to (facts_in r.policy r.overrun view) b es) ≤ 10 * length es
    view_short = rw (view_answers b es h) (plan_bound (plan_in r t) es (given_plan r t g).0)

    -- written into a buffer, they are the plan's answers there
    pub view_text : {a : Result ℕ Refusal} (o : List ℕ) {p : List ℕ} →
        (a ≡ text_answer (replies_to (facts_in r.policy r.overrun view) b es) o) × (p ≡ text_after (replies_to (facts_in r.policy r.overrun view) b es) o) →
        (a ≡ text_answer (answers_for (facts_of (system (plan_in r t))) es) o) × (p ≡ text_after (answers_for (facts_of (system (plan_in r t))) es) o)
    view_text {a} o {p} w = (w.0 ∙ ap (λ x. text_answer x o) (view_answers b es h), w.1 ∙ ap (λ x. text_after x o) (view_answers b es h))
