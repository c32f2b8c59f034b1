-- What holds of the clock's lists between the parts of a tick (specs/Going), of a plan as a board sees it.
use Rattle.std.specs.Prelude.{List, ℕ, Bool}
use Rattle.board_rules.specs.declared.PlanView.{PlanView}
use Rattle.clock_rules.specs.Clock.{Timing}
use Rattle.clock_going.specs.Going as going

abbrev pub timing : PlanView → List ℕ → Timing
timing p x = going.timing_by p.policy p.overrun p.view.now x

abbrev pub GoingOf : PlanView → List ℕ → List ℕ → List ℕ → List Bool → List ℕ → List ℕ → List ℕ → Type 0
GoingOf p x ls os ss hs ws k = going.Going p.policy p.overrun p.view.now x ls os ss hs ws k
