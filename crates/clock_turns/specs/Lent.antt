-- What the functions here say of what they do (specs/Turned), of a plan as a board sees it.
use Rattle.std.specs.Prelude.{List, ℕ, Bool}
use Rattle.board_rules.specs.declared.Event.{Event}
use Rattle.board_rules.specs.declared.PlanView.{PlanView}
use Rattle.clock_rules.specs.Clock.{Run}
use Rattle.clock_turns.specs.Turned as turned

abbrev pub TurnedOf : PlanView → List ℕ → Bool → ℕ → Run → Run → List Event → List ℕ → List ℕ → List Bool → List ℕ → List ℕ → List ℕ → List ℕ → ℕ → List ℕ → ℕ → Type 0
TurnedOf p x on i r r' es ls os ss hs ws k o at o' w = turned.Turned p.policy p.overrun p.view.now x on i r r' es ls os ss hs ws k o at o' w

abbrev pub DidOf : PlanView → List ℕ → Bool → ℕ → Run → List Event → List ℕ → List ℕ → List ℕ → List Bool → List ℕ → List ℕ → List ℕ → List ℕ → ℕ → List ℕ → ℕ → Type 0
DidOf p x on i r es d ls os ss hs ws k o at o' w = turned.Did p.policy p.overrun p.view.now x on i r es d ls os ss hs ws k o at o' w
