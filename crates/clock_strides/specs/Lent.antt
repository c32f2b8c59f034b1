-- The states that the cores' turns lead to (specs/Strides), of a plan as a board sees it.
use Rattle.std.specs.Prelude.{List, ℕ, Bool}
use Rattle.board_rules.specs.declared.PlanView.{PlanView}
use Rattle.clock_rules.specs.Clock.{Run}
use Rattle.clock_strides.specs.Strides as strides

abbrev pub StridedOf : PlanView → List ℕ → Run → List ℕ → List ℕ → List Bool → List ℕ → List ℕ → List ℕ → List ℕ → Type 0
StridedOf p x r' ls os ss hs ws k pl = strides.Strided p.policy p.overrun p.view.now x r' ls os ss hs ws k pl
