-- `show` meets its contract: the answer of the step.
use mathlib.Core.Path.{ap}
use Rattle.board_rules.specs.declared.Outcome.{Outcome}
use Rattle.board_tables.proofs.show.Goals as goal

pub returns : goal.returns
returns c = ap (λ (o : Outcome). o.answer) c.step-o.ensures
