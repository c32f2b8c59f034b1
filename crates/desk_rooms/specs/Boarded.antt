-- The answers to events, for a plan.
use Rattle.std.specs.Prelude.{ℕ, ◌*◌, ◌≤◌, List, length}
use Rattle.plan.specs.Plan.{Plan}
use Rattle.plan.specs.Valid.{Valid}
use Rattle.figures.specs.System.{system}
use Rattle.board_rules.specs.Facts.{Facts, facts_of}
use Rattle.board_rules.specs.Board.{fresh}
use Rattle.board_events.specs.Events.{replies_to}
use Rattle.board_keeps.specs.FairLaws.{fair}
use Rattle.board_keeps.proofs.Runs.{fresh_good}
use Rattle.log_answers.specs.Small.{small}
use Rattle.log_answers.specs.Bound.{answers_bound}

-- the lines of the answers to the lines of es, from a fresh board
unfoldable pub answers_for : Facts → List ℕ → List ℕ
answers_for F es = replies_to F (fresh F) es

-- the answers are together at most ten times as long as the events
pub plan_bound : (p : Plan) (es : List ℕ) → Valid p → length (answers_for (facts_of (system p)) es) ≤ 10 * length es
unfolding answers_for
plan_bound p es h = answers_bound (facts_of (system p)) (fresh (facts_of (system p))) es (fair p h) (small p h) (fresh_good (fair p h))
