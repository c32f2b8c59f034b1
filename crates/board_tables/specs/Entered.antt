-- The board over lent tables: 9 for the tables (`if_given`), then 9 for the board (`step_on`), then the event's own refusals.
use Rattle.std.specs.Prelude.{◌*◌, false, List, Ok, Err}
use Rattle.laws.specs.Range.{list_to}
use Rattle.plan.specs.Limits.{max_v, max_m, most_n}
use Rattle.plan.specs.declared.Refusal.TheVariants.{Foreign}
use Rattle.plan_tables.specs.declared.PlanRecord.{PlanRecord}
use Rattle.plan_tables.specs.Layout.{Tables}
use Rattle.plan_tables.specs.Given.{plan_in, if_given}
use Rattle.figures.specs.System.{system}
use Rattle.board_rules.specs.Facts.{Facts, facts_of}
use Rattle.board_rules.specs.declared.Board.{Board}
use Rattle.board_rules.specs.declared.Event.{Event}
use Rattle.board_rules.specs.declared.BoardAnswer.{BoardAnswer}
use Rattle.board_rules.specs.declared.Outcome.{Outcome}
use Rattle.board_rules.specs.Board.{fresh, refused, step_on}
use Rattle.board_events.specs.Events.{answers_by, board_by}
pub use Rattle.board_tables.specs.declared.FreshBoard.{FreshBoard}

-- the facts of the plan in the tables
abbrev pub facts_from : PlanRecord → Tables → Facts
facts_from r t = facts_of (system (plan_in r t))

-- a board of zeros
unfoldable pub no_board : Board
no_board = record {
  left = list_to max_v (λ v. 0);
  over = list_to max_v (λ v. 0);
  stopped = list_to max_v (λ v. false);
  holder = list_to max_m (λ m. 0);
  waits = list_to (max_v * most_n) (λ s. 0);
}

-- a board at first, for tables that an accepted plan gives
unfoldable pub fresh_for : PlanRecord → Tables → FreshBoard
fresh_for r t = if_given r t (λ p. record { answer = Ok tt; board = fresh (facts_of (system p)) }) (record { answer = Err Foreign; board = no_board })

-- one event on any board, over any tables
unfoldable pub step_for : PlanRecord → Tables → Board → Event → Outcome
step_for r t b e = if_given r t (λ p. step_on (facts_of (system p)) b e) (refused b Foreign)

-- EVENT AFTER EVENT: the answers, and the board after them
abbrev pub run_for : PlanRecord → Tables → Board → List Event → List BoardAnswer
run_for r t = answers_by (step_for r t)

abbrev pub last_for : PlanRecord → Tables → Board → List Event → Board
last_for r t = board_by (step_for r t)
