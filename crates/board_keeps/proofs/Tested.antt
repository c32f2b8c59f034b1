-- A run with the test for 9 at each event, and one without: the same answers, the same last board.
use Rattle.std.specs.Prelude.{◌≡◌, true, List}
use Rattle.board_rules.specs.Facts.{Facts}
use Rattle.board_rules.specs.declared.Board.{Board}
use Rattle.board_rules.specs.declared.Event.{Event}
use Rattle.board_rules.specs.declared.Outcome.{Outcome}
use Rattle.board_rules.specs.declared.BoardAnswer.{BoardAnswer}
use Rattle.board_rules.specs.Board.{fresh, good, step, step_on}
use Rattle.board_events.specs.Events.{answers_by, board_by, answers, board_after}
use Rattle.board_events.specs.EventLaws.{SameRun, same_run}
use Rattle.board_keeps.specs.Fair.{Fair}
use Rattle.board_keeps.specs.Shaped.{Shaped, fresh_shaped, step_shaped}
use Rattle.board_keeps.proofs.Keeps.{step_keeps}
use Rattle.board_keeps.proofs.Runs.{fresh_good, step_on_law}

-- the answers to a list of events, each tested for 9 first, and the board after them
abbrev pub answers_on : Facts → Board → List Event → List BoardAnswer
answers_on F = answers_by (step_on F)

abbrev pub board_on : Facts → Board → List Event → Board
board_on F = board_by (step_on F)

-- p is `step` on boards that meet the conditions for 9
module _ {F : Facts} (f : Fair F) (p : Board → Event → Outcome) (agree : (b : Board) → good F b ≡ true → (e : Event) → p b e ≡ step F b e) where
  pub good_run : {b : Board} → Shaped b → good F b ≡ true → (es : List Event) → SameRun p (step F) b es
  good_run {b} s g es =
      same_run p (step F) (λ c. Shaped c × (good F c ≡ true)) (λ c h. agree c h.1)
      (λ c h e. (step_shaped F e h.0, step_keeps f h.0 h.1 e)) b (s, g) es

  -- from a fresh board
  pub fresh_run : (es : List Event) → SameRun p (step F) (fresh F) es
  fresh_run es = good_run (fresh_shaped F) (fresh_good f) es

module _ {F : Facts} (f : Fair F) where
  pub answers_on_law : {b : Board} → Shaped b → good F b ≡ true → (es : List Event) → answers_on F b es ≡ answers F b es
  answers_on_law s g es = (good_run f (step_on F) (step_on_law F) s g es).0

  pub board_on_law : {b : Board} → Shaped b → good F b ≡ true → (es : List Event) → board_on F b es ≡ board_after F b es
  board_on_law s g es = (good_run f (step_on F) (step_on_law F) s g es).1

  -- from a fresh board
  pub fresh_answers_on : (es : List Event) → answers_on F (fresh F) es ≡ answers F (fresh F) es
  fresh_answers_on es = (fresh_run f (step_on F) (step_on_law F) es).0

  pub fresh_board_on : (es : List Event) → board_on F (fresh F) es ≡ board_after F (fresh F) es
  fresh_board_on es = (fresh_run f (step_on F) (step_on_law F) es).1
