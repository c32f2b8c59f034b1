-- The lines of events one after the other.
use Rattle.std.specs.Prelude.{ℕ, ◌≡◌, refl, List, [], ◌∷◌, ◌++◌}
use Rattle.std.proofs.Common.{sym, ap, ◌∙◌, append_assoc}
use Rattle.board_rules.specs.Facts.{Facts}
use Rattle.board_rules.specs.declared.Board.{Board}
use Rattle.board_rules.specs.declared.Event.{Event}
use Rattle.board_rules.specs.Board.{step}
use Rattle.board_events.specs.Events.{board_after, board_by}
use Rattle.clock_rules.specs.Trace.{event_line, lines_at}

-- the lines of two lists of events
pub lines_append : (F : Facts) (i : ℕ) (b : Board) (xs ys : List Event) → lines_at F i b (xs ++ ys) ≡ lines_at F i b xs ++ lines_at F i (board_after F b xs) ys
unfolding lines_at board_by
lines_append F i b [] ys = refl
lines_append F i b (e ∷ xs) ys =
    ap (λ l. event_line i e (step F b e).answer ++ l) (lines_append F i (step F b e).board xs ys)
    ∙ sym (append_assoc (event_line i e (step F b e).answer) (lines_at F i (step F b e).board xs) _)
