-- Event after event, none of them refused.
use Rattle.std.specs.Prelude.{◌≡◌, Bool, true, false}
use Rattle.std.proofs.Math.Path.{refl}
use mathlib.Core.List.{List, [], ◌∷◌, ◌++◌}
use Rattle.board_rules.specs.Facts.{Facts}
use Rattle.board_rules.specs.declared.Board.{Board}
use Rattle.board_rules.specs.declared.Event.{Event}
use Rattle.board_rules.specs.declared.BoardAnswer.{BoardAnswer}
use Rattle.board_rules.specs.declared.BoardAnswer.TheVariants.{Granted, Waits, Freed, Left, Shows, Refused}
use Rattle.board_rules.specs.Board.{step}
use Rattle.board_events.specs.Events.{board_by, board_after}

-- an answer that says no
abbrev pub is_refusal : BoardAnswer → Bool
is_refusal Granted = false
is_refusal Waits = false
is_refusal (Freed w) = false
is_refusal (Left b o) = false
is_refusal (Shows t v) = false
is_refusal (Refused r) = true

-- from board b on, each event in its place is answered and not refused
abbrev pub Accepted : Facts → Board → List Event → Type 0
Accepted F b [] = Unit {0}
Accepted F b (e ∷ es) = (is_refusal (step F b e).answer ≡ false) × Accepted F (step F b e).board es

module _ (F : Facts) where
  -- the board after two lists of events
  pub board_append : (b : Board) (xs ys : List Event) → board_after F b (xs ++ ys) ≡ board_after F (board_after F b xs) ys
  unfolding board_by
  board_append b [] ys = refl
  board_append b (e ∷ xs) ys = board_append (step F b e).board xs ys

  -- none of two lists of events is refused
  pub accepted_append : (b : Board) (xs ys : List Event) → Accepted F b xs → Accepted F (board_after F b xs) ys → Accepted F b (xs ++ ys)
  unfolding board_by
  accepted_append b [] ys h k = k
  accepted_append b (e ∷ xs) ys h k = (h.0, accepted_append (step F b e).board xs ys h.1 k)
