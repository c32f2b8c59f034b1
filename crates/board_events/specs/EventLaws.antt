-- Event after event by two rules that agree.
use Rattle.std.specs.Prelude.{◌≡◌, refl}
use Rattle.std.proofs.Math.Path.{ap}
use Rattle.std.proofs.Common.{◌∙◌}
use mathlib.Core.List.{List, [], ◌∷◌}
use Rattle.board_rules.specs.declared.Board.{Board}
use Rattle.board_rules.specs.declared.Event.{Event}
use Rattle.board_rules.specs.declared.Outcome.{Outcome}
use Rattle.board_events.specs.Events.{answers_by, board_by}

-- the same answers, and the same last board
abbrev pub SameRun : (Board → Event → Outcome) → (Board → Event → Outcome) → Board → List Event → Type 0
SameRun p q b es = (answers_by p b es ≡ answers_by q b es) × (board_by p b es ≡ board_by q b es)

-- p and q agree on every board of which P holds, and q keeps P
module _ (p q : Board → Event → Outcome) (P : Board → Type 0)
    (agree : (b : Board) → P b → (e : Event) → p b e ≡ q b e) (keep : (b : Board) → P b → (e : Event) → P (q b e).board) where
  pub same_run : (b : Board) → P b → (es : List Event) → SameRun p q b es
  unfolding answers_by board_by
  same_run b h [] = (refl, refl)
  same_run b h (e ∷ es) =
      let rest = same_run (q b e).board (keep b h e) es in (
        ap (λ (o : Outcome). o.answer ∷ answers_by p o.board es) (agree b h e) ∙ ap (λ xs. (q b e).answer ∷ xs) rest.0,
        ap (λ (o : Outcome). board_by p o.board es) (agree b h e) ∙ rest.1,
      )
