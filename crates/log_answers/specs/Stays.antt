-- A refused line leaves the board as it was; and a mark stands where it is due after any line.
use Rattle.std.specs.Prelude.{ℕ, ◌≡◌, refl, List, Bool, false}
use Rattle.std.proofs.Common.{sym, subst, ◌∙◌, true≢false}
use Rattle.board_rules.specs.Facts.{Facts}
use Rattle.board_rules.specs.declared.Board.{Board}
use Rattle.board_rules.specs.declared.BoardAnswer.{BoardAnswer}
use Rattle.board_rules.specs.declared.BoardAnswer.TheVariants.{Granted, Waits, Freed, Left, Shows, Refused}
use Rattle.board_rules.specs.declared.Outcome.{Outcome}
use Rattle.board_events.specs.Events.{on_line}
use Rattle.board_rules.specs.Settle.{Marked}
use Rattle.board_events.proofs.LineMarks.{line_marked}
use Rattle.board_events.specs.Printed.{LineSays, AnEvent, NoEvent, says_of}
use Rattle.board_events.proofs.PrintedLaws.{on_says, line_says}
use Rattle.board_keeps.specs.Leaves.{Leaves, step_leaves}
use Rattle.log_answers.specs.Tells.{moving}

module _ (F : Facts) (b : Board) where
  -- what a line says
  says_leaves : (x : LineSays) → Leaves b (on_says F b x)
  says_leaves (AnEvent e) = step_leaves F b e
  says_leaves (NoEvent r) = λ x e. refl

  -- a line, as code finds out
  pub line_stays : (l : List ℕ) (o : Outcome) → o ≡ on_line F b l → {x : Bool} → x ≡ moving o.answer → x ≡ false → o.board ≡ b
  line_stays l o h k e = let s : Leaves b o = rw (h, line_says F b l) (says_leaves (says_of l)) in go o.answer refl (sym k ∙ e) s
    where
      go : (a : BoardAnswer) → o.answer ≡ a → moving a ≡ false → Leaves b o → o.board ≡ b
      go Granted q m s = absurd (true≢false m)
      go Waits q m s = absurd (true≢false m)
      go (Freed w) q m s = absurd (true≢false m)
      go (Left c d) q m s = absurd (true≢false m)
      go (Shows t v) q m s = absurd (true≢false m)
      go (Refused x) q m s = s x q

  -- after a line a mark stands where it is due
  pub marked_by_law : Marked F b → (l : List ℕ) (o : Outcome) → o ≡ on_line F b l → Marked F o.board
  marked_by_law k l o e = subst (λ x. Marked F x.board) (sym e) (line_marked F b k l)
