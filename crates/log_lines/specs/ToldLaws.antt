-- What code takes apart says the same: a line's item and its event.
use Rattle.std.specs.Prelude.{ℕ, ◌≡◌, refl, List, Bool, true, false, Option, Some, None}
use Rattle.std.proofs.Math.Path.{ap}
use Rattle.std.proofs.Common.{sym, ◌∙◌}
use Rattle.plan.specs.declared.Kind.{Kind}
use Rattle.plan.specs.declared.Refusal.TheVariants.{Shape, Number}
use Rattle.plan.specs.Line.{shape, written, nums_of}
use Rattle.text_lines.specs.declared.Said.{Said}
use Rattle.text_lines.specs.Said.{said_of, item_as, said_item}
use Rattle.text_lines.specs.SaidLaws.{said_item_law}
use Rattle.board_rules.specs.Facts.{Facts}
use Rattle.board_rules.specs.declared.Board.{Board}
use Rattle.board_rules.specs.declared.Event.{Event}
use Rattle.board_rules.specs.declared.Outcome.{Outcome}
use Rattle.board_rules.specs.Board.{step, refused}
use Rattle.board_events.specs.Events.{event_of, on_event, on_item, on_line}
use Rattle.log_lines.specs.Told.{told_of, on_said, on_told}

told_event : (F : Facts) (b : Board) (ok : Bool) (o : Option Event) → on_told F b ok (told_of o) ≡ on_event F b ok o
unfolding on_said
told_event F b true None = refl
told_event F b false None = refl
told_event F b true (Some e) = refl
told_event F b false (Some e) = refl

module _ (F : Facts) (b : Board) (ok : Bool) (e : Event) (z : Outcome) where
  pub on_written : z ≡ step F b e → ok ≡ true → z ≡ on_said F b ok e
  unfolding on_said
  on_written h q = h ∙ ap (λ ok. on_said F b ok e) (sym q)

  pub on_unwritten : z ≡ refused b Number → ok ≡ false → z ≡ on_said F b ok e
  unfolding on_said
  on_unwritten h q = h ∙ ap (λ ok. on_said F b ok e) (sym q)

-- the answer to what a line says, by its kind
module _ (F : Facts) (t : Board) (f : Option Kind) (a b c d e : ℕ) where
  pub on_found :
      (k : Kind) (z : Outcome) → z ≡ on_told F t (written (shape k) (nums_of k a b c d e)) (told_of (event_of k (nums_of k a b c d e))) → f ≡ Some k →
      z ≡ on_item F t (item_as f a b c d e)
  on_found k z h g =
      h ∙ told_event F t (written (shape k) (nums_of k a b c d e)) (event_of k (nums_of k a b c d e)) ∙ ap (λ f. on_item F t (item_as f a b c d e)) (sym g)

  pub on_nothing : (z : Outcome) → z ≡ refused t Shape → f ≡ None → z ≡ on_item F t (item_as f a b c d e)
  on_nothing z h g = h ∙ ap (λ f. on_item F t (item_as f a b c d e)) (sym g)

pub on_said_law : (F : Facts) (b : Board) (l : List ℕ) (s : Said) (z : Outcome) → s ≡ said_of l → z ≡ on_item F b (said_item s) → z ≡ on_line F b l
unfolding on_line
on_said_law F b l s z e h = h ∙ ap (λ s. on_item F b (said_item s)) e ∙ ap (on_item F b) (sym (said_item_law l))
