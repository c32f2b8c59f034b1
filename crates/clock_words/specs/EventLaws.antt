-- An event's line is the tick's digits, the event's fields each after a tab, a tab, and the answer's own line.
use Rattle.std.specs.Prelude.{ℕ, ◌≡◌, refl, List, [], ◌∷◌, ◌++◌}
use Rattle.std.proofs.Common.{ap, sym, ◌∙◌, append_assoc, append-nil}
use Rattle.laws.specs.Decimal.{decimal}
use Rattle.plan.specs.Limits.{tab}
use Rattle.plan.specs.Line.{w_ask, w_free, w_use, w_top, w_show}
use Rattle.text_letters.specs.Wrote.{Joins}
use Rattle.text_letters.specs.Tabbed.{tabbed, rest}
use Rattle.text_letters.specs.TabbedLaws.{rest_more}
use Rattle.listing.specs.Listing.{line}
use Rattle.listing_lines.specs.LineLaws.{line_joins}
use Rattle.board_rules.specs.declared.Event.{Event}
use Rattle.board_rules.specs.declared.Event.TheVariants.{Ask, Free, Use, Top, Show}
use Rattle.board_rules.specs.declared.BoardAnswer.{BoardAnswer}
use Rattle.board_rules.specs.declared.BoardAnswer.TheVariants.{Granted, Waits, Freed, Left, Shows, Refused}
use Rattle.board_events.specs.Events.{answer_fields}
use Rattle.clock_rules.specs.Trace.{event_fields, event_line}

-- fields, each after a tab
unfoldable pub tabs : List (List ℕ) → List ℕ
tabs [] = []
tabs (f ∷ fs) = tabbed f ++ tabs fs

rest_tabs : (fs gs : List (List ℕ)) → rest (fs ++ gs) ≡ tabs fs ++ rest gs
unfolding tabs
rest_tabs [] gs = refl
rest_tabs (f ∷ fs) gs = rest_more f (fs ++ gs) ∙ ap (λ m. tabbed f ++ m) (rest_tabs fs gs) ∙ sym (append_assoc (tabbed f) (tabs fs) (rest gs))

-- an event's fields, taken apart
abbrev pub event_tabs : Event → List ℕ
event_tabs e = tabs (event_fields e)

tabs_one : (w f : List ℕ) → tabs (w ∷ f ∷ []) ≡ tabbed w ++ tabbed f
unfolding tabs
tabs_one w f = ap (λ m. tabbed w ++ m) (append-nil (tabbed f))

tabs_two : (w f g : List ℕ) → tabs (w ∷ f ∷ g ∷ []) ≡ (tabbed w ++ tabbed f) ++ tabbed g
unfolding tabs
tabs_two w f g = simp (append_assoc, append-nil)

tabs_three : (w f g h : List ℕ) → tabs (w ∷ f ∷ g ∷ h ∷ []) ≡ ((tabbed w ++ tabbed f) ++ tabbed g) ++ tabbed h
unfolding tabs
tabs_three w f g h = simp (append_assoc, append-nil)

module _ {e : Event} where
  pub ask_tabs : {v n m : ℕ} → e ≡ Ask v n m → event_tabs e ≡ ((tabbed w_ask ++ tabbed (decimal v)) ++ tabbed (decimal n)) ++ tabbed (decimal m)
  ask_tabs {v} {n} {m} q = ap event_tabs q ∙ tabs_three w_ask (decimal v) (decimal n) (decimal m)

  pub free_tabs : {v n m : ℕ} → e ≡ Free v n m → event_tabs e ≡ ((tabbed w_free ++ tabbed (decimal v)) ++ tabbed (decimal n)) ++ tabbed (decimal m)
  free_tabs {v} {n} {m} q = ap event_tabs q ∙ tabs_three w_free (decimal v) (decimal n) (decimal m)

  pub use_tabs : {v t : ℕ} → e ≡ Use v t → event_tabs e ≡ (tabbed w_use ++ tabbed (decimal v)) ++ tabbed (decimal t)
  use_tabs {v} {t} q = ap event_tabs q ∙ tabs_two w_use (decimal v) (decimal t)

  pub top_tabs : {v : ℕ} → e ≡ Top v → event_tabs e ≡ tabbed w_top ++ tabbed (decimal v)
  top_tabs {v} q = ap event_tabs q ∙ tabs_one w_top (decimal v)

  pub show_tabs : {v n : ℕ} → e ≡ Show v n → event_tabs e ≡ (tabbed w_show ++ tabbed (decimal v)) ++ tabbed (decimal n)
  show_tabs {v} {n} q = ap event_tabs q ∙ tabs_two w_show (decimal v) (decimal n)

-- a line behind a tab is the rest of a longer one
tab_line : (f : List ℕ) (fs : List (List ℕ)) → rest (f ∷ fs) ≡ tab ∷ line (f ∷ fs)
tab_line f fs = rest_more f fs ∙ ap (λ m. tab ∷ m) (sym (line_joins f fs).is)

answer_rest : (a : BoardAnswer) → rest (answer_fields a) ≡ tab ∷ line (answer_fields a)
answer_rest Granted = tab_line _ _
answer_rest Waits = tab_line _ _
answer_rest (Freed w) = tab_line _ _
answer_rest (Left b o) = tab_line _ _
answer_rest (Shows t v) = tab_line _ _
answer_rest (Refused r) = tab_line _ _

-- THE PARTS of an event's line, each the first of what is left
pub event_joins : (t : ℕ) (e : Event) (a : BoardAnswer) → Joins (event_line t e a) (decimal t) (rest (event_fields e ++ answer_fields a))
event_joins t e a = line_joins (decimal t) (event_fields e ++ answer_fields a)

pub fields_join : (e : Event) (a : BoardAnswer) → Joins (rest (event_fields e ++ answer_fields a)) (event_tabs e) (rest (answer_fields a))
fields_join e a = record { is = rest_tabs (event_fields e) (answer_fields a) }

pub answer_joins : (a : BoardAnswer) → Joins (rest (answer_fields a)) (tab ∷ []) (line (answer_fields a))
answer_joins a = record { is = answer_rest a }
