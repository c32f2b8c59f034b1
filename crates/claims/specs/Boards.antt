-- Event after event over lent tables: the last board, the ledger and locality, said of the calls `fresh` and `step`.
use Rattle.std.specs.Prelude.{ℕ, ◌+◌, ◌≡◌, refl, true, List, Ok}
use Rattle.std.proofs.Common.{sym, subst, ◌∙◌, ⊎_elim}
use Rattle.laws.specs.BoolLaws.{bool_cases}
use Rattle.plan_tables.specs.declared.PlanRecord.{PlanRecord}
use Rattle.plan_tables.specs.Layout.{Tables}
use Rattle.plan_tables.specs.Given.{is_given}
use Rattle.board_rules.specs.Facts.{Facts}
use Rattle.board_rules.specs.declared.Board.{Board}
use Rattle.board_rules.specs.declared.Event.{Event}
use Rattle.board_rules.specs.declared.Event.TheVariants.{Ask, Free}
use Rattle.board_rules.specs.declared.Outcome.{Outcome}
use Rattle.board_rules.specs.Board.{left_of, over_of, step, good}
use Rattle.board_events.specs.Events.{board_after}
use Rattle.board_keeps.specs.Shaped.{Shaped}
use Rattle.board_keeps.specs.Ledger.{ledger}
use Rattle.board_keeps.proofs.LedgerLaws.{ledger_balance}
use Rattle.board_keeps.specs.Locality.{Untouched, untouched, ask_local, free_local, ask_elsewhere, free_elsewhere}
use Rattle.board_keeps.proofs.Runs.{step_on_law}
use Rattle.board_tables.specs.Entered.{facts_from, fresh_for, step_for, run_for, last_for}
use Rattle.board_tables.proofs.EnteredLaws.{step_other, step_given, fair_from, fresh_of, tested_other, run_made, run_answers}

module _ (r : PlanRecord) (t : Tables) where
  abbrev F : Facts
  F = facts_from r t

  -- EVENT AFTER EVENT: the last board is that of the board's own rules
  pub run_last : (fresh_for r t).answer ≡ Ok tt → (es : List Event) → last_for r t (fresh_for r t).board es ≡ board_after F (fresh_for r t).board es
  run_last e es = (run_made r t e es).1

  -- "the ticks accepted for a VCPU since its last `top` (or the start), added up from the events, equal budget + O − b − o"
  pub run_ledger : (fresh_for r t).answer ≡ Ok tt → (v : ℕ) → F.has_vcpu v ≡ true → (es : List Event) →
      ledger v 0 es (run_for r t (fresh_for r t).board es) + left_of (last_for r t (fresh_for r t).board es) v + over_of (last_for r t (fresh_for r t).board es) v
      ≡ F.budget v + F.overrun v
  run_ledger e v k es =
      let h = fresh_of r t e in
      rw (run_answers r t e es, run_last e es, h.1) (ledger_balance (fair_from r t h.0) v k es)

  -- a call either leaves the board, or is an event on given tables and a board that meets the conditions
  pub step_cases : {b : Board} (e : Event) (P : Board → Type 0) → P b → (is_given r t ≡ true → good F b ≡ true → P (step F b e).board) →
      P (step_for r t b e).board
  step_cases {b} e P p q =
      ⊎_elim
      (λ g.
      ⊎_elim (λ h. subst (λ (o : Outcome). P o.board) (sym (step_given r t g b e ∙ step_on_law F b h e)) (q g h))
      (λ h. subst (λ (o : Outcome). P o.board) (sym (step_given r t g b e ∙ tested_other F b e h)) p)
      (bool_cases (good F b)))
      (λ g. subst (λ (o : Outcome). P o.board) (sym (step_other r t g b e)) p)
      (bool_cases (is_given r t))

  -- "An event on one VCPU's local mutexes changes no other VCPU's record and no global mutex" (a board's lists have the lengths of its arrays): by a task of that VCPU
  module _ {b : Board} (s : Shaped b) (v n m : ℕ) (loc : F.local_to v m ≡ true) where
    pub call_ask_local : Untouched F v b (step_for r t b (Ask v n m)).board
    call_ask_local = step_cases (Ask v n m) (Untouched F v b) (untouched F v b) (λ g h. ask_local (fair_from r t g) s h v n m loc)

    pub call_free_local : Untouched F v b (step_for r t b (Free v n m)).board
    call_free_local = step_cases (Free v n m) (Untouched F v b) (untouched F v b) (λ g h. free_local (fair_from r t g) s h v n m loc)

  -- the same by a task of another VCPU: nothing changes
  module _ {b : Board} (v w n m : ℕ) (loc : F.local_to v m ≡ true) (other : w ≡ v → ⊥) where
    pub call_ask_elsewhere : (step_for r t b (Ask w n m)).board ≡ b
    call_ask_elsewhere = step_cases (Ask w n m) (λ (c : Board). c ≡ b) refl (λ g h. ask_elsewhere (fair_from r t g) b v w n m loc other)

    pub call_free_elsewhere : (step_for r t b (Free w n m)).board ≡ b
    call_free_elsewhere = step_cases (Free w n m) (λ (c : Board). c ≡ b) refl (λ g h. free_elsewhere (fair_from r t g) b v w n m loc other h)
