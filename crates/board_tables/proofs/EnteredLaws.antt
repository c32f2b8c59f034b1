-- The board over lent tables: from a fresh board no event is answered 9, 9 is answered exactly where a test fails, and a refusal leaves the board as it was.
use Rattle.std.specs.Prelude.{ℕ, ◌≡◌, refl, true, false, List, Ok, Err, ◌⊎◌, ◌↔◌}
use Rattle.std.proofs.Common.{◌∙◌, true≢false, inl, inr, ⊎_elim, arith}
use Rattle.laws.specs.Sums.{Each}
use Rattle.laws.specs.BoolLaws.{clash, bool_cases}
use Rattle.plan.specs.declared.Refusal.{Refusal}
use Rattle.plan.specs.declared.Refusal.TheVariants.{Foreign}
use Rattle.plan_tables.specs.declared.PlanRecord.{PlanRecord}
use Rattle.plan_tables.specs.Layout.{Tables}
use Rattle.plan_tables.specs.Given.{plan_in, is_given, if_given}
use Rattle.plan_tables.proofs.GivenLaws.{given_plan}
use Rattle.board_rules.specs.Facts.{Facts}
use Rattle.board_rules.specs.declared.Board.{Board}
use Rattle.board_rules.specs.declared.Event.{Event}
use Rattle.board_rules.specs.declared.BoardAnswer.TheVariants.{Refused}
use Rattle.board_rules.specs.Board.{fresh, refused, good, step, step_on}
use Rattle.board_events.specs.Events.{answers}
use Rattle.board_events.specs.EventLaws.{SameRun}
use Rattle.board_keeps.specs.Fair.{Fair}
use Rattle.board_keeps.specs.FairLaws.{fair}
use Rattle.board_keeps.specs.Shaped.{Shaped}
use Rattle.board_keeps.specs.Leaves.{Leaves, step_leaves}
use Rattle.board_keeps.proofs.Keeps.{step_keeps}
use Rattle.board_keeps.proofs.Runs as runs
use Rattle.board_keeps.proofs.NotNine.{step_not_nine, answers_not_nine, NotNine}
use Rattle.board_keeps.proofs.Tested.{fresh_run}
use Rattle.board_tables.specs.Entered.{facts_from, no_board, fresh_for, step_for, run_for}

-- a board that fails its test for 9
pub tested_other : (F : Facts) (b : Board) (e : Event) → good F b ≡ false → step_on F b e ≡ refused b Foreign
unfolding step_on
tested_other F b e g = rw g

step_on_leaves : (F : Facts) (b : Board) (e : Event) → Leaves b (step_on F b e)
unfolding step_on
step_on_leaves F b e = ⊎_elim (λ h. rw h (step_leaves F b e)) (λ h. rw h (λ x q. refl)) (bool_cases (good F b))

-- 9 on a board is exactly what its test says
step_on_nine : (F : Facts) (b : Board) (e : Event) → ((step_on F b e).answer ≡ Refused Foreign) ↔ (good F b ≡ false)
unfolding step_on
step_on_nine F b e = ⊎_elim
    (λ h. rw h ((λ q. absurd (step_not_nine F b e q)), (λ q. absurd (true≢false q))))
    (λ h. rw h ((λ q. refl), (λ q. refl)))
    (bool_cases (good F b))

module _ (r : PlanRecord) (t : Tables) where
  -- TABLES THAT NO ACCEPTED PLAN GIVES
  pub fresh_other : is_given r t ≡ false → fresh_for r t ≡ record { answer = Err Foreign; board = no_board }
  unfolding fresh_for
  fresh_other g = rw (g, fresh_for, if_given)

  pub step_other : is_given r t ≡ false → (b : Board) (e : Event) → step_for r t b e ≡ refused b Foreign
  unfolding step_for
  step_other g b e = rw (g, step_for, if_given)

  -- TABLES THAT AN ACCEPTED PLAN GIVES
  pub fresh_given : is_given r t ≡ true → fresh_for r t ≡ record { answer = Ok tt; board = fresh (facts_from r t) }
  unfolding fresh_for
  fresh_given g = rw (g, fresh_for, if_given)

  pub step_given : is_given r t ≡ true → (b : Board) (e : Event) → step_for r t b e ≡ step_on (facts_from r t) b e
  unfolding step_for
  step_given g b e = rw (g, step_for, if_given)

  pub fair_from : is_given r t ≡ true → Fair (facts_from r t)
  fair_from g = fair (plan_in r t) (given_plan r t g).0

  -- MADE EXACTLY where an accepted plan gives the tables
  pub fresh_made_exactly : ((fresh_for r t).answer ≡ Ok tt) ↔ (is_given r t ≡ true)
  fresh_made_exactly = ⊎_elim
      (λ g. rw (fresh_given g) ((λ q. g), (λ q. refl)))
      (λ g. rw (fresh_other g) ((λ q. absurd (let z : ◌≡◌ {A = ℕ} 0 1 = cc in omega arith)), (λ q. absurd (clash q g))))
      (bool_cases (is_given r t))

  -- a board that is made is of given tables, and is the board at first of the plan's facts
  pub fresh_of : (fresh_for r t).answer ≡ Ok tt → (is_given r t ≡ true) × ((fresh_for r t).board ≡ fresh (facts_from r t))
  fresh_of e = let g = fresh_made_exactly.0 e in (g, rw (fresh_given g))

  pub fresh_good : (fresh_for r t).answer ≡ Ok tt → good (facts_from r t) (fresh_for r t).board ≡ true
  fresh_good e = let h = fresh_of e in rw h.1 (runs.fresh_good (fair_from h.0))

  -- an event keeps the conditions for 9 (a board's lists have the lengths of its arrays)
  pub step_good : {b : Board} → is_given r t ≡ true → Shaped b → good (facts_from r t) b ≡ true → (e : Event) → good (facts_from r t) (step_for r t b e).board ≡ true
  step_good {b} g s h e = rw (step_given g b e, runs.step_on_law (facts_from r t) b h e) (step_keeps (fair_from g) s h e)

  -- event after event from the board that is made: the answers and the last board are those of the board's own rules
  pub run_made : (fresh_for r t).answer ≡ Ok tt → (es : List Event) → SameRun (step_for r t) (step (facts_from r t)) (fresh_for r t).board es
  run_made e es =
      let h = fresh_of e in
      rw h.1 (fresh_run (fair_from h.0) (step_for r t) (λ b k x. step_given h.0 b x ∙ runs.step_on_law (facts_from r t) b k x) es)

  pub run_answers : (fresh_for r t).answer ≡ Ok tt → (es : List Event) → run_for r t (fresh_for r t).board es ≡ answers (facts_from r t) (fresh_for r t).board es
  run_answers e es = (run_made e es).0

  -- so that none is 9
  pub never_nine : (fresh_for r t).answer ≡ Ok tt → (es : List Event) → Each NotNine (run_for r t (fresh_for r t).board es)
  never_nine e es = rw (run_answers e es) (answers_not_nine (facts_from r t) (fresh_for r t).board es)

  -- 9 EXACTLY where no accepted plan gives the tables, or the board breaks a condition
  pub foreign_exactly : (b : Board) (e : Event) → ((step_for r t b e).answer ≡ Refused Foreign) ↔ ((is_given r t ≡ false) ⊎ (good (facts_from r t) b ≡ false))
  foreign_exactly b e = ⊎_elim
      (λ g. rw (step_given g b e) ((λ q. inr ((step_on_nine (facts_from r t) b e).0 q)), ⊎_elim (λ f. absurd (clash g f)) (λ f. (step_on_nine (facts_from r t) b e).1 f)))
      (λ g. ((λ q. inl g), (λ q. rw (step_other g b e))))
      (bool_cases (is_given r t))

  -- REFUSED, the board is as it was
  pub refused_leaves : (b : Board) (e : Event) (x : Refusal) → (step_for r t b e).answer ≡ Refused x → (step_for r t b e).board ≡ b
  refused_leaves b e = ⊎_elim
      (λ g. rw (step_given g b e) (step_on_leaves (facts_from r t) b e))
      (λ g. rw (step_other g b e) (λ x q. refl))
      (bool_cases (is_given r t))
