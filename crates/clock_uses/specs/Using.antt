-- A tick of a VCPU: the board after `use v 1`, and what is kept beside it.
use Rattle.std.specs.Prelude.{ℕ, ◌-◌, ◌<◌, ◌≡◌, refl, List, [], ◌∷◌, Bool, true, ltb, Ok, Err}
use Rattle.std.proofs.Math.Path.{ap, subst}
use Rattle.std.proofs.Common.{sym, ◌∙◌, ltb-true, ltb-false}
use Rattle.std.proofs.Math.Bool.{false}
use Rattle.std.proofs.Math.Logic.{⊎_elim}
use native.Mathlib.Omega.{arith}
use Rattle.std.proofs.Math.ListN.{get_or}
use Rattle.laws.specs.BoolLaws.{bool_cases, same_or_not}
use Rattle.plan.specs.declared.Policy.{Policy}
use Rattle.plan.specs.declared.OverrunChoice.{OverrunChoice}
use Rattle.plan.specs.declared.Refusal.{Refusal}
use Rattle.plan.specs.Refusals.{Fault}
use Rattle.board_seats.specs.Seats.{has_vcpu}
use Rattle.board_walks.specs.Walks as walks
use Rattle.board_reserves.specs.Supplies.{use_fault_at}
use Rattle.board_rules.specs.Facts.{Facts}
use Rattle.board_rules.specs.View.{facts_in}
use Rattle.board_rules.specs.declared.Board.{Board}
use Rattle.board_rules.specs.declared.Event.TheVariants.{Use}
use Rattle.board_rules.specs.declared.Outcome.{Outcome}
use Rattle.board_rules.specs.Board.{left_of, over_of, supply, settled, used, answered, use_fault, step, good, must_stop, holds_global}
use Rattle.board_events.specs.Events.{board_by}
use Rattle.board_rules.specs.Settle.{Marked}
use Rattle.board_keeps.specs.Fair.{Fair, InV}
use Rattle.board_keeps.specs.Shaped.{Shaped}
use Rattle.board_keeps.specs.Change.{left_new}
use Rattle.board_keeps.specs.Faults.{use_clear}
use Rattle.board_keeps.specs.Good.{good_sound, good_marked}
use Rattle.board_rules.specs.declared.BoardAnswer.{BoardAnswer}
use Rattle.clock_rules.specs.Clock.{Timing}
use Rattle.clock_rules.specs.Trace.{event_line, lines_at}
use Rattle.clock_lines.specs.Told.{told_at, told_to, RoomAt}
use Rattle.clock_times.specs.Times.{timing_in}
use Rattle.clock_sets.specs.Sets.{in_set}
use Rattle.clock_marks.specs.Marks.{at_holding, board_of, run_in, done_in, spares, Mirrors}
use Rattle.clock_puts.specs.Puts.{PutSupply}
use Rattle.clock_mirrors.specs.Supplies as mirrors
use Rattle.clock_mirrors.specs.Supplies.{put_supply_done, use_mirrors, tick_mirrors}
use Rattle.clock_steps.specs.Quiet.{same_in_step, use_locks}
use Rattle.clock_steps.specs.Taken.{use_is}
use Rattle.clock_steps.specs.Accepted.{is_refusal}
use Rattle.clock_steps.specs.Running.{Running, still_running}
use Rattle.clock_going.specs.Going.{timing_by, Going, Made}
use Rattle.clock_uses.specs.Making.{no_fault, room_one, made_one}

-- A TICK OF v is not refused
abbrev pub Uses : Facts → Board → ℕ → Type 0
Uses F b v = is_refusal (step F b (Use v 1)).answer ≡ false

-- the sets of supplies are written anew where v has no budget left: ls, os, ss are the budgets, the overruns and the marks
pub record AfterUse (o : OverrunChoice) (ls os : List ℕ) (ss : List Bool) (k k' : List ℕ) (v : ℕ) : Type 0 where
  pub kept : (get_or ls (v - 1) 0 ≡ 0 → ⊥) → k' ≡ k
  pub put : get_or ls (v - 1) 0 ≡ 0 → PutSupply k k' v (ltb 0 (get_or ls (v - 1) 0)) (spares o (get_or ss (v - 1) false) (get_or os (v - 1) 0))

-- by the board that the lists say
abbrev pub AfterUseOn : OverrunChoice → Board → List ℕ → List ℕ → ℕ → Type 0
AfterUseOn o b k k' v = AfterUse o b.left b.over b.stopped k k' v

-- as the laws of mirrors have it
pub put_supply_of : {k k' : List ℕ} {v : ℕ} {p q : Bool} → PutSupply k k' v p q → mirrors.PutSupply k k' v p q
put_supply_of h = record {
  length_same = h.length_same;
  else_same = h.else_same;
  budgets_set = h.budget_set;
  budgets = h.budget;
  spares_set = h.spare_set;
  spared = h.spare;
}

-- THE TICKS DONE stay
pub use_done : {o : OverrunChoice} {ls os : List ℕ} {ss : List Bool} {k k' : List ℕ} {v : ℕ} → AfterUse o ls os ss k k' v → done_in k' ≡ done_in k
use_done {o} {ls} {os} {ss} {k} {k'} {v} h = ⊎_elim (λ z. put_supply_done k k' (put_supply_of (h.put z))) (λ nz. ap done_in (h.kept nz)) (same_or_not (get_or ls (v - 1) 0) 0)

-- WHAT IS KEPT
module _ {T : Timing} {x : List ℕ} {b : Board} {k : List ℕ} (m : Mirrors T x b k) (f : Fair T.facts) (s : Shaped b) (g : good T.facts b ≡ true) where
  -- a tick that is not refused takes one of the budget
  left_then : (v : ℕ) → use_fault T.facts b v 1 ≡ Ok tt → left_of (step T.facts b (Use v 1)).board v ≡ left_of b v - 1
  unfolding used settled
  left_then v e =
      let F = T.facts in
      ap (λ (o : Outcome). left_of o.board v) (use_is F b v 1 e) ∙ left_new s v (left_of b v - 1) (over_of b v - (1 - left_of b v)) (f.vcpu_in v (use_clear F b v 1 e).vcpu)

  -- one that is refused changes nothing
  still_then : (v : ℕ) {r : Refusal} → use_fault T.facts b v 1 ≡ Err r → (step T.facts b (Use v 1)).board ≡ b
  unfolding step
  still_then v e = ap (λ y. (answered b y (used T.facts b v 1)).board) e

  -- a VCPU with more than one tick of budget has some left
  pub stands : (v : ℕ) → 1 < left_of b v → left_of (step T.facts b (Use v 1)).board v ≡ 0 → ⊥
  stands v l z = at_fault (use_fault T.facts b v 1) refl
    where
      at_fault : (y : Fault) → use_fault T.facts b v 1 ≡ y → ⊥
      at_fault (Ok tt) e = let q = left_then v e in omega arith
      at_fault (Err r) e = let q = ap (λ y. left_of y v) (still_then v e) in omega arith

  -- a VCPU with budget left had more than one tick of it, or the event was refused
  stays : (v : ℕ) → (left_of (step T.facts b (Use v 1)).board v ≡ 0 → ⊥) → Mirrors T x (step T.facts b (Use v 1)).board k
  stays v nz = at_fault (use_fault T.facts b v 1) refl
    where
      at_fault : (y : Fault) → use_fault T.facts b v 1 ≡ y → Mirrors T x (step T.facts b (Use v 1)).board k
      at_fault (Ok tt) e =
          let q = left_then v e in
          tick_mirrors m f s g v (⊎_elim (λ z. ltb-true 1 (left_of b v) z) (λ z. let l = ltb-false 1 (left_of b v) z in absurd (nz (q ∙ omega arith))) (bool_cases (ltb 1 (left_of b v))))
      at_fault (Err r) e = subst (λ y. Mirrors T x y k) (sym (still_then v e)) m

  -- the sets are right either way
  use_kept : (v : ℕ) {k' : List ℕ} → AfterUseOn T.facts.choice (step T.facts b (Use v 1)).board k k' v → Mirrors T x (step T.facts b (Use v 1)).board k'
  use_kept v {k'} h =
      ⊎_elim
      (λ z. use_mirrors m f s g v 1 (put_supply_of (h.put z)))
      (λ nz. subst (Mirrors T x (step T.facts b (Use v 1)).board) (sym (h.kept nz)) (stays v nz))
      (same_or_not (left_of (step T.facts b (Use v 1)).board v) 0)

-- WHAT HOLDS between the parts of a tick
module _ {p : Policy} {o : OverrunChoice} {t x ls os : List ℕ} {ss : List Bool} {hs ws k : List ℕ} (g : Going p o t x ls os ss hs ws k) where
  pub going_marked : Marked (facts_in p o t) (board_of ls os ss hs ws)
  unfolding timing_in
  going_marked = good_marked (facts_in p o t) (board_of ls os ss hs ws) g.running.is_good

  -- of whatever overruns and waits
  pub going_marked_any : (os' ws' : List ℕ) → Marked (facts_in p o t) (board_of ls os' ss hs ws')
  unfolding must_stop holds_global
  going_marked_any os' ws' = going_marked

  -- a VCPU with budget left is in the plan
  pub going_vcpu : (v : ℕ) → InV v → 1 < get_or ls (v - 1) 0 → has_vcpu t v ≡ true
  unfolding timing_in facts_in
  going_vcpu v i l = ⊎_elim (λ e. e) (λ e. absurd (none e)) (bool_cases (has_vcpu t v))
    where
      none : has_vcpu t v ≡ false → ⊥
      none e =
          let q = ((good_sound (facts_in p o t) (board_of ls os ss hs ws) g.running.is_good).budgets v i).left_le in
          let z = g.paced.fair.no_budget v e in omega arith

  -- a tick that is not refused has no fault
  pub going_uses : (v : ℕ) → Uses (facts_in p o t) (board_of ls os ss hs ws) v → use_fault_at o t ls os ss hs v 1 ≡ Ok tt
  unfolding step use_fault facts_in supply holds_global
  going_uses v h = let b = board_of ls os ss hs ws in no_fault b (used (facts_in p o t) b v 1) (use_fault (facts_in p o t) b v 1) h

  -- whether the tasks of v hold a global mutex
  pub going_holds : (v : ℕ) → InV v → in_set (get_or k at_holding 0) v ≡ walks.holds_global t hs v
  unfolding timing_in facts_in holds_global
  going_holds v i = g.mirrors.holding v i

  -- holds after a tick of v
  pub use_going : (v : ℕ) {ls' os' : List ℕ} {ss' : List Bool} {k' : List ℕ} →
      board_of ls' os' ss' hs ws ≡ (step (facts_in p o t) (board_of ls os ss hs ws) (Use v 1)).board → AfterUse o ls' os' ss' k k' v →
      Going p o t x ls' os' ss' hs ws k'
  unfolding timing_in facts_in board_by
  use_going v {ls'} {os'} {ss'} {k'} e h =
      let T = timing_by p o t x in
      let F = facts_in p o t in
      let b = board_of ls os ss hs ws in
      let r = g.running in
      record {
        paired = g.paired;
        ordered = g.ordered;
        paced = g.paced;
        running = subst (λ d. Running T (board_of ls' os' ss' hs ws) d) (sym (use_done h))
            (subst (λ c. Running T c (done_in k)) (sym e) (still_running g.paced r (Use v 1 ∷ []) (same_in_step (use_locks F b v 1) r.in_step)));
        mirrors = subst (λ c. Mirrors T x c k') (sym e) (use_kept g.mirrors g.paced.fair r.shaped r.is_good v (subst (λ c. AfterUseOn o c k k' v) e h));
      }

  -- with its line
  module _ (v : ℕ) {ls' os' : List ℕ} {ss' : List Bool} {y : BoardAnswer}
      (e : record { answer = y; board = board_of ls' os' ss' hs ws } ≡ step (facts_in p o t) (board_of ls os ss hs ws) (Use v 1)) (on : Bool) (i : ℕ) (a : List ℕ) (at : ℕ) where
    pub use_room : RoomAt on (lines_at (facts_in p o t) i (board_of ls os ss hs ws) (Use v 1 ∷ [])) a at → RoomAt on (event_line i (Use v 1) y) a at
    use_room h = room_one (facts_in p o t) on i (run_in ls os ss hs ws k) (run_in ls' os' ss' hs ws k) (Use v 1) e a at h

    -- all that holds then
    pub use_result : {k' : List ℕ} → AfterUse o ls' os' ss' k k' v → {b : List ℕ} {w : ℕ} → w ≡ told_to on (event_line i (Use v 1) y) at → b ≡ told_at on (event_line i (Use v 1) y) a at →
        Going p o t x ls' os' ss' hs ws k'
        × (Made (facts_in p o t) on i (run_in ls os ss hs ws k) (run_in ls' os' ss' hs ws k') (Use v 1 ∷ []) a at b w × (done_in k' ≡ done_in k))
    use_result {k'} u q z = (
      use_going v (ap (λ (r : Outcome). r.board) e) u,
      (made_one (facts_in p o t) on i (run_in ls os ss hs ws k) (run_in ls' os' ss' hs ws k') (Use v 1) e refl z q, use_done u),
    )

    -- where more than one tick was left of the budget nothing is to be written
    pub within_result : 1 < get_or ls (v - 1) 0 → {b : List ℕ} {w : ℕ} → w ≡ told_to on (event_line i (Use v 1) y) at → b ≡ told_at on (event_line i (Use v 1) y) a at →
        Going p o t x ls' os' ss' hs ws k
        × (Made (facts_in p o t) on i (run_in ls os ss hs ws k) (run_in ls' os' ss' hs ws k) (Use v 1 ∷ []) a at b w × (done_in k ≡ done_in k))
    unfolding timing_in
    within_result l q z = use_result (record { kept = λ nz. refl; put = λ n. absurd (some n) }) q z
      where
        some : get_or ls' (v - 1) 0 ≡ 0 → ⊥
        some n = stands g.mirrors g.paced.fair g.running.shaped g.running.is_good v l (sym (ap (λ (r : Outcome). left_of r.board v) e) ∙ n)

-- A TICK OF v IS USED, and told
pub record UsedOne (p : Policy) (o : OverrunChoice) (t x ls os : List ℕ) (ss : List Bool) (hs ws k : List ℕ) (on : Bool) (i v : ℕ) (a : List ℕ) (at : ℕ) (ls' os' : List ℕ) (ss' : List Bool) (k' b : List ℕ)
    (w : ℕ) : Type 0 where
  pub going : Going p o t x ls' os' ss' hs ws k'
  pub made : Made (facts_in p o t) on i (run_in ls os ss hs ws k) (run_in ls' os' ss' hs ws k') (Use v 1 ∷ []) a at b w
  pub done_same : done_in k' ≡ done_in k

-- by either way that leads to it
pub used_one : (p : Policy) (o : OverrunChoice) (t x ls os : List ℕ) (ss : List Bool) (hs ws k : List ℕ) (on : Bool) (i v : ℕ) (a : List ℕ) (at : ℕ) {ls₁ os₁ : List ℕ} {ss₁ : List Bool} {k₁ b₁ : List ℕ} {w₁ : ℕ} →
    Going p o t x ls₁ os₁ ss₁ hs ws k₁ × (Made (facts_in p o t) on i (run_in ls os ss hs ws k) (run_in ls₁ os₁ ss₁ hs ws k₁) (Use v 1 ∷ []) a at b₁ w₁ × (done_in k₁ ≡ done_in k)) →
    {ls' os' : List ℕ} {ss' : List Bool} {k' b : List ℕ} {w : ℕ} → ls' ≡ ls₁ → os' ≡ os₁ → ss' ≡ ss₁ → k' ≡ k₁ → b ≡ b₁ → w ≡ w₁ →
    UsedOne p o t x ls os ss hs ws k on i v a at ls' os' ss' k' b w
used_one p o t x ls os ss hs ws k on i v a at u e₁ e₂ e₃ e₄ e₅ e₆ = rw (e₁, e₂, e₃, e₄, e₅, e₆) (record { going = u.0; made = u.1.0; done_same = u.1.1 })
