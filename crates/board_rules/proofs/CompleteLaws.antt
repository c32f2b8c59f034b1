-- An event that is completed for its own VCPU alone is complete, where no mark is due and lacking; by what a view says.
use Rattle.std.specs.Prelude.{ℕ, ◌-◌, ◌≡◌, List, true, length, set, Ok}
use Rattle.std.proofs.Common.{ap, sym, ◌∙◌, eqb-true, length-set}
use Rattle.std.proofs.Math.Bool.{false}
use Rattle.plan.specs.Limits.{max_v}
use Rattle.plan.specs.JudgeLaws.{clear_test, clear_rest}
use Rattle.plan.specs.declared.Policy.{Policy}
use Rattle.plan.specs.declared.OverrunChoice.{OverrunChoice}
use Rattle.plan.specs.declared.Refusal.TheVariants.{Unknown, NotHolder}
use Rattle.board_seats.specs.Seats.{is_global, holds_it}
use Rattle.board_reserves.specs.Supplies.{known, free_fault_at}
use Rattle.board_reserves.specs.SupplyLaws.{known_range}
use Rattle.board_turns.specs.Turns.{may_have_at}
use Rattle.board_rules.specs.Facts.{Facts}
use Rattle.board_rules.specs.View.{facts_in}
use Rattle.board_rules.specs.Names.{InV, InM, in_v}
use Rattle.board_rules.specs.Board.{Board, BoardAnswer, Granted, Waits, Freed, seat, left_of, over_of, holder_of, with_left, with_stopped, with_holder, with_wait, settled, passes, complete, may_have, asked, handed_to, granted_local, next_global, next_local, freed_global, freed_local, left_answer, used, topped}
use Rattle.board_rules.specs.Settle.{Marked, settled_at, complete_at}
use Rattle.board_rules.specs.SettleEvents.{OwnHeld, own_held, settle_global, settle_local, settle_use, settled_still, wait_marked, grant_marked, top_marked}
use Rattle.board_rules.proofs.Marked.{view_local, view_budget}

complete_one : (F : Facts) (a : BoardAnswer) (b : Board) (v : ℕ) → settled F b ≡ settled_at F b v → complete_at F a b v ≡ complete F a b
complete_one F a b v e = ap (λ c. record { answer = a; board = c }) (sym e)

-- an event after which no mark is due
complete_still : (F : Facts) (a : BoardAnswer) (b : Board) → length b.stopped ≡ max_v → Marked F b → record { answer = a; board = b } ≡ complete F a b
complete_still F a b s k = ap (λ c. record { answer = a; board = c }) (sym (settled_still F b s k))

module _ (p : Policy) (o : OverrunChoice) (t : List ℕ) (b : Board) (s : length b.stopped ≡ max_v) (k : Marked (facts_in p o t) b) where
  pub complete_use : (v x : ℕ) → InV v →
      complete_at (facts_in p o t) (left_answer (with_left b v (left_of b v - x) (over_of b v - (x - left_of b v))) v) (with_left b v (left_of b v - x) (over_of b v - (x - left_of b v))) v
      ≡ used (facts_in p o t) b v x
  unfolding used
  complete_use v x i = complete_one (facts_in p o t) _ _ v (settle_use (facts_in p o t) b s k v _ _ i)

  -- after a `top` no mark is due
  pub complete_top : (v : ℕ) → InV v → length b.left ≡ max_v →
      (let c = with_stopped (with_left b v ((facts_in p o t).budget v) ((facts_in p o t).overrun v)) (set b.stopped (v - 1) false) in record { answer = left_answer c v; board = c })
      ≡ topped (facts_in p o t) b v
  unfolding topped
  complete_top v i n =
      complete_still (facts_in p o t) _ _ (length-set b.stopped (v - 1) false ∙ s) (top_marked (facts_in p o t) b k (view_budget p o t) v _ i n)

  -- an `ask` leaves every mark
  pub complete_grant : (v n m : ℕ) → InM m → may_have_at t b.holder v n m ≡ true →
      record { answer = Granted; board = with_holder b m (seat v n) } ≡ asked (facts_in p o t) b v n m
  unfolding asked may_have passes facts_in
  complete_grant v n m j e = rw e (complete_still (facts_in p o t) Granted _ s (grant_marked (facts_in p o t) b k v n m j e))

  pub complete_wait : (v n m : ℕ) → may_have_at t b.holder v n m ≡ false →
      record { answer = Waits; board = with_wait b v n m } ≡ asked (facts_in p o t) b v n m
  unfolding asked may_have passes facts_in
  complete_wait v n m e = rw e (complete_still (facts_in p o t) Waits _ s (wait_marked (facts_in p o t) b k v n m))

  pub complete_global : (v m : ℕ) → InV v → InM m → OwnHeld b v m →
      complete_at (facts_in p o t) (Freed (next_global b m)) (handed_to b m (next_global b m)) v ≡ freed_global (facts_in p o t) b m
  unfolding freed_global
  complete_global v m i j h = complete_one (facts_in p o t) _ _ v (settle_global (facts_in p o t) b s k v m i j h (next_global b m))

  pub complete_local : (v m : ℕ) → InV v → InM m → is_global t m ≡ false →
      (let c = with_holder b m 0 in complete_at (facts_in p o t) (Freed (next_local (facts_in p o t) c v)) (granted_local c (next_local (facts_in p o t) c v)) v)
      ≡ freed_local (facts_in p o t) b v m
  unfolding freed_local
  complete_local v m i j e = complete_one (facts_in p o t) _ _ v (settle_local (facts_in p o t) b s k v m i j (unfold facts_in in e) (view_local p o t v))

-- WHO FREES a mutex holds it
pub free_own : (t : List ℕ) (b : Board) (v n m : ℕ) → free_fault_at t b.holder v n m ≡ Ok tt → OwnHeld b v m
free_own t b v n m e =
    let r = known_range t v n m (clear_test (known t v n m) Unknown _ e) in
    own_held b v n m (in_v r.low_v r.high_v) (record { from = r.low_n; to = r.high_n })
    (eqb-true (holder_of b m) (seat v n) (clear_test (holds_it b.holder v n m) NotHolder (Ok tt) (clear_rest (known t v n m) Unknown _ e)))
