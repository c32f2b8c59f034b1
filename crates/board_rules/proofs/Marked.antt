-- A board on which a mark stands where it is due stays one, event after event; and what a view says of names and mutexes.
use Rattle.std.specs.Prelude.{ℕ, suc, ◌-◌, ◌<◌, ◌≡◌, List, Bool, true, false, ◌&&◌, eqb, ltb, get_or, Ok, Err}
use Rattle.std.proofs.Common.{sym, ap, subst, ◌∙◌, arith}
use borrow.Author.Tests.{eqb-true, ltb-true}
use Rattle.std.specs.Prelude.{if◌then◌else◌}
use Rattle.laws.specs.Choice.{when}
use Rattle.laws.specs.RangeLaws.{list_at}
use Rattle.laws.specs.BoolLaws.{both_left, both_right, is_false}
use Rattle.plan.specs.Limits.{max_v}
use Rattle.plan.proofs.RuleLaws.{in_range_law}
use Rattle.plan.specs.declared.Policy.{Policy}
use Rattle.plan.specs.declared.OverrunChoice.{OverrunChoice}
use Rattle.plan.specs.Refusals.{Fault}
use Rattle.board_seats.specs.Seats as seats
use Rattle.board_seats.specs.Seats.{is_v, is_m, owner_at, global_owner}
use Rattle.board_rules.specs.Facts.{Facts}
use Rattle.board_rules.specs.View.{facts_in}
use Rattle.board_rules.specs.Names.{InV}
use Rattle.board_rules.specs.Board.{Board, Event, Ask, Free, Use, Top, Show, Outcome, left_of, must_stop, fresh, may_have, asked, freed, freed_global, freed_local, used, topped, shown, answered, ask_fault, free_fault, use_fault, top_fault, show_fault, step}
use Rattle.board_rules.specs.Settle.{Marked, due, settled_marked}

-- A FRESH BOARD, where a VCPU of the plan has a budget
pub fresh_left : (F : Facts) (v : ℕ) → InV v → left_of (fresh F) v ≡ F.budget v
unfolding fresh
fresh_left F v i = list_at max_v (v - 1) F.budget 0 (omega arith) ∙ ap F.budget {x = suc (v - 1)} {y = v} (omega arith)

pub fresh_marked : (F : Facts) → ((v : ℕ) → F.has_vcpu v ≡ true → 0 < F.budget v) → Marked F (fresh F)
fresh_marked F f v i e =
    is_false (must_stop F (fresh F) v) (λ t.
    let d = due F (fresh F) v t in
    let h = f v d.vcpu in
    let z = sym d.left ∙ fresh_left F v i in omega arith)

-- ANY EVENT: one that is complete settles the board, a refused one and `show` leave it
module _ (F : Facts) (b : Board) (k : Marked F b) where
  marked_answered : (f : Fault) (o : Outcome) → Marked F o.board → Marked F (answered b f o).board
  marked_answered (Ok tt) o h = h
  marked_answered (Err r) o h = k

  marked_if : (c : Bool) (x y : Outcome) → Marked F x.board → Marked F y.board → Marked F (if c then x else y).board
  marked_if true x y h l = h
  marked_if false x y h l = l

  pub step_marked : (e : Event) → Marked F (step F b e).board
  unfolding step asked freed freed_global freed_local used topped
  step_marked (Ask v n m) =
      marked_answered (ask_fault F b v n m) (asked F b v n m) (marked_if (may_have F b v n m) _ _ (settled_marked F _) (settled_marked F _))
  step_marked (Free v n m) =
      marked_answered (free_fault F b v n m) (freed F b v m) (marked_if (F.global m) _ _ (settled_marked F _) (settled_marked F _))
  step_marked (Use v t) = marked_answered (use_fault F b v t) (used F b v t) (settled_marked F _)
  step_marked (Top v) = marked_answered (top_fault F v) (topped F b v) (settled_marked F _)
  step_marked (Show v n) = marked_answered (show_fault F v n) (shown F b v n) k

-- WHAT A VIEW SAYS
module _ (p : Policy) (o : OverrunChoice) (t : List ℕ) where
  -- a VCPU of the plan has a budget
  pub view_budget : (v : ℕ) → (facts_in p o t).has_vcpu v ≡ true → 0 < (facts_in p o t).budget v
  unfolding facts_in when
  view_budget v e = rw (both_left (is_v v) (ltb 0 (get_or t (v - 1) 0)) e) (ltb-true 0 (get_or t (v - 1) 0) (both_right (is_v v) (ltb 0 (get_or t (v - 1) 0)) e))

  pub view_marked : (b : Board) → b ≡ fresh (facts_in p o t) → Marked (facts_in p o t) b
  view_marked b e = subst (Marked (facts_in p o t)) (sym e) (fresh_marked (facts_in p o t) view_budget)

  -- a local mutex is not global
  pub view_local : (v m : ℕ) → (facts_in p o t).local_to v m ≡ true → (facts_in p o t).global m ≡ false
  unfolding facts_in
  view_local v m e =
      let i = in_range_law v 1 16 (both_left (is_v v) (is_m m) (both_left (is_v v && is_m m) (eqb (owner_at t m) v) e)) in
      let own = eqb-true (owner_at t m) v (both_right (is_v v && is_m m) (eqb (owner_at t m) v) e) in
      is_false (seats.is_global t m) (λ q. let z = eqb-true (owner_at t m) global_owner (both_right (is_m m) (eqb (owner_at t m) global_owner) q) in omega (arith, i.1))
