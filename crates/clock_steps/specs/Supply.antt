-- What is left of a VCPU's supply: an ask lowers none, and a use of another VCPU leaves it.
use Rattle.std.specs.Prelude.{ℕ, ◌-◌, ◌≤◌, ◌≡◌, refl, Bool, true, false, Ok, Err}
use Rattle.std.proofs.Common.{sym, ◌∙◌, ⊎_elim, arith, ne_eqb}
use Rattle.std.proofs.Math.Path.{ap}
use Rattle.std.proofs.lemmas.Bool.{eqb-false}
use Rattle.std.proofs.Math.ListN.{get_or}
use Rattle.laws.specs.BoolLaws.{clash, bool_cases}
use Rattle.plan.specs.declared.OverrunChoice.{OverrunChoice}
use Rattle.plan.specs.declared.OverrunChoice.TheVariants.{WithOverrun, WithoutOverrun}
use Rattle.plan.specs.Refusals.{Fault}
use Rattle.board_rules.specs.Facts.{Facts}
use Rattle.board_rules.specs.declared.Board.{Board}
use Rattle.board_rules.specs.declared.Event.TheVariants.{Ask, Use}
use Rattle.board_rules.specs.Board.{seat, left_of, over_of, is_stopped, holder_of, holds_global, reserve, supply, is_asleep, settled, with_holder, with_wait, may_have, ask_fault, step, good}
use Rattle.board_keeps.specs.Fair.{Fair, InV, sheet_m}
use Rattle.board_keeps.specs.Shaped.{Shaped}
use Rattle.board_keeps.specs.Good.{good_marked}
use Rattle.board_rules.specs.Names.{seat_some}
use Rattle.board_rules.specs.Change.{holder_else}
use Rattle.board_keeps.specs.Faults.{ask_clear, may_free}
use Rattle.board_rules.specs.Settle.{GlobalHold, global_hold, hold_global, still_not_due, settled_stopped, mark_stays}
use Rattle.board_keeps.proofs.MarkLaws.{own_mark}
use Rattle.clock_steps.specs.Taken.{ask_granted, ask_waits}
use Rattle.clock_steps.specs.Quiet.{same_global, use_locks, use_left, use_over}

-- who holds a global mutex has no less of the overrun
reserve_rises : (c : OverrunChoice) (h h' s : Bool) (o : ℕ) → (h ≡ true → h' ≡ true) → reserve c h s o ≤ reserve c h' s o
reserve_rises WithoutOverrun h h' s o w = omega arith
reserve_rises WithOverrun false h' s o w = omega arith
reserve_rises WithOverrun true true s o w = omega arith
reserve_rises WithOverrun true false s o w = absurd (clash (w refl) refl)

module _ (F : Facts) (b b' : Board) (v : ℕ) (l : left_of b' v ≡ left_of b v) (o : over_of b' v ≡ over_of b v) (s : is_stopped b' v ≡ is_stopped b v) where
  -- a VCPU that keeps its budget, its overrun and its mark, and holds a global mutex if it held one
  pub supply_rises : (holds_global F b v ≡ true → holds_global F b' v ≡ true) → supply F b v ≤ supply F b' v
  unfolding supply
  supply_rises h =
      let r = reserve_rises F.choice (holds_global F b v) (holds_global F b' v) (is_stopped b v) (over_of b v) h in
      rw (l, o, s) (omega arith)

  -- and just if it held one
  pub supply_same : holds_global F b' v ≡ holds_global F b v → supply F b' v ≡ supply F b v
  unfolding supply
  supply_same h = rw (l, o, s, h)

-- awake with no less supply
pub awake_still : (F : Facts) (b b' : Board) (v : ℕ) → supply F b v ≤ supply F b' v → is_asleep F b v ≡ false → is_asleep F b' v ≡ false
awake_still F b b' v h a = let nz = eqb-false (supply F b v) 0 a in ne_eqb (supply F b' v) 0 (λ z. nz (omega arith))

module _ {F : Facts} {b : Board} (f : Fair F) (s : Shaped b) (g : good F b ≡ true) where
  -- a change of locks alone that takes no global mutex from w
  locks_supply : (b' : Board) → b'.left ≡ b.left → b'.over ≡ b.over → b'.stopped ≡ b.stopped → (w : ℕ) → InV w →
      (GlobalHold F (holder_of b) w → GlobalHold F (holder_of b') w) → supply F b w ≤ supply F (settled F b') w
  locks_supply b' l o t w i h =
      supply_rises F b (settled F b') w (unfold settled in ap (λ x. get_or x (w - 1) 0) l) (unfold settled in ap (λ x. get_or x (w - 1) 0) o)
      (settled_stopped F b' w i
      ∙ mark_stays F b' w (λ e. still_not_due F b b' w (ap (λ x. get_or x (w - 1) 0) l) h (good_marked F b g w i (sym (ap (λ x. get_or x (w - 1) false) t) ∙ e)))
      ∙ ap (λ x. get_or x (w - 1) false) t)
      (λ e. unfold settled holds_global in hold_global F b' w (h (global_hold F b w e)))

  -- `ask` lowers no supply
  pub ask_supply : (v n m : ℕ) (w : ℕ) → InV w → supply F b w ≤ supply F (step F b (Ask v n m)).board w
  ask_supply v n m w i = at_fault (ask_fault F b v n m) refl
    where
      at_fault : (x : Fault) → ask_fault F b v n m ≡ x → supply F b w ≤ supply F (step F b (Ask v n m)).board w
      at_fault (Ok tt) e =
          let c = ask_clear F b v n m e in
          let k = sheet_m f v n m c.listed in
          ⊎_elim
          (λ h.
          let z = may_free f b v n m c.listed k (c.no_hold m k) h in
          rw (ask_granted F b v n m e h)
          (locks_supply (with_holder b m (seat v n)) refl refl refl w i
          (λ r. record {
            m = r.m;
            n = r.n;
            m_in = r.m_in;
            n_in = r.n_in;
            is_global_law = r.is_global_law;
            held = holder_else b m (seat v n) r.m k r.m_in (λ q. seat_some w r.n r.n_in (sym r.held ∙ ap (holder_of b) q ∙ z)) ∙ r.held;
          })))
          (λ h. rw (ask_waits F b v n m e h) (locks_supply (with_wait b v n m) refl refl refl w i (λ r. r)))
          (bool_cases (may_have F b v n m))
      at_fault (Err r) e = unfold step in rw e (omega arith)

  -- `use` of a VCPU leaves the supply and the budget of the others
  pub use_supply : (v t : ℕ) (w : ℕ) → InV w → (w ≡ v → ⊥) → supply F (step F b (Use v t)).board w ≡ supply F b w
  use_supply v t w j ne =
      supply_same F b (step F b (Use v t)).board w (use_left f b v t w j ne) (use_over f b v t w j ne) (own_mark f s g (Use v t) w j ne) (same_global F w (use_locks F b v t))
