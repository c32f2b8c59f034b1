-- What an event writes into lent lists is the board after it, where no mark was due and lacking.
use Rattle.std.specs.Prelude.{ℕ, ◌-◌, ◌<◌, ◌≡◌, refl, List, Bool, true, false, ◌||◌, ◌&&◌, not, eqb, get_or, set, length, Ok}
use Rattle.std.proofs.Math.Path.{sym}
use Rattle.std.proofs.Common.{ap, ap₂, ◌∙◌, arith, le-leb, ne_eqb, get_or-set_same}
use Rattle.std.proofs.Math.Bool.{or-false}
use Rattle.std.proofs.lemmas.List.{set-get_or}
use Rattle.laws.specs.BoolLaws.{miss_right}
use Rattle.plan.specs.Limits.{max_v}
use Rattle.plan.specs.declared.Policy.{Policy}
use Rattle.plan.specs.declared.OverrunChoice.{OverrunChoice}
use Rattle.plan.specs.JudgeLaws.{clear_test}
use Rattle.board_seats.specs.Seats.{is_global, budget_of, overrun_of, has_vcpu}
use Rattle.board_reserves.specs.Supplies.{next_mark, mark_by, budget_after, overrun_after, ask_fault_at, under_p, reserve, idle, use_fault_at}
use Rattle.board_reserves.specs.SupplyLaws.{Known, known_range, vcpu_range, unless_yes, fits_left, mark_known}
use Rattle.board_turns.specs.Turns.{may_have_at}
use Rattle.board_rules.specs.Facts.{Facts}
use Rattle.board_rules.specs.View.{facts_in}
use Rattle.board_rules.specs.Names.{InV, InM, in_m, in_v}
use Rattle.board_rules.specs.Board.{Board, Ask, answered, ask_fault, is_busy, supply, passes, may_have, step, Next, Left, Granted, Waits, Freed, seat, wait_of, next_of, holds_global, must_stop, with_left, with_stopped, handed_to, granted_local, next_global, next_local, used, topped, asked, freed_global, freed_local, Use}
use Rattle.board_rules.specs.BoardLaws.{settled_in, next_some, use_by}
use Rattle.plan.specs.declared.Refusal.TheVariants.{Unknown}
use Rattle.board_walks.specs.Walks as walks
use Rattle.board_rules.specs.Settle.{Marked, settled_at, complete_at}
use Rattle.board_rules.specs.SettleEvents.{OwnHeld}
use Rattle.board_rules.proofs.CompleteLaws.{complete_use, complete_top, complete_grant, complete_wait, complete_global, complete_local}
use Rattle.board_rules.specs.Lent.{board_of, outcome_of}

-- whether a mark is due does not hang on the overruns left, nor on the waits
pub marked_lent : (F : Facts) (b : Board) → Marked F b → (os ws : List ℕ) → Marked F (board_of b.left os b.stopped b.holder ws)
unfolding must_stop holds_global
marked_lent F b k os ws = k

-- the mark of v, written
mark_told : (p : Policy) (c : OverrunChoice) (t : List ℕ) (b : Board) (v : ℕ) {s : List Bool} →
    s ≡ set b.stopped (v - 1) (next_mark p t b.left b.stopped b.holder v) → with_stopped b s ≡ settled_at (facts_in p c t) b v
mark_told p c t b v e = ap (with_stopped b) e ∙ sym (settled_in p c t b v)

-- the figures of v, written, are what is answered
left_told : (l o : List ℕ) (v x y : ℕ) → InV v → length l ≡ max_v → length o ≡ max_v →
    Left x y ≡ Left (get_or (set l (v - 1) x) (v - 1) 0) (get_or (set o (v - 1) y) (v - 1) 0)
left_told l o v x y i n m =
    sym (ap₂ Left (get_or-set_same l (v - 1) x 0 (let a = i.from in let b = i.to in omega (arith, n))) (get_or-set_same o (v - 1) y 0 (let a = i.from in let b = i.to in omega (arith, m))))

-- whether a task may have m, and whether an ask has a fault, as the lists say it
pub may_in : (p : Policy) (c : OverrunChoice) (t : List ℕ) (b : Board) (v n m : ℕ) → may_have_at t b.holder v n m ≡ may_have (facts_in p c t) b v n m
unfolding may_have passes facts_in
may_in p c t b v n m = refl

pub fault_in : (p : Policy) (c : OverrunChoice) (t : List ℕ) (b : Board) (v n m : ℕ) →
    ask_fault_at c t b.left b.over b.stopped b.holder b.waits v n m ≡ ask_fault (facts_in p c t) b v n m
unfolding ask_fault facts_in supply holds_global is_busy
fault_in p c t b v n m = refl

module _ (p : Policy) (c : OverrunChoice) (t l o : List ℕ) (s : List Bool) (h w : List ℕ) (n : length s ≡ max_v) (k : Marked (facts_in p c t) (board_of l o s h w)) where
  -- `use v x`
  pub use_told : (v x i : ℕ) → InV v → length l ≡ max_v → length o ≡ max_v → i ≡ v - 1 → {b d : ℕ} → b ≡ budget_after l v x → d ≡ overrun_after l o v x →
      {s' : List Bool} → s' ≡ set s (v - 1) (next_mark p t (set l i b) s h v) →
      outcome_of (Left b d) (board_of (set l i b) (set o i d) s' h w) ≡ used (facts_in p c t) (board_of l o s h w) v x
  use_told v x i iv nl nd e eb ed es =
      rw (es, eb, ed, e)
      (ap₂ outcome_of (left_told l o v _ _ iv nl nd) (mark_told p c t (with_left (board_of l o s h w) v (budget_after l v x) (overrun_after l o v x)) v refl)
      ∙ complete_use p c t (board_of l o s h w) n k v x iv)

  -- `use v 1`, where more than one tick is left of the budget: no mark changes, nor does the overrun left
  module _ (v i : ℕ) (hv : has_vcpu t v ≡ true) (nl : length l ≡ max_v) (nd : length o ≡ max_v) (e : i ≡ v - 1) (more : 1 < get_or l (v - 1) 0) where
    -- the budget left, by its place
    left_by : get_or l i 0 ≡ get_or l (v - 1) 0
    left_by = ap (λ j. get_or l j 0) e

    -- the VCPU stands above 0 still
    stands : eqb (get_or (set l i (get_or l i 0 - 1)) (v - 1) 0) 0 ≡ false
    stands =
        let r = vcpu_range t v hv in
        let q : get_or (set l i (get_or l i 0 - 1)) (v - 1) 0 ≡ get_or l i 0 - 1 =
        ap (λ j. get_or (set l j (get_or l i 0 - 1)) (v - 1) 0) e ∙ get_or-set_same l (v - 1) (get_or l i 0 - 1) 0 (omega (arith, nl)) in
        let lb = left_by in
        ne_eqb (get_or (set l i (get_or l i 0 - 1)) (v - 1) 0) 0 (λ z. omega arith)

    -- so its mark stays
    mark_still : s ≡ set s (v - 1) (next_mark p t (set l i (get_or l i 0 - 1)) s h v)
    mark_still =
        let no-idle : idle t (set l i (get_or l i 0 - 1)) h v ≡ false =
        miss_right (has_vcpu t v) _ (ap (λ x. x && not (walks.holds_global t h v)) stands) in
        sym (set-get_or s (v - 1) false)
        ∙ ap (set s (v - 1)) (sym (ap (λ x. get_or s (v - 1) false || x) (miss_right (under_p p) _ no-idle) ∙ or-false (get_or s (v - 1) false)))

    -- and the event is not refused
    use_clear : use_fault_at c t l o s h v 1 ≡ Ok tt
    use_clear =
        sym (unless_yes Unknown _ hv)
        ∙ sym (fits_left (get_or l (v - 1) 0) (reserve c (walks.holds_global t h v) (get_or s (v - 1) false) (get_or o (v - 1) 0)) 1 (le-leb 1 (get_or l (v - 1) 0) (omega arith)))

    pub within_told : outcome_of (Left (get_or l i 0 - 1) (get_or o i 0)) (board_of (set l i (get_or l i 0 - 1)) o s h w) ≡ step (facts_in p c t) (board_of l o s h w) (Use v 1)
    within_told =
        let r = vcpu_range t v hv in
        ap (λ y. outcome_of (Left (get_or l i 0 - 1) (get_or o i 0)) (board_of (set l i (get_or l i 0 - 1)) y s h w)) (sym (set-get_or o i 0))
        ∙ use_told v 1 i (in_v r.0 r.1) nl nd e (ap (λ x. x - 1) left_by) (over_still ∙ ap (λ j. get_or o j 0 - (1 - get_or l (v - 1) 0)) e) mark_still
        ∙ sym (use_by p c t (board_of l o s h w) v 1 use_clear)
      where
        over_still : get_or o i 0 ≡ get_or o i 0 - (1 - get_or l (v - 1) 0)
        over_still = omega arith

  -- `use v 1` that has no fault: the VCPU is in the plan, and its mark is settled by what is known of who holds a global mutex
  module _ (v i : ℕ) (f : use_fault_at c t l o s h v 1 ≡ Ok tt) where
    sure_vcpu : has_vcpu t v ≡ true
    sure_vcpu = clear_test _ _ _ f

    pub sure_used : length l ≡ max_v → length o ≡ max_v → i ≡ v - 1 → {b d : ℕ} → b ≡ budget_after l v 1 → d ≡ overrun_after l o v 1 →
        {held mark : Bool} → held ≡ walks.holds_global t h v → mark ≡ mark_by p (set l i b) s v held →
        outcome_of (Left b d) (board_of (set l i b) (set o i d) (set s i mark) h w) ≡ step (facts_in p c t) (board_of l o s h w) (Use v 1)
    sure_used nl nd e {b} eb ed eh em =
        let r = vcpu_range t v sure_vcpu in
        use_told v 1 i (in_v r.0 r.1) nl nd e eb ed (ap₂ (set s) e (em ∙ mark_known p t (set l i b) s h v sure_vcpu eh))
        ∙ sym (use_by p c t (board_of l o s h w) v 1 f)

  -- `top v`
  pub top_told : (v i : ℕ) → InV v → length l ≡ max_v → length o ≡ max_v → i ≡ v - 1 → {b d : ℕ} → b ≡ budget_of t v → d ≡ overrun_of t v →
      outcome_of (Left b d) (board_of (set l i b) (set o i d) (set s i false) h w) ≡ topped (facts_in p c t) (board_of l o s h w) v
  unfolding facts_in
  top_told v i iv nl nd e eb ed =
      rw (eb, ed, e)
      (ap (λ a. outcome_of a (board_of (set l (v - 1) (budget_of t v)) (set o (v - 1) (overrun_of t v)) (set s (v - 1) false) h w)) (left_told l o v _ _ iv nl nd)
      ∙ complete_top p c t (board_of l o s h w) n k v iv nl)

  -- `ask v j m`
  pub grant_told : (v j m : ℕ) → InM m → may_have_at t h v j m ≡ true → {x : ℕ} → x ≡ seat v j → {h' : List ℕ} → h' ≡ set h (m - 1) x →
      outcome_of Granted (board_of l o s h' w) ≡ asked (facts_in p c t) (board_of l o s h w) v j m
  grant_told v j m im e ex eh = rw (eh, ex) (complete_grant p c t (board_of l o s h w) n k v j m im e)

  pub wait_told : (v j m : ℕ) → may_have_at t h v j m ≡ false → {w' : List ℕ} → w' ≡ set w (seat v j - 1) m →
      outcome_of Waits (board_of l o s h w') ≡ asked (facts_in p c t) (board_of l o s h w) v j m
  wait_told v j m e ew = rw ew (complete_wait p c t (board_of l o s h w) n k v j m e)

  -- `ask v j m` that has no fault: the names in it are in range, and it is granted or waits by whether the task may have m
  module _ (v j m : ℕ) (f : ask_fault (facts_in p c t) (board_of l o s h w) v j m ≡ Ok tt) where
    pub sure_range : Known v j m
    sure_range = known_range t v j m (unfold ask_fault facts_in in clear_test _ _ _ f)

    sure_asked : asked (facts_in p c t) (board_of l o s h w) v j m ≡ step (facts_in p c t) (board_of l o s h w) (Ask v j m)
    unfolding step
    sure_asked = sym (ap (λ y. answered (board_of l o s h w) y (asked (facts_in p c t) (board_of l o s h w) v j m)) f)

    module _ {may : Bool} (a : may ≡ may_have (facts_in p c t) (board_of l o s h w) v j m) where
      pub sure_granted : may ≡ true → {x : ℕ} → x ≡ seat v j → {h' : List ℕ} → h' ≡ set h (m - 1) x →
          outcome_of Granted (board_of l o s h' w) ≡ step (facts_in p c t) (board_of l o s h w) (Ask v j m)
      sure_granted y ex eh = grant_told v j m (in_m sure_range.low_m sure_range.high_m) (may_in p c t (board_of l o s h w) v j m ∙ sym a ∙ y) ex eh ∙ sure_asked

      pub sure_waits : may ≡ false → {w' : List ℕ} → w' ≡ set w (seat v j - 1) m →
          outcome_of Waits (board_of l o s h w') ≡ step (facts_in p c t) (board_of l o s h w) (Ask v j m)
      sure_waits y ew = wait_told v j m (may_in p c t (board_of l o s h w) v j m ∙ sym a ∙ y) ew ∙ sure_asked

  -- `free v j m` of a global mutex, and of a local one: x is who gets it
  pub global_told : (v m : ℕ) → InV v → InM m → OwnHeld (board_of l o s h w) v m → (x : Next) → x ≡ next_global (board_of l o s h w) m →
      {h' w' : List ℕ} → board_of l o s h' w' ≡ handed_to (board_of l o s h w) m x → {s' : List Bool} → s' ≡ set s (v - 1) (next_mark p t l s h' v) →
      outcome_of (Freed x) (board_of l o s' h' w') ≡ freed_global (facts_in p c t) (board_of l o s h w) m
  global_told v m iv im own x ex {h'} {w'} eb es =
      ap (outcome_of (Freed x)) (mark_told p c t (board_of l o s h' w') v es ∙ ap (λ b. settled_at (facts_in p c t) b v) eb)
      ∙ ap (λ y. complete_at (facts_in p c t) (Freed y) (handed_to (board_of l o s h w) m y) v) ex
      ∙ complete_global p c t (board_of l o s h w) n k v m iv im own

  pub local_told : (v m : ℕ) → InV v → InM m → is_global t m ≡ false → (x : Next) → x ≡ next_local (facts_in p c t) (board_of l o s (set h (m - 1) 0) w) v →
      {h' w' : List ℕ} → board_of l o s h' w' ≡ granted_local (board_of l o s (set h (m - 1) 0) w) x → {s' : List Bool} → s' ≡ set s (v - 1) (next_mark p t l s h' v) →
      outcome_of (Freed x) (board_of l o s' h' w') ≡ freed_local (facts_in p c t) (board_of l o s h w) v m
  local_told v m iv im e x ex {h'} {w'} eb es =
      ap (outcome_of (Freed x)) (mark_told p c t (board_of l o s h' w') v es ∙ ap (λ b. settled_at (facts_in p c t) b v) eb)
      ∙ ap (λ y. complete_at (facts_in p c t) (Freed y) (granted_local (board_of l o s (set h (m - 1) 0) w) y) v) ex
      ∙ complete_local p c t (board_of l o s h w) n k v m iv im e

-- a waiter gets the mutex that it waits for
pub grant_next : (b : Board) (v n : ℕ) → (n ≡ 0 → ⊥) → {m : ℕ} → m ≡ wait_of b v n → handed_to b m (next_of v n) ≡ granted_local b (next_of v n)
grant_next b v n h e = rw (e, next_some v n h)
