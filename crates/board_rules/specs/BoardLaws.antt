-- Other forms of the board's rules, as its code has them, and that they agree.
use Rattle.std.specs.Prelude.{ℕ, ◌+◌, ◌-◌, ◌*◌, ◌/◌, ◌%◌, ◌≡◌, List, Bool, true, false, ◌&&◌, ◌↔◌, eqb, get_or, set}
use Rattle.std.proofs.Math.Path.{refl, ap}
use Rattle.std.proofs.Common.{sym, ◌∙◌, arith, ne_eqb}
use Rattle.std.specs.Prelude.{if◌then◌else◌}
use Rattle.laws.specs.Range.{any_to, all_to, highest}
use Rattle.laws.specs.RangeLaws.{none_at, none_of, highest_zero}
use Rattle.plan.specs.Limits.{max_v, max_m, most_n}
use Rattle.plan.specs.declared.Refusal.TheVariants.{Unknown}
use Rattle.plan.specs.Refusals.{unless, Fault}
use Rattle.plan.specs.declared.Policy.{Policy}
use Rattle.plan.specs.declared.OverrunChoice.{OverrunChoice}
use Rattle.board_seats.specs.Seats as seats
use Rattle.board_walks.specs.Walks as walks
use Rattle.board_reserves.specs.Supplies.{next_mark, use_fault_at, ask_fault_at, free_fault_at, vcpu_good_at}
use Rattle.board_turns.specs.Turns as turns
use Rattle.board_turns.specs.Turns.{local_next_at, priority_at, vcpu_priority_at}
use Rattle.board_rules.specs.View.{facts_in}
use Rattle.board_rules.specs.Settle.{settled_at}
use Rattle.board_rules.specs.Board.{Board, with_stopped, holds_global, supply, must_stop, use_fault, top_fault, ask_fault, free_fault, is_busy, passes, asked, used, topped, freed, Nobody, To, next_of, Ask, Free, Use, Top, Show, answered, refused, step, next_global, waiter_v, waiter_n, next_local, local_n, local_waiter, freed_global, freed_local, show_fault, held_global, held_local, raised_by, task_priority, vcpu_priority, Shows, good}

-- THE MARK of v
pub settled_in : (p : Policy) (o : OverrunChoice) (t : List ℕ) (b : Board) (v : ℕ) →
    settled_at (facts_in p o t) b v ≡ with_stopped b (set b.stopped (v - 1) (next_mark p t b.left b.stopped b.holder v))
unfolding must_stop facts_in holds_global
settled_in p o t b v = refl

-- WHO IS NEXT: nobody waits for m just where no VCPU has a waiter
pub none_awaits : (ws : List ℕ) (m : ℕ) → (turns.awaited_at ws m ≡ false) ↔ (turns.waiter_v ws m ≡ 0)
none_awaits ws m = (down, up)
  where
    f : ℕ → Bool
    f s = eqb (get_or ws (s - 1) 0) m

    g : ℕ → Bool
    g v = any_to most_n (λ n. eqb (seats.wait_at ws v n) m)

    down : any_to (max_v * most_n) f ≡ false → highest max_v g ≡ 0
    down e =
        (highest_zero max_v g).0
        (none_of max_v g (λ v a b. none_of most_n (λ n. eqb (seats.wait_at ws v n) m) (λ n c d. none_at (max_v * most_n) (seats.seat v n) f e (omega arith) (omega arith))))

    up : highest max_v g ≡ 0 → any_to (max_v * most_n) f ≡ false
    up e =
        none_of (max_v * most_n) f
        (λ s a b.
        let v = (s - 1) / 8 + 1 in
        let n = (s - 1) % 8 + 1 in
        let q : seats.seat v n ≡ s = omega arith in
        ap f (sym q) ∙ none_at most_n n (λ n. eqb (seats.wait_at ws v n) m) (none_at max_v v g ((highest_zero max_v g).1 e) (omega arith) (omega arith)) (omega arith) (omega arith))

-- the global waiter
pub global_next : (b : Board) (m : ℕ) → let v = turns.waiter_v b.waits m in next_of v (turns.waiter_n b.waits m v) ≡ next_global b m
unfolding next_global waiter_v waiter_n
global_next b m = go (eqb (turns.waiter_v b.waits m) 0) refl
  where
    go : (c : Bool) → eqb (turns.waiter_v b.waits m) 0 ≡ c →
        next_of (turns.waiter_v b.waits m) (turns.waiter_n b.waits m (turns.waiter_v b.waits m)) ≡ next_global b m
    go true e = rw e
    go false e = rw e

-- the local waiter that is next
pub local_next : (p : Policy) (o : OverrunChoice) (t : List ℕ) (b : Board) (v : ℕ) → next_of v (local_next_at t b.holder b.waits v) ≡ next_local (facts_in p o t) b v
unfolding next_local local_n local_waiter passes facts_in
local_next p o t b v = go (walks.passes t b.holder v (highest most_n (seats.local_waiter t b.waits v)))
  where
    go : (c : Bool) → next_of v (if c then highest most_n (seats.local_waiter t b.waits v) else 0)
        ≡ (if c then next_of v (highest most_n (seats.local_waiter t b.waits v)) else Nobody)
    go true = refl
    go false = refl

pub next_none : (v n : ℕ) → n ≡ 0 → next_of v n ≡ Nobody
next_none v n e = rw e

pub next_some : (v n : ℕ) → (n ≡ 0 → ⊥) → next_of v n ≡ To v n
next_some v n h = rw (ne_eqb n 0 h)

-- EVENT BY EVENT: by its faults, or by what is in the plan
module _ (p : Policy) (o : OverrunChoice) (t : List ℕ) (b : Board) where
  pub use_by : (v x : ℕ) {f : Fault} → use_fault_at o t b.left b.over b.stopped b.holder v x ≡ f →
      step (facts_in p o t) b (Use v x) ≡ answered b f (used (facts_in p o t) b v x)
  unfolding step use_fault facts_in supply holds_global
  use_by v x e = ap (λ f. answered b f (used (facts_in p o t) b v x)) e

  pub ask_by : (v n m : ℕ) {f : Fault} → ask_fault_at o t b.left b.over b.stopped b.holder b.waits v n m ≡ f →
      step (facts_in p o t) b (Ask v n m) ≡ answered b f (asked (facts_in p o t) b v n m)
  unfolding step ask_fault facts_in supply holds_global is_busy
  ask_by v n m e = ap (λ f. answered b f (asked (facts_in p o t) b v n m)) e

  pub free_by : (v n m : ℕ) {f : Fault} → free_fault_at t b.holder v n m ≡ f →
      step (facts_in p o t) b (Free v n m) ≡ answered b f (freed (facts_in p o t) b v m)
  unfolding step free_fault facts_in
  free_by v n m e = ap (λ f. answered b f (freed (facts_in p o t) b v m)) e

  pub top_unknown : (v : ℕ) → seats.has_vcpu t v ≡ false → step (facts_in p o t) b (Top v) ≡ refused b Unknown
  unfolding step top_fault unless facts_in
  top_unknown v e = rw e

  pub top_known : (v : ℕ) → seats.has_vcpu t v ≡ true → step (facts_in p o t) b (Top v) ≡ topped (facts_in p o t) b v
  unfolding step top_fault unless facts_in
  top_known v e = rw e

  pub freed_global_law : (v m : ℕ) → seats.is_global t m ≡ true → freed (facts_in p o t) b v m ≡ freed_global (facts_in p o t) b m
  unfolding freed facts_in
  freed_global_law v m e = rw e

  pub freed_local_law : (v m : ℕ) → seats.is_global t m ≡ false → freed (facts_in p o t) b v m ≡ freed_local (facts_in p o t) b v m
  unfolding freed facts_in
  freed_local_law v m e = rw e

  pub show_unknown : (v n : ℕ) → seats.has_task t v n ≡ false → step (facts_in p o t) b (Show v n) ≡ refused b Unknown
  unfolding step show_fault unless facts_in
  show_unknown v n e = rw e

  pub show_known : (v n : ℕ) → seats.has_task t v n ≡ true →
      step (facts_in p o t) b (Show v n) ≡ record { answer = Shows (priority_at t b.holder b.waits v n) (vcpu_priority_at t b.holder v); board = b }
  unfolding step show_fault unless facts_in task_priority vcpu_priority held_global held_local raised_by local_waiter holds_global
  show_known v n e = rw e

  -- `show` only reads
  pub show_board : (v n : ℕ) → record { answer = (step (facts_in p o t) b (Show v n)).answer; board = b } ≡ step (facts_in p o t) b (Show v n)
  show_board v n = go (seats.has_task t v n) refl
    where
      go : (c : Bool) → seats.has_task t v n ≡ c →
          record { answer = (step (facts_in p o t) b (Show v n)).answer; board = b } ≡ step (facts_in p o t) b (Show v n)
      go true e = rw (show_known v n e)
      go false e = rw (show_unknown v n e)

  pub good_in : good (facts_in p o t) b
      ≡ (all_to max_v (λ v. vcpu_good_at p t b.left b.over b.stopped b.holder v)
      && (all_to max_v (λ v. walks.tasks_good t b.holder b.waits v) && all_to max_m (λ m. walks.seat_good b.holder m)))
  unfolding good must_stop facts_in holds_global passes
  good_in = refl
