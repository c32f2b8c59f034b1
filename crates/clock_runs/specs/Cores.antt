-- One task a core: what a core's turn consists of, and whose job it takes on.
use Rattle.std.specs.Prelude.{ℕ, ◌+◌, ◌-◌, ◌<◌, ◌≡◌, refl, Bool, ◌&&◌, ltb, get_or, Ok, Err}
use Rattle.std.proofs.Common.{ap, ◌∙◌, eqb-true, ltb-true}
use Rattle.std.proofs.Math.Path.{subst₂}
use Rattle.std.proofs.Math.Bool.{true, false}
use mathlib.Core.List.{List, [], ◌∷◌, ◌++◌}
use Rattle.std.proofs.lemmas.Bool.{eqb-false, not-true}
use Rattle.std.proofs.Math.Dec.{eqb}
use Rattle.std.specs.Prelude.{if◌then◌else◌}
use Rattle.laws.specs.RangeLaws.{any_hit}
use Rattle.laws.specs.Sums.{Each}
use Rattle.laws.specs.BoolLaws.{both_left, both_right, clash}
use Rattle.plan.specs.Limits.{max_v, most_n}
use Rattle.plan.specs.Refusals.{Fault}
use Rattle.board_rules.specs.Facts.{Facts}
use Rattle.board_rules.specs.declared.Board.{Board}
use Rattle.board_rules.specs.declared.Event.{Event}
use Rattle.board_rules.specs.declared.Event.TheVariants.{Ask, Free, Use}
use Rattle.board_rules.specs.declared.Next.{Next}
use Rattle.board_rules.specs.declared.Next.TheVariants.{Nobody, To}
use Rattle.board_rules.specs.Board as board
use Rattle.board_rules.specs.Board.{seat, left_of, under_p, settled, may_have, ask_fault, answered, step}
use Rattle.board_events.specs.Events.{board_after, board_by}
use Rattle.clock_rules.specs.Clock.{Timing, Run, done_of, is_unfinished, is_ready, has_ready, is_on, picked, due_of, Asks, is_wait, most_picks, asks_at, idles, idle_uses, work, asked, turn}
use Rattle.clock_steps.specs.Picked.{next_v, next_n, nobody_picks, Chosen, Picked, nobody, somebody, picks}
use Rattle.clock_steps.specs.Asking.{Asking, spent, none_picked, none_due, has_asked, has_waited, asking, LastPick, is_due_law}
use Rattle.clock_steps.specs.Running.{each_flat_to}
use Rattle.clock_steps.specs.OneTick.{turn_picked}

-- an ask that does not wait leaves who waits for what
kept_waits : (F : Facts) (b : Board) (v n m : ℕ) → is_wait (step F b (Ask v n m)).answer ≡ false → (step F b (Ask v n m)).board.waits ≡ b.waits
unfolding step board.asked settled
kept_waits F b v n m = at_fault (ask_fault F b v n m)
  where
    at_test : (t : Bool) → may_have F b v n m ≡ t → is_wait (board.asked F b v n m).answer ≡ false → (board.asked F b v n m).board.waits ≡ b.waits
    at_test true e = rw e (λ q. refl)
    at_test false e = rw e (λ q. absurd (clash refl q))

    at_fault : (x : Fault) → is_wait (answered b x (board.asked F b v n m)).answer ≡ false → (answered b x (board.asked F b v n m)).board.waits ≡ b.waits
    at_fault (Ok tt) = at_test (may_have F b v n m) refl
    at_fault (Err r) = λ q. refl

-- WHO IS PICKED

module _ (T : Timing) (c : ℕ) (d : List ℕ) where
  -- whom core c picks, it may pick
  pub picked_chosen : (b : Board) (v n : ℕ) → picked T c b d ≡ To v n → Chosen T c b d v n
  picked_chosen b v n = read (picks T c b d)
    where
      read : {x : Next} → Picked T c b d x → x ≡ To v n → Chosen T c b d v n
      read nobody e = absurd (nobody_picks e)
      read (somebody w k q) e = subst₂ (Chosen T c b d) (ap next_v e) (ap next_n e) q

  -- whoever uses the tick is ready on the board that the asks leave
  asked_ready : {k : ℕ} {b : Board} {a : Asks} → Asking T c d k b a → (v n : ℕ) → a.pick ≡ To v n → is_ready T (board_after T.facts b a.events) d v n ≡ true
  unfolding board_by
  asked_ready spent v n e = absurd (nobody_picks e)
  asked_ready (none_picked h) v n e = absurd (nobody_picks e)
  asked_ready (none_due {b = b} x y h q z) v n e = subst₂ (λ i j. is_ready T b d i j ≡ true) (ap next_v e) (ap next_n e) q.ready
  asked_ready (has_asked {b = b} x y m h q z nz w) v n e =
      subst₂ (λ i j. is_ready T (step T.facts b (Ask x y m)).board d i j ≡ true) (ap next_v e) (ap next_n e)
      (ap (λ ws. is_unfinished T d x y && eqb (get_or ws (seat x y - 1) 0) 0) (kept_waits T.facts b x y m w) ∙ q.ready)
  asked_ready (has_waited x y m h q z nz w rest) v n e = asked_ready rest v n e

-- who is picked in a turn of core c is of a VCPU on it that is awake, and is ready, when the asks before its own are made
pub turn_chosen : (T : Timing) (c : ℕ) (r : Run) (v n : ℕ) (e : (asks_at T c r).pick ≡ To v n) →
    Chosen T c (board_after T.facts r.board (turn_picked T c r v n e).before) r.done v n
turn_chosen T c r v n e =
    let p = turn_picked T c r v n e in picked_chosen T c r.done (board_after T.facts r.board p.before) v n p.is_picked

-- and when all asks are made it is still ready, so that its VCPU does not idle in that turn
pub turn_pick_busy : (T : Timing) (c : ℕ) (r : Run) (v n : ℕ) → (asks_at T c r).pick ≡ To v n → has_ready T (asked T c r) r.done v ≡ true
turn_pick_busy T c r v n e =
    let i = (turn_chosen T c r v n e).n_in in
    any_hit most_n n (is_ready T (asked T c r) r.done v) i.from i.to (asked_ready T c r.done (asking T c r.done most_picks r.board) v n e)

-- THE ASKS OF A TURN

-- e is an ask of a task of core c that has length left, for the mutex whose section begins there
pub record AskOn (T : Timing) (c : ℕ) (d : List ℕ) (e : Event) : Type 0 where
  pub vcpu : ℕ
  pub task : ℕ
  pub mutex : ℕ
  pub is : e ≡ Ask vcpu task mutex
  pub on_core : is_on T c vcpu ≡ true
  pub unfinished : is_unfinished T d vcpu task ≡ true
  pub due : T.begins vcpu task (done_of d vcpu task) ≡ mutex
  pub some_mutex : mutex ≡ 0 → ⊥

module _ (T : Timing) (c : ℕ) (d : List ℕ) where
  -- the ask of a task that is picked is such
  ask_on : (b : Board) (v n m : ℕ) → Chosen T c b d v n → due_of T b d v n ≡ m → (m ≡ 0 → ⊥) → AskOn T c d (Ask v n m)
  ask_on b v n m q z nz = record {
    vcpu = v;
    task = n;
    mutex = m;
    is = refl;
    on_core = q.on_core;
    unfinished = both_left (is_unfinished T d v n) _ q.ready;
    due = (is_due_law T b d v n m z nz).begins;
    some_mutex = nz;
  }

  -- so are all asks
  asks_are : {k : ℕ} {b : Board} {a : Asks} → Asking T c d k b a → Each (AskOn T c d) a.events
  asks_are spent = tt
  asks_are (none_picked h) = tt
  asks_are (none_due v n h q z) = tt
  asks_are (has_asked {b = b} v n m h q z nz w) = (ask_on b v n m q z nz, tt)
  asks_are (has_waited {b = b} v n m h q z nz w rest) = (ask_on b v n m q z nz, asks_are rest)

-- the asks of a turn are such
pub asks_only : (T : Timing) (c : ℕ) (r : Run) → Each (AskOn T c r.done) (asks_at T c r).events
asks_only T c r = asks_are T c r.done (asking T c r.done most_picks r.board)

-- THE IDLE USES OF A TURN

-- e is the loss of a tick of a VCPU of core c, under P, with budget and no ready task
pub record IdleUse (T : Timing) (c : ℕ) (b : Board) (d : List ℕ) (e : Event) : Type 0 where
  pub vcpu : ℕ
  pub is : e ≡ Use vcpu 1
  pub under_p_law : under_p T.facts.policy ≡ true
  pub on_core : is_on T c vcpu ≡ true
  pub has_budget : 0 < left_of b vcpu
  pub none_ready : has_ready T b d vcpu ≡ false

module _ (T : Timing) (c : ℕ) (b : Board) (d : List ℕ) where
  -- the test of an idle VCPU, as facts
  idle_use : (v : ℕ) → idles T c b d v ≡ true → IdleUse T c b d (Use v 1)
  idle_use v e =
      let p = both_right (under_p T.facts.policy) _ e in
      let q = both_right (is_on T c v) _ p in
      record {
        vcpu = v;
        is = refl;
        under_p_law = both_left (under_p T.facts.policy) _ e;
        on_core = both_left (is_on T c v) _ p;
        has_budget = ltb-true 0 (left_of b v) (both_left (ltb 0 (left_of b v)) _ q);
        none_ready = not-true (has_ready T b d v) (both_right (ltb 0 (left_of b v)) _ q);
      }

  -- the idle uses are such
  pub idles_only : Each (IdleUse T c b d) (idle_uses T c b d)
  unfolding idle_uses
  idles_only = each_flat_to (IdleUse T c b d) max_v (λ v. if idles T c b d v then Use v 1 ∷ [] else []) (λ v. go v (idles T c b d v) refl)
    where
      go : (v : ℕ) (t : Bool) → idles T c b d v ≡ t → Each (IdleUse T c b d) (if t then Use v 1 ∷ [] else [])
      go v true e = (idle_use v e, tt)
      go v false e = tt

-- THE WORK OF A TURN: none, or one tick of the picked task, with one `free` behind it where a section ends
pub data WorkBy (T : Timing) (c : ℕ) (r : Run) : Next → List Event → Type 0 where
  no_work : WorkBy T c r Nobody []
  a_tick : {v n : ℕ} → LastPick T c r.done r.board (asks_at T c r).events v n → T.ends v n (done_of r.done v n + 1) ≡ 0 →
      WorkBy T c r (To v n) (Use v 1 ∷ [])
  a_tick_and_free : {v n : ℕ} (m : ℕ) → LastPick T c r.done r.board (asks_at T c r).events v n → T.ends v n (done_of r.done v n + 1) ≡ m →
      (m ≡ 0 → ⊥) → WorkBy T c r (To v n) (Use v 1 ∷ Free v n m ∷ [])

-- a turn of core c: asks on it, idle uses on it, and the work of the one that is picked
pub record TurnOf (T : Timing) (c : ℕ) (r : Run) : Type 0 where
  pub asking : List Event
  pub idling : List Event
  pub working : List Event
  pub is : turn T c r ≡ asking ++ (idling ++ working)
  pub asks_only : Each (AskOn T c r.done) asking
  pub idles_only : Each (IdleUse T c (board_after T.facts r.board asking) r.done) idling
  pub works_only : WorkBy T c r (asks_at T c r).pick working

-- every turn is such
pub turn_of : (T : Timing) (c : ℕ) (r : Run) → TurnOf T c r
unfolding turn
turn_of T c r = record {
  asking = (asks_at T c r).events;
  idling = idle_uses T c (asked T c r) r.done;
  working = work T r.done (asks_at T c r).pick;
  is = refl;
  asks_only = asks_only T c r;
  idles_only = idles_only T c (asked T c r) r.done;
  works_only = go (asks_at T c r).pick refl;
}
  where
    at_end_law : (v n m : ℕ) → LastPick T c r.done r.board (asks_at T c r).events v n → T.ends v n (done_of r.done v n + 1) ≡ m → (t : Bool) →
        eqb m 0 ≡ t → WorkBy T c r (To v n) (Use v 1 ∷ (if t then [] else Free v n m ∷ []))
    at_end_law v n m p e true q = a_tick p (e ∙ eqb-true m 0 q)
    at_end_law v n m p e false q = a_tick_and_free m p e (eqb-false m 0 q)

    go : (x : Next) → (asks_at T c r).pick ≡ x → WorkBy T c r x (work T r.done x)
    go Nobody e = no_work
    go (To v n) e = let m = T.ends v n (done_of r.done v n + 1) in at_end_law v n m (turn_picked T c r v n e) refl (eqb m 0) refl
