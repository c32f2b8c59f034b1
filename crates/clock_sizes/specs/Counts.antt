-- How many events a tick has at most: 16 tops, and in the turn of each core 129 asks, 16 idle uses and the picked task's 2.
use Rattle.std.specs.Prelude.{ℕ, zero, suc, ◌+◌, ◌*◌, ◌≤◌, Bool, true, false, ◌&&◌, eqb, length}
use mathlib.Core.List.{List, [], ◌∷◌, ◌++◌}
use native.Mathlib.Omega.{arith}
use Rattle.std.proofs.Math.ListN.{length-append}
use Rattle.std.specs.Prelude.{if◌then◌else◌}
use Rattle.laws.specs.Range.{flat_to}
use Rattle.plan.specs.Limits.{max_v}
use Rattle.board_rules.specs.declared.Board.{Board}
use Rattle.board_rules.specs.declared.Event.{Event}
use Rattle.board_rules.specs.declared.Event.TheVariants.{Free, Use, Top}
use Rattle.board_rules.specs.declared.Next.{Next}
use Rattle.board_rules.specs.declared.Next.TheVariants.{Nobody, To}
use Rattle.clock_rules.specs.Clock.{Timing, Run, done_of, recurs, tops, missed, Asks, most_picks, asks_at, asked, idles, idle_uses, work, turn, after_turn, cores, turns, opened, unless_missed, events_at}
use Rattle.clock_steps.specs.Asking.{Asking, spent, none_picked, none_due, has_asked, has_waited, asking}

-- where each k gives one at most, those up to n give n at most
flat_few : {B : Type 0} (n : ℕ) (f : ℕ → List B) → ((k : ℕ) → length (f k) ≤ 1) → length (flat_to n f) ≤ n
unfolding flat_to
flat_few zero f h = omega arith
flat_few (suc n) f h = omega (arith, length-append (flat_to n f) (f (suc n)), flat_few n f h, h (suc n))

-- an event where x, else none
one_if : (x : Bool) (e : Event) → length (if x then e ∷ [] else []) ≤ 1
one_if true e = omega arith
one_if false e = omega arith

-- an event unless x
one_unless : (x : Bool) (e : Event) → length (if x then [] else e ∷ []) ≤ 1
one_unless true e = omega arith
one_unless false e = omega arith

module _ (T : Timing) where
  tops_few : (t : ℕ) → length (tops T t) ≤ 16
  unfolding tops
  tops_few t = flat_few max_v (λ v. if T.facts.has_vcpu v && recurs t (T.refill v) then Top v ∷ [] else []) (λ v. one_if (T.facts.has_vcpu v && recurs t (T.refill v)) (Top v))

  idle_few : (c : ℕ) (b : Board) (d : List ℕ) → length (idle_uses T c b d) ≤ 16
  unfolding idle_uses
  idle_few c b d = flat_few max_v (λ v. if idles T c b d v then Use v 1 ∷ [] else []) (λ v. one_if (idles T c b d v) (Use v 1))

  work_few : (d : List ℕ) (x : Next) → length (work T d x) ≤ 2
  work_few d Nobody = omega arith
  work_few d (To v n) = let m = T.ends v n (done_of d v n + 1) in omega (arith, one_unless (eqb m 0) (Free v n m))

  -- k picks at most make k asks at most
  asks_few : {c : ℕ} {d : List ℕ} {k : ℕ} {b : Board} {a : Asks} → Asking T c d k b a → length a.events ≤ k
  asks_few spent = omega arith
  asks_few (none_picked e) = omega arith
  asks_few (none_due v n x q e) = omega arith
  asks_few (has_asked v n m x q e nz w) = omega arith
  asks_few (has_waited v n m x q e nz w rest) = let h = asks_few rest in omega arith

  turn_few : (c : ℕ) (r : Run) → length (turn T c r) ≤ 147
  unfolding turn
  turn_few c r =
      let es = (asks_at T c r).events in
      let is = idle_uses T c (asked T c r) r.done in
      let ws = work T r.done (asks_at T c r).pick in
      omega (arith, length-append es (is ++ ws), length-append is ws, asks_few (asking T c r.done most_picks r.board), idle_few c (asked T c r) r.done, work_few r.done (asks_at T c r).pick)

  turns_few : (cs : List ℕ) (r : Run) → length (turns T cs r) ≤ 147 * length cs
  unfolding turns
  turns_few [] r = omega arith
  turns_few (c ∷ cs) r = omega (arith, length-append (turn T c r) (turns T cs (after_turn T c r)), turn_few c r, turns_few cs (after_turn T c r))

  -- A TICK
  pub events_few : (t : ℕ) (r : Run) → length (events_at T t r) ≤ 604
  unfolding events_at
  events_few t r = omega (arith, length-append (tops T t) (rest (missed T t r.done)), tops_few t, rest_few (missed T t r.done))
    where
      rest : Next → List Event
      rest = unless_missed (turns T cores (opened T t r)) (λ v n. [])

      rest_few : (x : Next) → length (rest x) ≤ 588
      rest_few Nobody = omega (arith, turns_few cores (opened T t r))
      rest_few (To v n) = omega arith
