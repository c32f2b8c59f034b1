-- A VCPU uses one tick at most in a tick: idle or at work, in the turn of its core.
use Prim.Native.Nat.{ℕ, zero, suc, ◌+◌, ◌<◌, ◌≤◌}
use Rattle.std.specs.Prelude.{◌≡◌, Bool, true, false, ◌&&◌, eqb, ltb}
use Rattle.std.proofs.Math.Path.{refl, ap}
use Rattle.std.proofs.Common.{sym, subst, ◌∙◌}
use mathlib.Core.List.{List, [], ◌∷◌, ◌++◌}
use Rattle.std.proofs.Math.Logic.{⊎_elim}
use native.Mathlib.Omega.{arith}
use borrow.Author.Tests.{eqb-true, ne_eqb, not-true}
use Rattle.std.specs.Prelude.{if◌then◌else◌}
use Rattle.laws.specs.Range.{flat_to}
use Rattle.laws.specs.Sums.{sum, Each}
use Rattle.laws.specs.SumLaws.{sum_append, sum_zero, each_map}
use Rattle.laws.specs.BoolLaws.{clash, is_false, same_or_not, both_left, both_right}
use Rattle.plan.specs.Limits.{max_v}
use Rattle.board_rules.specs.declared.Event.{Event}
use Rattle.board_rules.specs.declared.Event.TheVariants.{Ask, Free, Use, Top, Show}
use Rattle.board_rules.specs.declared.Next.{Next}
use Rattle.board_rules.specs.declared.Next.TheVariants.{Nobody, To}
use Rattle.board_rules.specs.Board.{left_of, under_p}
use Rattle.clock_rules.specs.Clock.{Timing, Run, done_of, recurs, tops, missed, unless_missed, has_ready, is_on, asks_at, asked, idles, idle_uses, free_of, work, turn, after_turn, cores, turns, opened, events_at}
use Rattle.clock_steps.specs.Running.{each_flat_to}
use Rattle.clock_runs.specs.Cores.{turn_chosen, turn_pick_busy, asks_only}
use Rattle.clock_runs.specs.Jobs.{Apart, cores_apart}

-- the ticks of VCPU v that an event uses
abbrev pub ticks_of : ℕ → Event → ℕ
ticks_of v (Ask w n m) = 0
ticks_of v (Free w n m) = 0
ticks_of v (Use w t) = if eqb w v then t else 0
ticks_of v (Top w) = 0
ticks_of v (Show w n) = 0

-- and that some events use
abbrev pub uses_of : ℕ → List Event → ℕ
uses_of v es = sum (ticks_of v) es

-- x is 0 below v, and never above y
record OnlyAt (n v x y : ℕ) : Type 0 where
  none_before : n < v → x ≡ 0
  no_more : x ≤ y

-- where only what v gives counts, what the numbers to n give counts no more than that
only_at : {A : Type 0} (g : A → ℕ) (f : ℕ → List A) (v : ℕ) → ((w : ℕ) → (w ≡ v → ⊥) → sum g (f w) ≡ 0) → (n : ℕ) →
    OnlyAt n v (sum g (flat_to n f)) (sum g (f v))
unfolding flat_to sum
only_at g f v other zero = record { none_before = λ l. refl; no_more = omega arith }
only_at g f v other (suc n) =
    let ih = only_at g f v other n in
    let e = sum_append g (flat_to n f) (f (suc n)) in
    let m = ih.no_more in
    ⊎_elim
    (λ q. let z = ih.none_before (omega arith) in let y = ap (λ k. sum g (f k)) q in record { none_before = λ l. absurd (omega arith); no_more = omega arith })
    (λ ne. let y = other (suc n) ne in record { none_before = λ l. let z = ih.none_before (omega arith) in omega arith; no_more = omega arith })
    (same_or_not (suc n) v)

-- A TURN

-- one tick, or none
one_or_none : (t : Bool) → (if t then 1 else 0) ≤ 1
one_or_none true = omega arith
one_or_none false = omega arith

-- a `free` uses none
free_uses : (v w n m : ℕ) → uses_of v (free_of w n m) ≡ 0
unfolding sum
free_uses v w n m = go (eqb m 0)
  where
    go : (t : Bool) → uses_of v (if t then [] else Free w n m ∷ []) ≡ 0
    go true = refl
    go false = refl

module _ (T : Timing) (v c : ℕ) (r : Run) where
  -- its asks use none
  asks_use : uses_of v (asks_at T c r).events ≡ 0
  asks_use =
      sum_zero (ticks_of v) (asks_at T c r).events
      (each_map (asks_at T c r).events (λ e a. ap (ticks_of v) a.is) (asks_only T c r))

  -- v idles
  abbrev is_idle : Bool
  is_idle = idles T c (asked T c r) r.done v

  -- its idle uses use a tick of v at most where v idles, and none where not
  idles_use : uses_of v (idle_uses T c (asked T c r) r.done) ≤ (if is_idle then 1 else 0)
  unfolding idle_uses sum
  idles_use = let l = (only_at (ticks_of v) idling v other max_v).no_more in let o = own is_idle in omega arith
    where
      idling : ℕ → List Event
      idling w = if idles T c (asked T c r) r.done w then Use w 1 ∷ [] else []

      other : (w : ℕ) → (w ≡ v → ⊥) → uses_of v (idling w) ≡ 0
      other w ne = go (idles T c (asked T c r) r.done w)
        where
          go : (t : Bool) → uses_of v (if t then Use w 1 ∷ [] else []) ≡ 0
          go true = rw (ne_eqb w v ne) (omega arith)
          go false = refl

      own : (t : Bool) → uses_of v (if t then Use v 1 ∷ [] else []) ≤ (if t then 1 else 0)
      own true = omega (arith, one_or_none (eqb v v))
      own false = omega arith

  -- its work uses one tick at most
  work_use : (x : Next) → uses_of v (work T r.done x) ≤ 1
  unfolding sum
  work_use Nobody = omega arith
  work_use (To w n) = omega (arith, one_or_none (eqb w v), free_uses v w n (T.ends w n (done_of r.done w n + 1)))

  -- and of the picked VCPU alone
  work_else : (w n : ℕ) → (w ≡ v → ⊥) → uses_of v (work T r.done (To w n)) ≡ 0
  unfolding sum
  work_else w n ne = rw (ne_eqb w v ne) (omega (arith, free_uses v w n (T.ends w n (done_of r.done w n + 1))))

  -- the three together
  turn_sum : uses_of v (turn T c r)
      ≡ uses_of v (asks_at T c r).events + (uses_of v (idle_uses T c (asked T c r) r.done) + uses_of v (work T r.done (asks_at T c r).pick))
  unfolding turn
  turn_sum =
      let xs = (asks_at T c r).events in
      let ys = idle_uses T c (asked T c r) r.done in
      let zs = work T r.done (asks_at T c r).pick in
      sum_append (ticks_of v) xs (ys ++ zs) ∙ ap (λ k. uses_of v xs + k) (sum_append (ticks_of v) ys zs)

  -- who has a ready task does not idle
  ready_busy : has_ready T (asked T c r) r.done v ≡ true → is_idle ≡ false
  ready_busy h =
      is_false is_idle (λ t. clash h (not-true (has_ready T (asked T c r) r.done v)
      (both_right (ltb 0 (left_of (asked T c r) v)) _ (both_right (is_on T c v) _ (both_right (under_p T.facts.policy) _ t)))))

  -- who idles is on core c
  idle_on : is_idle ≡ true → T.core v ≡ c
  idle_on t = eqb-true (T.core v) c (both_right (T.facts.has_vcpu v) _ (both_left (is_on T c v) _ (both_right (under_p T.facts.policy) _ t)))

  -- the picked VCPU does not idle, and no other works
  idle_or_work : (x : Next) → (asks_at T c r).pick ≡ x → (if is_idle then 1 else 0) + uses_of v (work T r.done x) ≤ 1
  unfolding sum
  idle_or_work Nobody e = omega (arith, one_or_none is_idle)
  idle_or_work (To w n) e =
      ⊎_elim
      (λ q. let b = ready_busy (subst (λ k. has_ready T (asked T c r) r.done k ≡ true) q (turn_pick_busy T c r w n e)) in
      rw b (omega (arith, work_use (To w n))))
      (λ ne. omega (arith, one_or_none is_idle, work_else w n ne)) (same_or_not w v)

  -- A TURN uses one tick of a VCPU at most
  pub turn_uses : uses_of v (turn T c r) ≤ 1
  turn_uses =
      let e = turn_sum in
      let a = asks_use in
      let i = idles_use in
      let w = idle_or_work (asks_at T c r).pick refl in omega arith

  -- who works is on core c
  work_off : (T.core v ≡ c → ⊥) → (x : Next) → (asks_at T c r).pick ≡ x → uses_of v (work T r.done x) ≡ 0
  unfolding sum
  work_off ne Nobody e = refl
  work_off ne (To w n) e =
      work_else w n (λ q. ne (ap T.core (sym q) ∙ eqb-true (T.core w) c (both_right (T.facts.has_vcpu w) _ (turn_chosen T c r w n e).on_core)))

  -- and none of a VCPU of another core
  pub turn_uses_none : (T.core v ≡ c → ⊥) → uses_of v (turn T c r) ≡ 0
  turn_uses_none ne =
      let e = turn_sum in
      let a = asks_use in
      let b : is_idle ≡ false = is_false is_idle (λ t. ne (idle_on t)) in
      let i : uses_of v (idle_uses T c (asked T c r) r.done) ≤ 0 = rw b at idles_use in
      let w = work_off ne (asks_at T c r).pick refl in omega arith

-- A TICK

module _ (T : Timing) (v : ℕ) where
  -- the turns of other cores use none
  turns_use_none : (cs : List ℕ) (r : Run) → Each (λ c. T.core v ≡ c → ⊥) cs → uses_of v (turns T cs r) ≡ 0
  unfolding turns sum
  turns_use_none [] r h = refl
  turns_use_none (c ∷ cs) r h =
      let a = turn_uses_none T v c r h.0 in
      let ih = turns_use_none cs (after_turn T c r) h.1 in
      let e = sum_append (ticks_of v) (turn T c r) (turns T cs (after_turn T c r)) in omega arith

  -- those of different cores use one at most
  turns_use : (cs : List ℕ) (r : Run) → Apart cs → uses_of v (turns T cs r) ≤ 1
  unfolding turns sum
  turns_use [] r p = omega arith
  turns_use (c ∷ cs) r p =
      let ih = turns_use cs (after_turn T c r) p.1 in
      let a = turn_uses T v c r in
      let e = sum_append (ticks_of v) (turn T c r) (turns T cs (after_turn T c r)) in
      ⊎_elim (λ h. let z = turns_use_none cs (after_turn T c r) (each_map cs (λ x ne q. ne (sym h ∙ q)) p.0) in omega arith)
      (λ ne. let z = turn_uses_none T v c r ne in omega arith) (same_or_not (T.core v) c)

  -- tops use none
  tops_use : (t : ℕ) → uses_of v (tops T t) ≡ 0
  unfolding tops
  tops_use t =
      sum_zero (ticks_of v) (flat_to max_v top)
      (each_flat_to (λ e. ticks_of v e ≡ 0) max_v top (λ w. go w (T.facts.has_vcpu w && recurs t (T.refill w))))
    where
      top : ℕ → List Event
      top w = if T.facts.has_vcpu w && recurs t (T.refill w) then Top w ∷ [] else []

      go : (w : ℕ) (t : Bool) → Each (λ e. ticks_of v e ≡ 0) (if t then Top w ∷ [] else [])
      go w true = (refl, tt)
      go w false = tt

  -- A TICK uses one tick of a VCPU at most
  pub tick_uses : (t : ℕ) (r : Run) → uses_of v (events_at T t r) ≤ 1
  unfolding events_at sum
  tick_uses t r =
      let a = tops_use t in
      let b = turns_use cores (opened T t r) cores_apart in
      go (missed T t r.done) a b
    where
      go : (x : Next) → uses_of v (tops T t) ≡ 0 → uses_of v (turns T cores (opened T t r)) ≤ 1 →
          uses_of v (tops T t ++ unless_missed (turns T cores (opened T t r)) (λ v n. []) x) ≤ 1
      go Nobody a b = let e = sum_append (ticks_of v) (tops T t) (turns T cores (opened T t r)) in omega arith
      go (To w n) a b = let e = sum_append (ticks_of v) (tops T t) [] in omega arith
