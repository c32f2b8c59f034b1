-- The state of a run: what holds of it at first, and when the tops and releases of a tick are done.
use Rattle.std.specs.Prelude.{ℕ, zero, suc, ◌*◌, ◌≡◌, refl, Bool, ◌&&◌, List, [], ◌∷◌, ltb, length}
use Rattle.std.proofs.Common.{sym, ap, ◌∙◌, arith}
use Rattle.std.proofs.Math.Path.{subst}
use Rattle.std.proofs.Math.Bool.{true, false}
use borrow.Author.Tests.{ltb-false}
use Rattle.std.specs.Prelude.{if◌then◌else◌}
use Rattle.laws.specs.Range.{flat_to}
use Rattle.laws.specs.BoolLaws.{both_left, missed}
use Rattle.laws.specs.Sums.{Each}
use Rattle.laws.specs.SumLaws.{each_append}
use Rattle.plan.specs.Limits.{max_v, most_n}
use Rattle.board_rules.specs.Facts.{Facts}
use Rattle.board_rules.specs.declared.Board.{Board}
use Rattle.board_rules.specs.declared.Event.{Event}
use Rattle.board_rules.specs.declared.Event.TheVariants.{Top}
use Rattle.board_rules.specs.declared.Next.TheVariants.{Nobody}
use Rattle.board_rules.specs.declared.Outcome.{Outcome}
use Rattle.board_rules.specs.Board.{holder_of, wait_of, fresh, topped, step, good}
use Rattle.board_events.specs.Events.{board_by, board_after}
use Rattle.board_keeps.specs.Fair.{InV, InN}
use Rattle.board_keeps.specs.Shaped.{Shaped, fresh_shaped, step_shaped}
use Rattle.board_rules.specs.Names.{seat_some}
use Rattle.board_keeps.proofs.Runs.{fresh_holder, fresh_wait, fresh_good, after_good}
use Rattle.clock_rules.specs.Clock.{Timing, done_of, by_seat, at_first, recurs, is_unfinished, tops, is_released, missed as missed_by, released}
use Rattle.clock_paced.specs.Paced.{Paced}
use Rattle.clock_steps.specs.InStep.{Stepped, own_begins}
use Rattle.clock_steps.specs.Missed.{none_missed}
use Rattle.clock_steps.specs.Accepted.{is_refusal, Accepted}
use Rattle.clock_steps.specs.Taken.{top_is}
use Rattle.clock_steps.specs.Quiet.{SameLocks, locks_stay, locks_then, same_in_step, top_locks}
use Rattle.clock_steps.specs.LockSteps.{InStepOn}
use Rattle.clock_steps.specs.Done.{by_seat_law, seats_long}

-- the board has its places and breaks no condition, there is a number for each seat, and every task is in step
pub record Running (T : Timing) (b : Board) (d : List ℕ) : Type 0 where
  pub shaped : Shaped b
  pub is_good : good T.facts b ≡ true
  pub done_long : length d ≡ max_v * most_n
  pub in_step : InStepOn T b (done_of d)

-- events leave a board its places
pub after_shaped : (F : Facts) {b : Board} → Shaped b → (es : List Event) → Shaped (board_after F b es)
unfolding board_by
after_shaped F s [] = s
after_shaped F {b = b} s (e ∷ es) = after_shaped F {b = (step F b e).board} (step_shaped F e s) es

-- events that keep the tasks in step keep the state
pub still_running : {T : Timing} {b : Board} {d : List ℕ} → Paced T → Running T b d → (es : List Event) → InStepOn T (board_after T.facts b es) (done_of d) →
    Running T (board_after T.facts b es) d
still_running {T} p g es h = record {
  shaped = after_shaped T.facts g.shaped es;
  is_good = after_good p.fair g.shaped g.is_good es;
  done_long = g.done_long;
  in_step = h;
}

-- AT FIRST no job is left over, and nobody holds or waits
module _ {T : Timing} (p : Paced T) where
  -- so every task is in step
  first_stepped : (v n : ℕ) → InV v → InN n → Stepped T (holder_of (fresh T.facts)) (wait_of (fresh T.facts) v n) v n (done_of (by_seat T.lengths) v n)
  first_stepped v n i j =
      let e = by_seat_law T.lengths v n i j in
      record {
        done_in_law = omega arith;
        held_inside = λ m k h. absurd (seat_some v n j (sym h ∙ fresh_holder T.facts m k));
        waits_at = λ nz. absurd (nz (fresh_wait T.facts v n i j));
        inside_held = λ m a x s l r. absurd (let q = s.not_beyond in omega arith);
      }

  -- and the first state is such
  pub first_running : Running T (at_first T).board (at_first T).done
  unfolding at_first
  first_running = record {
    shaped = fresh_shaped T.facts;
    is_good = fresh_good p.fair;
    done_long = seats_long T.lengths;
    in_step = first_stepped;
  }

-- TOPS

-- what holds of all that each k gives holds of what they give together
pub each_flat_to : {B : Type 0} (P : B → Type 0) (n : ℕ) (f : ℕ → List B) → ((k : ℕ) → Each P (f k)) → Each P (flat_to n f)
unfolding flat_to
each_flat_to P zero f h = tt
each_flat_to P (suc n) f h = each_append P (flat_to n f) (f (suc n)) (each_flat_to P n f h) (h (suc n))

-- an event that no board refuses, and that leaves all locks
record Easy (F : Facts) (e : Event) : Type 0 where
  taken : (b : Board) → is_refusal (step F b e).answer ≡ false
  quiet : (b : Board) → SameLocks b (step F b e).board

-- such events are accepted on every board
easy_accepted : (F : Facts) (b : Board) (es : List Event) → Each (Easy F) es → Accepted F b es
easy_accepted F b [] h = tt
easy_accepted F b (e ∷ es) h = (h.0.taken b, easy_accepted F (step F b e).board es h.1)

-- and leave its locks
easy_locks : (F : Facts) (b : Board) (es : List Event) → Each (Easy F) es → SameLocks b (board_after F b es)
unfolding board_by
easy_locks F b [] h = locks_stay
easy_locks F b (e ∷ es) h = locks_then (h.0.quiet b) (easy_locks F (step F b e).board es h.1)

-- `top` of a VCPU of the plan is one
top_easy : (F : Facts) (v : ℕ) → F.has_vcpu v ≡ true → Easy F (Top v)
unfolding topped
top_easy F v e = record { taken = λ b. ap (λ (o : Outcome). is_refusal o.answer) (top_is F b v e); quiet = λ b. top_locks F b v }

-- so the tops of a tick are
tops_easy : (T : Timing) (t : ℕ) → Each (Easy T.facts) (tops T t)
unfolding tops
tops_easy T t = each_flat_to (Easy T.facts) max_v (λ v. if T.facts.has_vcpu v && recurs t (T.refill v) then Top v ∷ [] else []) (λ v. at v (T.facts.has_vcpu v && recurs t (T.refill v)) refl)
  where
    at : (v : ℕ) (x : Bool) → (T.facts.has_vcpu v && recurs t (T.refill v)) ≡ x → Each (Easy T.facts) (if x then Top v ∷ [] else [])
    at v true e = (top_easy T.facts v (both_left (T.facts.has_vcpu v) _ e), tt)
    at v false e = tt

-- no `top` of a tick is refused
pub tops_accepted : (T : Timing) (t : ℕ) (b : Board) → Accepted T.facts b (tops T t)
tops_accepted T t b = easy_accepted T.facts b (tops T t) (tops_easy T t)

-- RELEASES, where no job that is released is unfinished
module _ {T : Timing} (p : Paced T) (t : ℕ) {b : Board} {d : List ℕ} (g : Running T b d) (none : missed_by T t d ≡ Nobody) where
  -- a job that is released begins, and every task is in step
  released_in_step : InStepOn T b (done_of (released T t d))
  unfolding released
  released_in_step v n i j =
      subst (λ x. Stepped T (holder_of b) (wait_of b v n) v n x) (sym (by_seat_law (λ x y. if is_released T t x y then 0 else done_of d x y) v n i j)) (at (is_released T t v n) refl)
    where
      at : (x : Bool) → is_released T t v n ≡ x → Stepped T (holder_of b) (wait_of b v n) v n (if x then 0 else done_of d v n)
      at true e =
          let s = g.in_step v n i j in
          let u = missed (is_released T t v n) (is_unfinished T d v n) (none_missed T t d none v n i j) e in
          let l = ltb-false (done_of d v n) (T.lengths v n) (missed (T.facts.has_task v n) (ltb (done_of d v n) (T.lengths v n)) u (both_left (T.facts.has_task v n) _ e)) in
          own_begins p s (let h = s.done_in_law in omega arith)
      at false e = g.in_step v n i j

  -- the state when the tops and releases of a tick are done
  pub opened_running : Running T (board_after T.facts b (tops T t)) (released T t d)
  opened_running = record {
    shaped = after_shaped T.facts g.shaped (tops T t);
    is_good = after_good p.fair g.shaped g.is_good (tops T t);
    done_long = unfold released in seats_long (λ v n. if is_released T t v n then 0 else done_of d v n);
    in_step = same_in_step (easy_locks T.facts b (tops T t) (tops_easy T t)) released_in_step;
  }
