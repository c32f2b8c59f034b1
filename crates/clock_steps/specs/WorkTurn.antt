-- The picked task's tick is not refused, and neither is the `free` where its section is over; after it every task is in step.
use Rattle.std.specs.Prelude.{ℕ, ◌+◌, ◌-◌, ◌*◌, ◌<◌, ◌≡◌, Bool, ◌&&◌, not, ltb, length, get_or, set, Ok}
use Rattle.std.proofs.Math.Path.{refl}
use Rattle.std.proofs.Common.{sym, ap, subst, ◌∙◌, ⊎_elim, length-set}
use Rattle.std.proofs.Math.Bool.{true, false}
use mathlib.Core.List.{List, [], ◌∷◌}
use borrow.Author.Tests.{eqb-true, eqb-false}
use Rattle.std.proofs.Math.Dec.{eqb}
use Rattle.std.specs.Prelude.{if◌then◌else◌}
use Rattle.laws.specs.RangeLaws.{any_hit}
use Rattle.laws.specs.BoolLaws.{both_left, miss_right, bool_cases}
use Rattle.plan.specs.Limits.{max_v, most_n}
use Rattle.board_rules.specs.Facts.{Facts}
use Rattle.board_rules.specs.declared.Board.{Board}
use Rattle.board_rules.specs.declared.Event.TheVariants.{Free, Use}
use Rattle.board_rules.specs.declared.Next.{Next}
use Rattle.board_rules.specs.declared.Next.TheVariants.{Nobody, To}
use Rattle.board_rules.specs.declared.Outcome.{Outcome}
use Rattle.board_rules.specs.Board.{seat, left_of, holder_of, wait_of, under_p, with_holder, free_fault, step}
use Rattle.board_events.specs.Events.{board_by, board_after}
use Rattle.board_keeps.specs.Fair.{InV, InN, InM}
use Rattle.board_keeps.specs.Good.{good_sound}
use Rattle.board_keeps.specs.Change.{holder_new}
use Rattle.board_rules.specs.Change.{holder_else}
use Rattle.board_keeps.proofs.Runs.{after_good}
use Rattle.clock_rules.specs.Clock.{Timing, done_of, is_unfinished, is_ready, is_on, idles, idle_uses, free_of, work, work_done}
use Rattle.clock_paced.specs.Paced.{Paced}
use Rattle.clock_steps.specs.InStep.{Served, end_held}
use Rattle.clock_steps.specs.StepMoves.{works_in_step, frees_in_step}
use Rattle.clock_steps.specs.Picked.{is_ready_law}
use Rattle.clock_steps.specs.Accepted.{is_refusal, Accepted}
use Rattle.clock_steps.specs.Taken.{free_taken, free_global, free_local}
use Rattle.clock_steps.specs.Quiet.{SameLocks, same_in_step, use_locks}
use Rattle.clock_steps.specs.LockSteps.{InStepOn, free_in_step}
use Rattle.clock_steps.specs.Done.{done_new, done_else}
use Rattle.clock_steps.specs.Running.{Running, after_shaped, still_running}
use Rattle.clock_steps.specs.AskTurn.{Worker, Working}
use Rattle.clock_steps.specs.IdleTurn.{use_answered, idle_locks, idle_supply}

-- AFTER THE IDLE USES the picked task may still be picked

-- what a task holds and waits for on boards with the same locks
same_wait : {b b' : Board} (v n : ℕ) → SameLocks b b' → wait_of b' v n ≡ wait_of b v n
same_wait v n s = ap (λ ws. get_or ws (seat v n - 1) 0) s.waits_same

-- a mutex has the same holder
same_holder : {b b' : Board} (m : ℕ) → SameLocks b b' → holder_of b' m ≡ holder_of b m
same_holder m s = ap (λ hs. get_or hs (m - 1) 0) s.holder_same

-- a task that held what begins holds it
same_served : (T : Timing) {b b' : Board} (v n d : ℕ) → SameLocks b b' → Served T (holder_of b) v n d → Served T (holder_of b') v n d
same_served T v n d s h nz = same_holder (T.begins v n d) s ∙ h nz

-- its VCPU is not idle
not_idle : (T : Timing) (c : ℕ) (b : Board) (d : List ℕ) (v n : ℕ) → Worker T c b d v n → idles T c b d v ≡ false
not_idle T c b d v n k =
    let r = any_hit most_n n (is_ready T b d v) k.chosen.n_in.from k.chosen.n_in.to k.chosen.ready in
    miss_right (under_p T.facts.policy) _ (miss_right (is_on T c v) _ (miss_right (ltb 0 (left_of b v)) _ (ap not r)))

module _ {T : Timing} (p : Paced T) (c : ℕ) {b : Board} {d : List ℕ} (g : Running T b d) where
  -- awake, ready and served
  idle_worker : (v n : ℕ) → Worker T c b d v n → Worker T c (board_after T.facts b (idle_uses T c b d)) d v n
  idle_worker v n k =
      let s = idle_locks p c g in
      let q = k.chosen in
      record {
        chosen = record {
          v_in = q.v_in;
          n_in = q.n_in;
          on_core = q.on_core;
          awake = ap (λ x. eqb x 0) (idle_supply p c g v q.v_in (not_idle T c b d v n k)) ∙ q.awake;
          ready = ap (λ w. is_unfinished T d v n && eqb w 0) (same_wait v n s) ∙ q.ready;
        };
        served = same_served T v n (done_of d v n) s k.served;
      }

  -- as the pick says it
  pub idle_working : (x : Next) → Working T c b d x → Working T c (board_after T.facts b (idle_uses T c b d)) d x
  idle_working Nobody k = tt
  idle_working (To v n) k = idle_worker v n k

  -- the state after the idle uses
  pub idle_running : Running T (board_after T.facts b (idle_uses T c b d)) d
  idle_running = still_running p g (idle_uses T c b d) (same_in_step (idle_locks p c g) g.in_step)

-- A `free` THAT IS IN ORDER is answered
free_answered : (F : Facts) (b : Board) (v n m : ℕ) → free_fault F b v n m ≡ Ok tt → is_refusal (step F b (Free v n m)).answer ≡ false
free_answered F b v n m e =
    ⊎_elim (λ q. ap (λ (o : Outcome). is_refusal o.answer) (free_global F b v n m e q)) (λ q. ap (λ (o : Outcome). is_refusal o.answer) (free_local F b v n m e q)) (bool_cases (F.global m))

-- THE TICK: from a board that is in step, with nothing due to (v, n), which has used its tick
module _ {T : Timing} (p : Paced T) {b : Board} {d : List ℕ} (g : Running T b d) (v n : ℕ) (i : InV v) (j : InN n) (task : T.facts.has_task v n ≡ true)
    (short : done_of d v n < T.lengths v n) (idle : wait_of b v n ≡ 0) (all : Served T (holder_of b) v n (done_of d v n)) where
  -- the job has done one tick more
  one : done_of (set d (seat v n - 1) (done_of d v n + 1)) v n ≡ done_of d v n + 1
  one = done_new d v n (done_of d v n + 1) i j g.done_long

  -- no section is over
  goes_on_law : T.ends v n (done_of d v n + 1) ≡ 0 → InStepOn T b (done_of (set d (seat v n - 1) (done_of d v n + 1)))
  goes_on_law e = works_in_step p g.in_step v n i j (done_of (set d (seat v n - 1) (done_of d v n + 1))) one (done_else d v n (done_of d v n + 1) i j) idle short all e

  module _ (m : ℕ) (e : T.ends v n (done_of d v n + 1) ≡ m) (nz : m ≡ 0 → ⊥) where
    -- m is on the task's sheet
    ends_listed : T.facts.lists v n m ≡ true
    ends_listed = subst (λ x. T.facts.lists v n x ≡ true) e (p.over v n (done_of d v n + 1) (λ z. nz (sym e ∙ z))).section.listed

    -- m is in range
    ends_m : InM m
    ends_m = p.fair.mutex_in m (p.fair.sheet_mutex v n m ends_listed)

    -- the task holds m
    holds_end : holder_of b m ≡ seat v n
    holds_end = end_held p (g.in_step v n i j) all m e nz

    -- so its `free` is in order
    frees_clear : free_fault T.facts b v n m ≡ Ok tt
    frees_clear = free_taken T.facts b v n m task (p.fair.sheet_mutex v n m ends_listed) holds_end

    -- the section on m is over
    frees : InStepOn T (step T.facts b (Free v n m)).board (done_of (set d (seat v n - 1) (done_of d v n + 1)))
    frees =
        free_in_step p g.shaped g.is_good v n m i ends_m frees_clear
        (frees_in_step p g.in_step v n i j (done_of (set d (seat v n - 1) (done_of d v n + 1))) one (done_else d v n (done_of d v n + 1) i j) idle short
        (holder_of (with_holder b m 0)) m e nz holds_end (λ k a h. (good_sound T.facts b g.is_good).holding.held_alone v n m k i j ends_m a holds_end h)
        (λ x a ne. holder_else b m 0 x ends_m a ne) (holder_new g.shaped m 0 ends_m))

  -- what is freed is answered, and every task is in step
  freed_well : (m : ℕ) → T.ends v n (done_of d v n + 1) ≡ m →
      Accepted T.facts b (free_of v n m) × InStepOn T (board_after T.facts b (free_of v n m)) (done_of (set d (seat v n - 1) (done_of d v n + 1)))
  unfolding board_by
  freed_well m e = at (eqb m 0) refl
    where
      at : (x : Bool) → eqb m 0 ≡ x → Accepted T.facts b (if x then [] else Free v n m ∷ []) × InStepOn T (board_after T.facts b (if x then [] else Free v n m ∷ [])) (done_of (set d (seat v n - 1) (done_of d v n + 1)))
      at true q = (tt, goes_on_law (e ∙ eqb-true m 0 q))
      at false q = let nz = eqb-false m 0 q in ((free_answered T.facts b v n m (frees_clear m e nz), tt), frees m e nz)

module _ {T : Timing} (p : Paced T) (c : ℕ) {b : Board} {d : List ℕ} (g : Running T b d) where
  -- the state after its use
  used_running : (v : ℕ) → Running T (step T.facts b (Use v 1)).board d
  unfolding board_by
  used_running v = still_running p g (Use v 1 ∷ []) (same_in_step (use_locks T.facts b v 1) g.in_step)

  -- the picked task works
  work_well : (x : Next) → Working T c b d x → Accepted T.facts b (work T d x) × InStepOn T (board_after T.facts b (work T d x)) (done_of (work_done d x))
  unfolding board_by
  work_well Nobody k = (tt, g.in_step)
  work_well (To v n) k =
      let F = T.facts in
      let q = k.chosen in
      let y = is_ready_law T b d v n q.ready in
      let s = use_locks F b v 1 in
      let r = freed_well p (used_running v) v n q.v_in q.n_in y.task y.unfinished (same_wait v n s ∙ y.no_wait) (same_served T v n (done_of d v n) s k.served) (T.ends v n (done_of d v n + 1)) refl in
      ((use_answered F b v (both_left (F.has_vcpu v) _ q.on_core) q.awake, r.0), r.1)

  -- there is still a number for each seat
  workdone_long : (x : Next) → length (work_done d x) ≡ max_v * most_n
  workdone_long Nobody = g.done_long
  workdone_long (To v n) = length-set d (seat v n - 1) (done_of d v n + 1) ∙ g.done_long

  -- no event of the picked task is refused, and the state stays
  pub work_accepted : (x : Next) → Working T c b d x → Accepted T.facts b (work T d x)
  work_accepted x k = (work_well x k).0

  -- the state after the picked task's events
  pub work_running : (x : Next) → Working T c b d x → Running T (board_after T.facts b (work T d x)) (work_done d x)
  work_running x k = record {
    shaped = after_shaped T.facts g.shaped (work T d x);
    is_good = after_good p.fair g.shaped g.is_good (work T d x);
    done_long = workdone_long x;
    in_step = (work_well x k).1;
  }
