-- The lines of events that are not refused: their numbers are low, so that each line has at most 192 bytes.
use Rattle.std.specs.Prelude.{ℕ, ◌+◌, ◌*◌, ◌^◌, ◌≤◌, ◌<◌, max, ◌≡◌, refl, Bool, true, false, eqb, length, Ok, Err}
use Rattle.std.proofs.Common.{sym, true≢false, ⊎_elim}
use Rattle.std.proofs.Math.Path.{subst}
use mathlib.Core.List.{List, [], ◌∷◌}
use native.Mathlib.Omega.{arith}
use Rattle.std.proofs.Math.ListN.{length-append}
use Rattle.std.specs.Prelude.{if◌then◌else◌}
use Rattle.laws.specs.BoolLaws.{bool_cases}
use Rattle.laws.specs.RangeLaws.{highest_le}
use Rattle.plan.specs.Limits.{most_n}
use Rattle.plan.specs.declared.Refusal.TheVariants.{Unknown}
use Rattle.plan.specs.Refusals.{Fault}
use Rattle.plan.specs.JudgeLaws.{clear_test}
use Rattle.board_rules.specs.Facts.{Facts}
use Rattle.board_rules.specs.declared.Board.{Board}
use Rattle.board_rules.specs.declared.Event.{Event}
use Rattle.board_rules.specs.declared.Event.TheVariants.{Ask, Free, Use, Top, Show}
use Rattle.board_rules.specs.declared.Next.{Next}
use Rattle.board_rules.specs.declared.Outcome.{Outcome}
use Rattle.board_rules.specs.declared.BoardAnswer.{BoardAnswer}
use Rattle.board_rules.specs.declared.BoardAnswer.TheVariants.{Freed, Left}
use Rattle.board_rules.specs.Board.{left_of, over_of, with_holder, settled, held_global, held_local, raised_by, holds_global, task_priority, vcpu_priority, may_have, asked, freed, used, topped, shown, answered, ask_fault, free_fault, use_fault, top_fault, show_fault, step, good}
use Rattle.board_rules.specs.LocalNext.{LocalNext, no_waiter, top_fails, top_passes, local_next}
use Rattle.board_keeps.specs.Fair.{Fair, InV, task_v, sheet_v, sheet_n, sheet_m}
use Rattle.board_keeps.specs.Shaped.{Shaped, step_shaped}
use Rattle.board_keeps.specs.Good.{good_sound}
use Rattle.board_keeps.specs.Faults.{ask_clear, free_clear, use_clear, top_clear}
use Rattle.board_keeps.specs.Nexts.{GlobalNext, none_waits, top_waiter}
use Rattle.board_keeps.proofs.NextLaws.{global_next}
use Rattle.board_keeps.proofs.Keeps.{step_keeps}
use Rattle.board_keeps.proofs.LedgerLaws.{supply_le}
use Rattle.log_answers.specs.Small.{Small}
use Rattle.clock_rules.specs.Trace.{event_line, lines_at}
use Rattle.clock_steps.specs.Accepted.{is_refusal, Accepted}
use Rattle.clock_steps.specs.Taken.{ask_granted, ask_waits, free_global, free_local, use_is, top_is}
use Rattle.clock_lines.specs.Bounds.{EventLow, AnswerLow, event_line_bound}

-- the numbers of an event and of its answer are low
record Low (e : Event) (a : BoardAnswer) : Type 0 where
  event : EventLow e
  answer : AnswerLow a

-- an event that is not refused has no fault
no_fault : (b : Board) (x : Fault) (o : Outcome) → is_refusal (answered b x o).answer ≡ false → x ≡ Ok tt
no_fault b (Ok tt) o e = refl
no_fault b (Err r) o e = absurd (true≢false e)

-- WHO GETS A FREED MUTEX

global_low : {b : Board} {m : ℕ} {w : Next} → GlobalNext b m w → AnswerLow (Freed w)
global_low (none_waits h) = tt
global_low (top_waiter w k q) = let i = q.v_in.to in let j = q.n_in.to in (omega arith, omega arith)

local_low : {F : Facts} {b : Board} {v : ℕ} {w : Next} → InV v → LocalNext F b v w → AnswerLow (Freed w)
local_low i (no_waiter h) = tt
local_low i (top_fails t e h) = tt
local_low i (top_passes t j l e h) = (omega arith, omega arith)

-- THE PRIORITIES THAT `show` GIVES

task_low : (F : Facts) (b : Board) (v n : ℕ) → n ≤ 8 → task_priority F b v n ≤ 16
unfolding task_priority raised_by
task_low F b v n h = at (held_global F b v n) (eqb (held_local F b v n) 0) (raised_by F b v (held_local F b v n)) (highest_le most_n _)
  where
    at : (x y : Bool) (k : ℕ) → k ≤ 8 → (if x then 8 + n else (if y then n else max n k)) ≤ 16
    at true y k l = omega arith
    at false true k l = omega arith
    at false false k l = omega arith

vcpu_low : (F : Facts) (b : Board) (v : ℕ) → v ≤ 16 → vcpu_priority F b v ≤ 32
unfolding vcpu_priority
vcpu_low F b v h = at (holds_global F b v)
  where
    at : (x : Bool) → (if x then 16 + v else v) ≤ 32
    at true = omega arith
    at false = omega arith

module _ {F : Facts} (f : Fair F) (s : Small F) where
  -- what is left on a good board
  left_low : (b : Board) → good F b ≡ true → (v : ℕ) → InV v → AnswerLow (Left (left_of b v) (over_of b v))
  left_low b g v i =
      let q = (good_sound F b g).budgets v i in
      (omega (arith, q.left_le, s.budget v), omega (arith, q.over_le, s.overrun v))

  -- EACH EVENT that has no fault
  module _ {b : Board} (h : Shaped b) (g : good F b ≡ true) where
    ask_low : (v n m : ℕ) → ask_fault F b v n m ≡ Ok tt → Low (Ask v n m) (step F b (Ask v n m)).answer
    ask_low v n m e =
        let l = (ask_clear F b v n m e).listed in
        let i = sheet_v f v n m l in
        let j = sheet_n f v n m l in
        let k = sheet_m f v n m l in
        record {
          event = (omega arith, omega arith, omega arith);
          answer = ⊎_elim (λ q. rw (ask_granted F b v n m e q) tt) (λ q. rw (ask_waits F b v n m e q) tt) (bool_cases (may_have F b v n m));
        }

    free_low : (v n m : ℕ) → free_fault F b v n m ≡ Ok tt → Low (Free v n m) (step F b (Free v n m)).answer
    free_low v n m e =
        let c = free_clear F b v n m e in
        let i = task_v f v n c.task in
        let j = f.task_in_law v n c.task in
        let k = f.mutex_in m c.mutex in
        record {
          event = (omega arith, omega arith, omega arith);
          answer =
              ⊎_elim (λ q. rw (free_global F b v n m e q) (global_low (global_next b m)))
              (λ q. rw (free_local F b v n m e q) (local_low i (local_next F (with_holder b m 0) v))) (bool_cases (F.global m));
        }

    use_low : (v t : ℕ) → use_fault F b v t ≡ Ok tt → Low (Use v t) (step F b (Use v t)).answer
    unfolding used settled
    use_low v t e =
        let c = use_clear F b v t e in
        let i = f.vcpu_in v c.vcpu in
        let q = (good_sound F b g).budgets v i in
        let is = use_is F b v t e in
        record {
          event = (omega arith, omega (arith, c.enough, supply_le F b v, q.left_le, q.over_le, s.budget v, s.overrun v));
          answer =
              subst (λ (o : Outcome). AnswerLow o.answer) (sym is)
              (left_low (used F b v t).board (subst (λ (o : Outcome). good F o.board ≡ true) is (step_keeps f h g (Use v t))) v i);
        }

    top_low : (v : ℕ) → top_fault F v ≡ Ok tt → Low (Top v) (step F b (Top v)).answer
    unfolding topped settled
    top_low v e =
        let c = top_clear F v e in
        let i = f.vcpu_in v c in
        let is = top_is F b v c in
        record {
          event = omega arith;
          answer =
              subst (λ (o : Outcome). AnswerLow o.answer) (sym is)
              (left_low (topped F b v).board (subst (λ (o : Outcome). good F o.board ≡ true) is (step_keeps f h g (Top v))) v i);
        }

    show_low : (v n : ℕ) → show_fault F v n ≡ Ok tt → Low (Show v n) (step F b (Show v n)).answer
    unfolding step
    show_low v n e =
        let c = clear_test (F.has_task v n) Unknown (Ok tt) (unfold show_fault in e) in
        let i = task_v f v n c in
        let j = f.task_in_law v n c in
        rw e (record { event = (omega arith, omega arith); answer = (omega (arith, task_low F b v n j.to), omega (arith, vcpu_low F b v i.to)) })

    -- an event that is not refused
    told_low : (e : Event) → is_refusal (step F b e).answer ≡ false → Low e (step F b e).answer
    told_low (Ask v n m) e = ask_low v n m (no_fault b (ask_fault F b v n m) (asked F b v n m) (unfold step in e))
    told_low (Free v n m) e = free_low v n m (no_fault b (free_fault F b v n m) (freed F b v m) (unfold step in e))
    told_low (Use v t) e = use_low v t (no_fault b (use_fault F b v t) (used F b v t) (unfold step in e))
    told_low (Top v) e = top_low v (no_fault b (top_fault F v) (topped F b v) (unfold step in e))
    told_low (Show v n) e = show_low v n (no_fault b (show_fault F v n) (shown F b v n) (unfold step in e))

  -- THE LINES OF EVENTS none of which is refused
  pub lines_small : (t : ℕ) → t < 2 ^ 64 → {b : Board} → Shaped b → good F b ≡ true → (es : List Event) → Accepted F b es → length (lines_at F t b es) ≤ 192 * length es
  unfolding lines_at
  lines_small t l h g [] a = omega arith
  lines_small t l {b} h g (e ∷ es) a =
      let q = told_low h g e a.0 in
      let x = (step F b e).answer in
      omega (arith, length-append (event_line t e x) (lines_at F t (step F b e).board es), event_line_bound t e x l q.event q.answer, lines_small t l {b = (step F b e).board} (step_shaped F e h) (step_keeps f h g e) es a.1)
