-- The plan on a clock: request (i), sentence by sentence. Every lock and budget step is an event of the board, so a run is a list of events.
use Rattle.std.specs.Prelude.{ℕ, zero, suc, ◌+◌, ◌-◌, ◌*◌, ◌%◌, List, [], ◌∷◌, ◌++◌, Bool, true, false, ◌&&◌, not, eqb, ltb, get_or, set}
use Rattle.std.specs.Prelude.{if◌then◌else◌}
use Rattle.laws.specs.Range.{any_to, list_to, flat_to}
use Rattle.laws_picks.specs.Picks.{lowest, top_of}
use Rattle.plan.specs.Limits.{max_v, most_n}
use Rattle.plan.specs.declared.Refusal.TheVariants.{Range, Foreign}
use Rattle.plan.specs.Rules.{within}
use Rattle.plan.specs.declared.Lock.{Lock}
use Rattle.plan_tables.specs.declared.PlanRecord.{PlanRecord}
use Rattle.plan_tables.specs.Layout.{Tables}
use Rattle.plan_tables.specs.Given.{if_given}
use Rattle.figures.specs.System.{System, system}
use Rattle.figures.specs.Figures as figures
use Rattle.figures.specs.Named.{task_at}
use Rattle.board_rules.specs.Facts.{Facts, facts_of}
use Rattle.board_rules.specs.declared.Board.{Board}
use Rattle.board_rules.specs.declared.Event.{Event}
use Rattle.board_rules.specs.declared.Event.TheVariants.{Ask, Free, Use, Top}
use Rattle.board_rules.specs.declared.Next.{Next}
use Rattle.board_rules.specs.declared.Next.TheVariants.{Nobody, To}
use Rattle.board_rules.specs.declared.BoardAnswer.{BoardAnswer}
use Rattle.board_rules.specs.declared.BoardAnswer.TheVariants.{Granted, Waits, Freed, Left, Shows, Refused}
use Rattle.board_rules.specs.Board.{seat, left_of, wait_of, holds, is_asleep, under_p, fresh, step, next_of, task_priority, vcpu_priority}
use Rattle.board_events.specs.Events.{answers, board_after}
pub use Rattle.clock_rules.specs.declared.RunAnswer.{RunAnswer}
pub use Rattle.clock_rules.specs.declared.RunAnswer.TheVariants.{Ended, Missed, NoRun}

-- WHAT THE CLOCK ASKS OF A PLAN, beside the board's facts
pub record Timing : Type 0 where
  pub facts : Facts
  -- the core of VCPU v, and its period
  pub core : ℕ → ℕ
  pub refill : ℕ → ℕ
  -- the period of task (v, n), and its lengths together
  pub period : ℕ → ℕ → ℕ
  pub lengths : ℕ → ℕ → ℕ
  -- the mutex whose section begins, or ends, when a job of (v, n) has done d ticks; 0 for none
  pub begins : ℕ → ℕ → ℕ → ℕ
  pub ends : ℕ → ℕ → ℕ → ℕ

-- of locks of which the first begins when `at` ticks are done: the one that begins at d, the one that ends at d
-- (a lock has a tick at least, so no two begin, and no two end, at one d)
unfoldable pub begins_in : ℕ → List Lock → ℕ → ℕ
begins_in at [] d = 0
begins_in at (l ∷ ls) d = if eqb d at then l.m else begins_in (at + l.ticks + l.after) ls d

unfoldable pub ends_in : ℕ → List Lock → ℕ → ℕ
ends_in at [] d = 0
ends_in at (l ∷ ls) d = if eqb d (at + l.ticks) then l.m else ends_in (at + l.ticks + l.after) ls d

unfoldable pub timing_of : System → Timing
timing_of s = record {
  facts = facts_of s;
  core = λ v. (figures.vcpu_at s v).core;
  refill = λ v. (figures.vcpu_at s v).period;
  period = λ v n. (task_at s v n).period;
  lengths = λ v n. figures.lengths (task_at s v n);
  begins = λ v n d. begins_in (task_at s v n).first (task_at s v n).locks d;
  ends = λ v n d. ends_in (task_at s v n).first (task_at s v n).locks d;
}

-- THE STATE OF A RUN: the board, and by seat the ticks that the task's job has done ("jobs run their full lengths": all of them done, the job has ended)
pub record Run : Type 0 where
  pub board : Board
  pub done : List ℕ

abbrev pub done_of : List ℕ → ℕ → ℕ → ℕ
done_of d v n = get_or d (seat v n - 1) 0

-- a number for each seat
abbrev pub by_seat : (ℕ → ℕ → ℕ) → List ℕ
by_seat f = flat_to max_v (λ v. list_to most_n (λ n. f v n))

-- "Start every VCPU and task at tick 0": before it no job is left over
unfoldable pub at_first : Timing → Run
at_first T = record { board = fresh T.facts; done = by_seat T.lengths }

-- "VCPU periods and jobs recur at multiples of their periods"
abbrev pub recurs : ℕ → ℕ → Bool
recurs t p = eqb (t % p) 0

-- "A job with no length left ends at once, without a tick, even if its VCPU is asleep"
abbrev pub is_unfinished : Timing → List ℕ → ℕ → ℕ → Bool
is_unfinished T d v n = T.facts.has_task v n && ltb (done_of d v n) (T.lengths v n)

-- EACH TICK: "`top` events,
unfoldable pub tops : Timing → ℕ → List Event
tops T t = flat_to max_v (λ v. if T.facts.has_vcpu v && recurs t (T.refill v) then Top v ∷ [] else [])

-- then job releases": "the first job unfinished when its next is released (of several, lowest v, then n)"
abbrev pub is_released : Timing → ℕ → ℕ → ℕ → Bool
is_released T t v n = T.facts.has_task v n && recurs t (T.period v n)

abbrev pub misses : Timing → ℕ → List ℕ → ℕ → ℕ → Bool
misses T t d v n = is_released T t v n && is_unfinished T d v n

unfoldable pub missed : Timing → ℕ → List ℕ → Next
missed T t d =
    let v = lowest max_v (λ x. any_to most_n (misses T t d x)) in
    if eqb v 0 then Nobody else next_of v (lowest most_n (misses T t d v))

unfoldable pub released : Timing → ℕ → List ℕ → List ℕ
released T t d = by_seat (λ v n. if is_released T t v n then 0 else done_of d v n)

-- A CORE'S TURN. A ready task has an unfinished job and waits for nothing
abbrev pub is_ready : Timing → Board → List ℕ → ℕ → ℕ → Bool
is_ready T b d v n = is_unfinished T d v n && eqb (wait_of b v n) 0

abbrev pub has_ready : Timing → Board → List ℕ → ℕ → Bool
has_ready T b d v = any_to most_n (is_ready T b d v)

abbrev pub is_on : Timing → ℕ → ℕ → Bool
is_on T c v = T.facts.has_vcpu v && eqb (T.core v) c

-- "A core picks its highest-priority awake VCPU with a ready task,
abbrev pub may_run : Timing → ℕ → Board → List ℕ → ℕ → Bool
may_run T c b d v = is_on T c v && (not (is_asleep T.facts b v) && has_ready T b d v)

unfoldable pub pick_v : Timing → ℕ → Board → List ℕ → ℕ
pick_v T c b d = top_of max_v (may_run T c b d) (vcpu_priority T.facts b)

-- and in it the highest task, by the priorities `show` gives"
unfoldable pub pick_n : Timing → Board → List ℕ → ℕ → ℕ
pick_n T b d v = top_of most_n (is_ready T b d v) (task_priority T.facts b v)

unfoldable pub picked : Timing → ℕ → Board → List ℕ → Next
picked T c b d = if eqb (pick_v T c b d) 0 then Nobody else next_of (pick_v T c b d) (pick_n T b d (pick_v T c b d))

-- the mutex for which a picked task is to ask: its section begins here, and it does not hold the mutex already (handed on); 0 for none
abbrev pub due_of : Timing → Board → List ℕ → ℕ → ℕ → ℕ
due_of T b d v n = let m = T.begins v n (done_of d v n) in if holds b v n m then 0 else m

-- what the asks of a turn come to: the events, and who then uses the tick
pub record Asks : Type 0 where
  pub events : List Event
  pub pick : Next

abbrev pub is_wait : BoardAnswer → Bool
is_wait Granted = false
is_wait Waits = true
is_wait (Freed w) = false
is_wait (Left b o) = false
is_wait (Shows t v) = false
is_wait (Refused r) = false

-- no ask is due
abbrev pub no_ask : Next → Asks
no_ask x = record { events = []; pick = x }

-- an event before those of some asks
abbrev pub after : Event → Asks → Asks
after e a = record { events = e ∷ a.events; pick = a.pick }

-- "Asks due are made first, and a wait means picking again": on the board that the wait leaves
abbrev pub asks_of : Timing → Board → List ℕ → (Board → Asks) → Next → Asks
asks_of T b d again Nobody = no_ask Nobody
asks_of T b d again (To v n) =
    let m = due_of T b d v n in
    let o = step T.facts b (Ask v n m) in
    if eqb m 0 then no_ask (To v n)
    else (if is_wait o.answer then after (Ask v n m) (again o.board) else after (Ask v n m) (no_ask (To v n)))

-- k picks at most: each wait leaves one ready task less, so that one more than there are seats is enough
unfoldable pub asks : Timing → ℕ → ℕ → Board → List ℕ → Asks
asks T zero c b d = no_ask Nobody
asks T (suc k) c b d = asks_of T b d (λ x. asks T k c x d) (picked T c b d)

abbrev pub most_picks : ℕ
most_picks = max_v * most_n + 1

abbrev pub asks_at : Timing → ℕ → Run → Asks
asks_at T c r = asks T most_picks c r.board r.done

-- "Under P a VCPU with budget and no ready task loses one tick of budget, judged at its core's turn, after the pick and before its use"
abbrev pub idles : Timing → ℕ → Board → List ℕ → ℕ → Bool
idles T c b d v = under_p T.facts.policy && (is_on T c v && (ltb 0 (left_of b v) && not (has_ready T b d v)))

unfoldable pub idle_uses : Timing → ℕ → Board → List ℕ → List Event
idle_uses T c b d = flat_to max_v (λ v. if idles T c b d v then Use v 1 ∷ [] else [])

-- "the picked task uses one tick; a finished section is freed at once"
abbrev pub free_of : ℕ → ℕ → ℕ → List Event
free_of v n m = if eqb m 0 then [] else Free v n m ∷ []

abbrev pub work : Timing → List ℕ → Next → List Event
work T d Nobody = []
work T d (To v n) = Use v 1 ∷ free_of v n (T.ends v n (done_of d v n + 1))

abbrev pub work_done : List ℕ → Next → List ℕ
work_done d Nobody = d
work_done d (To v n) = set d (seat v n - 1) (done_of d v n + 1)

-- the board when the asks of core c's turn are made
abbrev pub asked : Timing → ℕ → Run → Board
asked T c r = board_after T.facts r.board (asks_at T c r).events

-- the events of core c's turn, and the state after it
unfoldable pub turn : Timing → ℕ → Run → List Event
turn T c r = (asks_at T c r).events ++ (idle_uses T c (asked T c r) r.done ++ work T r.done (asks_at T c r).pick)

unfoldable pub after_turn : Timing → ℕ → Run → Run
after_turn T c r = record { board = board_after T.facts r.board (turn T c r); done = work_done r.done (asks_at T c r).pick }

-- "then cores 0 to 3"
abbrev pub cores : List ℕ
cores = 0 ∷ 1 ∷ 2 ∷ 3 ∷ []

unfoldable pub turns : Timing → List ℕ → Run → List Event
turns T [] r = []
turns T (c ∷ cs) r = turn T c r ++ turns T cs (after_turn T c r)

unfoldable pub after_turns : Timing → List ℕ → Run → Run
after_turns T [] r = r
after_turns T (c ∷ cs) r = after_turns T cs (after_turn T c r)

-- the state when tick t's tops and releases are done, and when its cores are
unfoldable pub opened : Timing → ℕ → Run → Run
opened T t r = record { board = board_after T.facts r.board (tops T t); done = released T t r.done }

unfoldable pub tick : Timing → ℕ → Run → Run
tick T t r = after_turns T cores (opened T t r)

-- a, unless the job of (v, n) is missed
abbrev pub unless_missed : {A : Type 0} → A → (ℕ → ℕ → A) → Next → A
unless_missed a f Nobody = a
unless_missed a f (To v n) = f v n

-- THE RUN from tick t on, k ticks at most: it "ends before the tick of a given horizon or at the first job unfinished when its next is released,
-- which is reported with its tick"
unfoldable pub run_from : Timing → ℕ → ℕ → Run → RunAnswer
run_from T zero t r = Ended
run_from T (suc k) t r = unless_missed (run_from T k (t + 1) (tick T t r)) (λ v n. Missed t v n) (missed T t r.done)

abbrev pub run_of : Timing → ℕ → RunAnswer
run_of T h = run_from T h 0 (at_first T)

-- THE EVENTS of tick t, of a tick with a miss the tops alone; and those of the run
unfoldable pub events_at : Timing → ℕ → Run → List Event
events_at T t r = tops T t ++ unless_missed (turns T cores (opened T t r)) (λ v n. []) (missed T t r.done)

unfoldable pub trace_from : Timing → ℕ → ℕ → Run → List Event
trace_from T zero t r = []
trace_from T (suc k) t r = events_at T t r ++ unless_missed (trace_from T k (t + 1) (tick T t r)) (λ v n. []) (missed T t r.done)

abbrev pub trace_of : Timing → ℕ → List Event
trace_of T h = trace_from T h 0 (at_first T)

-- "Every lock and budget step is a board event and answers as the board does"
abbrev pub trace_answers : Timing → ℕ → List BoardAnswer
trace_answers T h = answers T.facts (fresh T.facts) (trace_of T h)

-- OVER LENT TABLES. "Refusals: 3 for a horizon outside 1 to 1,000,000, after 9"
abbrev pub max_horizon : ℕ
max_horizon = 1000000

abbrev pub is_horizon : ℕ → Bool
is_horizon h = within h 1 max_horizon

unfoldable pub run_for : PlanRecord → Tables → ℕ → RunAnswer
run_for r t h = if_given r t (λ p. if is_horizon h then run_of (timing_of (system p)) h else NoRun Range) (NoRun Foreign)
