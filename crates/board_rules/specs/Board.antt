-- The board: what it holds, its events, and the conditions for 9.
use Rattle.std.specs.Prelude.{ℕ, ◌+◌, ◌-◌, ◌*◌, max, List, Bool, false, ◌&&◌, ◌||◌, not, eqb, ltb, leb, get_or, set, Ok, Err}
use Rattle.std.specs.Prelude.{if◌then◌else◌}
use Rattle.laws.specs.Range.{any_to, all_to, highest, list_to}
use Rattle.plan.specs.Limits.{max_v, max_m, most_n, max_ticks, task_raise, vcpu_raise}
use Rattle.plan.specs.declared.Refusal.{Refusal}
use Rattle.plan.specs.declared.Refusal.TheVariants.{Range, Foreign, Unknown, Unlisted, Asleep, Busy, NotHolder, Supply}
use Rattle.plan.specs.Refusals.{unless, Fault}
use Rattle.plan.specs.Rules.{within}
use Rattle.board_rules.specs.Facts.{Facts}
pub use Rattle.board_seats.specs.Seats.{seat}
pub use Rattle.board_reserves.specs.Supplies.{reserve, under_p}
pub use Rattle.board_rules.specs.declared.Board.{Board}
pub use Rattle.board_rules.specs.declared.Event.{Event}
pub use Rattle.board_rules.specs.declared.Event.TheVariants.{Ask, Free, Use, Top, Show}
pub use Rattle.board_rules.specs.declared.Next.{Next}
pub use Rattle.board_rules.specs.declared.Next.TheVariants.{Nobody, To}
pub use Rattle.board_rules.specs.declared.BoardAnswer.{BoardAnswer}
pub use Rattle.board_rules.specs.declared.BoardAnswer.TheVariants.{Granted, Waits, Freed, Left, Shows, Refused}
pub use Rattle.board_rules.specs.declared.Outcome.{Outcome}

-- WHAT THE BOARD HOLDS, by the names v, n and m: in this file the only lines that know the layout

-- "Per VCPU: budget left b, overrun left o, a stopped mark"
abbrev pub left_of : Board → ℕ → ℕ
left_of b v = get_or b.left (v - 1) 0

abbrev pub over_of : Board → ℕ → ℕ
over_of b v = get_or b.over (v - 1) 0

abbrev pub is_stopped : Board → ℕ → Bool
is_stopped b v = get_or b.stopped (v - 1) false

-- the seat of the holder of m, 0 where m is free
abbrev pub holder_of : Board → ℕ → ℕ
holder_of b m = get_or b.holder (m - 1) 0

-- the mutex that task (v, n) waits for, 0 for none
abbrev pub wait_of : Board → ℕ → ℕ → ℕ
wait_of b v n = get_or b.waits (seat v n - 1) 0

abbrev pub with_left : Board → ℕ → ℕ → ℕ → Board
with_left b v l o = record { left = set b.left (v - 1) l; over = set b.over (v - 1) o; stopped = b.stopped; holder = b.holder; waits = b.waits }

abbrev pub with_stopped : Board → List Bool → Board
with_stopped b ss = record { left = b.left; over = b.over; stopped = ss; holder = b.holder; waits = b.waits }

-- mutex m is held by the seat h, 0 where it is free now
abbrev pub with_holder : Board → ℕ → ℕ → Board
with_holder b m h = record { left = b.left; over = b.over; stopped = b.stopped; holder = set b.holder (m - 1) h; waits = b.waits }

-- task (v, n) waits for m, 0 where it waits for none now
abbrev pub with_wait : Board → ℕ → ℕ → ℕ → Board
with_wait b v n m = record { left = b.left; over = b.over; stopped = b.stopped; holder = b.holder; waits = set b.waits (seat v n - 1) m }

-- "at first b = budget, o = O, unmarked"
unfoldable pub fresh : Facts → Board
fresh F = record {
  left = list_to max_v F.budget;
  over = list_to max_v F.overrun;
  stopped = list_to max_v (λ v. false);
  holder = list_to max_m (λ m. 0);
  waits = list_to (max_v * most_n) (λ s. 0);
}

-- WHO HOLDS AND WAITS

-- task (v, n) holds m
abbrev pub holds : Board → ℕ → ℕ → ℕ → Bool
holds b v n m = eqb (holder_of b m) (seat v n)

-- "the VCPU's tasks hold a global mutex"
unfoldable pub holds_global : Facts → Board → ℕ → Bool
holds_global F b v = any_to max_m (λ m. F.global m && any_to most_n (λ n. holds b v n m))

-- task (v, n) waits for a local mutex of v
unfoldable pub local_waiter : Facts → Board → ℕ → ℕ → Bool
local_waiter F b v n = not (eqb (wait_of b v n) 0) && F.local_to v (wait_of b v n)

-- "the task already holds or waits"
unfoldable pub is_busy : Board → ℕ → ℕ → Bool
is_busy b v n = not (eqb (wait_of b v n) 0) || any_to max_m (λ m. holds b v n m)

-- SUPPLY is b, plus o if policy O holds, the VCPU's tasks hold a global mutex and it is not stopped
unfoldable pub supply : Facts → Board → ℕ → ℕ
supply F b v = left_of b v + reserve F.choice (holds_global F b v) (is_stopped b v) (over_of b v)

-- "Asleep means supply 0"
abbrev pub is_asleep : Facts → Board → ℕ → Bool
is_asleep F b v = eqb (supply F b v) 0

-- THE MARK. "Under P a VCPU that stands at b = 0 when an event is complete (a freed mutex already handed on),
-- with no global mutex held by its own tasks, is marked stopped until its next `top`"
unfoldable pub must_stop : Facts → Board → ℕ → Bool
must_stop F b v = under_p F.policy && (F.has_vcpu v && (eqb (left_of b v) 0 && not (holds_global F b v)))

-- the board when an event is complete
unfoldable pub settled : Facts → Board → Board
settled F b = with_stopped b (list_to max_v (λ v. is_stopped b v || must_stop F b v))

-- THE LOCAL TEST: n is above the ceiling of every local mutex of v held by other tasks
abbrev pub held_by_other : Board → ℕ → ℕ → ℕ → Bool
held_by_other b v n m = not (eqb (holder_of b m) 0) && not (holds b v n m)

unfoldable pub passes : Facts → Board → ℕ → ℕ → Bool
passes F b v n = all_to max_m (λ m. not (F.local_to v m && held_by_other b v n m) || ltb (F.ceiling m) n)

-- AN EVENT that is not refused is answered and the board settled; a refused one leaves the board as it was
abbrev pub complete : Facts → BoardAnswer → Board → Outcome
complete F a b = record { answer = a; board = settled F b }

abbrev pub refused : Board → Refusal → Outcome
refused b r = record { answer = Refused r; board = b }

-- `ask v n m`: 10, 11, 12, 13 in turn
unfoldable pub ask_fault : Facts → Board → ℕ → ℕ → ℕ → Fault
ask_fault F b v n m =
    unless (F.has_task v n && F.has_mutex m) Unknown
    (unless (F.lists v n m) Unlisted (unless (not (is_asleep F b v)) Asleep (unless (not (is_busy b v n)) Busy (Ok tt))))

-- G: granted if free, else waits. L: granted if n is above the ceiling of every local mutex of v held by other tasks, else waits
unfoldable pub may_have : Facts → Board → ℕ → ℕ → ℕ → Bool
may_have F b v n m = if F.global m then eqb (holder_of b m) 0 else passes F b v n

unfoldable pub asked : Facts → Board → ℕ → ℕ → ℕ → Outcome
asked F b v n m =
    if may_have F b v n m then complete F Granted (with_holder b m (seat v n)) else complete F Waits (with_wait b v n m)

-- `free v n m`: 10, 14. Accepted asleep
unfoldable pub free_fault : Facts → Board → ℕ → ℕ → ℕ → Fault
free_fault F b v n m = unless (F.has_task v n && F.has_mutex m) Unknown (unless (holds b v n m) NotHolder (Ok tt))

-- m goes to the next holder, who then waits no more, or is free
abbrev pub handed_to : Board → ℕ → Next → Board
handed_to b m Nobody = with_holder b m 0
handed_to b m (To v n) = with_wait (with_holder b m (seat v n)) v n 0

abbrev pub next_of : ℕ → ℕ → Next
next_of v n = if eqb n 0 then Nobody else To v n

-- "A G mutex goes to the waiter with the highest VCPU, then the highest n"
unfoldable pub waiter_v : Board → ℕ → ℕ
waiter_v b m = highest max_v (λ v. any_to most_n (λ n. eqb (wait_of b v n) m))

unfoldable pub waiter_n : Board → ℕ → ℕ → ℕ
waiter_n b m v = highest most_n (λ n. eqb (wait_of b v n) m)

unfoldable pub next_global : Board → ℕ → Next
next_global b m = if eqb (waiter_v b m) 0 then Nobody else next_of (waiter_v b m) (waiter_n b m (waiter_v b m))

unfoldable pub freed_global : Facts → Board → ℕ → Outcome
freed_global F b m = complete F (Freed (next_global b m)) (handed_to b m (next_global b m))

-- "After an L mutex, the highest local waiter of v is granted its mutex if it now passes the test"
unfoldable pub local_n : Facts → Board → ℕ → ℕ
local_n F b v = highest most_n (local_waiter F b v)

unfoldable pub next_local : Facts → Board → ℕ → Next
next_local F b v = if passes F b v (local_n F b v) then next_of v (local_n F b v) else Nobody

-- the mutex that the next holder waited for
abbrev pub granted_local : Board → Next → Board
granted_local b Nobody = b
granted_local b (To v n) = handed_to b (wait_of b v n) (To v n)

unfoldable pub freed_local : Facts → Board → ℕ → ℕ → Outcome
freed_local F b v m =
    let after = with_holder b m 0 in
    complete F (Freed (next_local F after v)) (granted_local after (next_local F after v))

unfoldable pub freed : Facts → Board → ℕ → ℕ → Outcome
freed F b v m = if F.global m then freed_global F b m else freed_local F b v m

-- `use v t`: 10, 3, 12, 15
unfoldable pub use_fault : Facts → Board → ℕ → ℕ → Fault
use_fault F b v t =
    unless (F.has_vcpu v) Unknown
    (unless (within t 1 max_ticks) Range (unless (not (is_asleep F b v)) Asleep (unless (leb t (supply F b v)) Supply (Ok tt))))

-- `left b o` of v
abbrev pub left_answer : Board → ℕ → BoardAnswer
left_answer b v = Left (left_of b v) (over_of b v)

-- "Takes b first, then o"
unfoldable pub used : Facts → Board → ℕ → ℕ → Outcome
used F b v t =
    let after = with_left b v (left_of b v - t) (over_of b v - (t - left_of b v)) in
    complete F (left_answer after v) after

-- `top v`: 10. Budget and overrun full, mark cleared
unfoldable pub top_fault : Facts → ℕ → Fault
top_fault F v = unless (F.has_vcpu v) Unknown (Ok tt)

unfoldable pub topped : Facts → Board → ℕ → Outcome
topped F b v =
    let after = with_stopped (with_left b v (F.budget v) (F.overrun v)) (set b.stopped (v - 1) false) in
    complete F (left_answer after v) after

-- `show v n`: 10
unfoldable pub show_fault : Facts → ℕ → ℕ → Fault
show_fault F v n = unless (F.has_task v n) Unknown (Ok tt)

-- "8 + n holding a G mutex; holding an L mutex, the greatest of n and of the VCPU's local waiters not above that mutex's ceiling; else n"
unfoldable pub held_global : Facts → Board → ℕ → ℕ → Bool
held_global F b v n = any_to max_m (λ m. F.global m && holds b v n m)

-- the local mutex that task (v, n) holds, 0 for none
unfoldable pub held_local : Facts → Board → ℕ → ℕ → ℕ
held_local F b v n = highest max_m (λ m. F.local_to v m && holds b v n m)

unfoldable pub raised_by : Facts → Board → ℕ → ℕ → ℕ
raised_by F b v m = highest most_n (λ j. local_waiter F b v j && leb j (F.ceiling m))

unfoldable pub task_priority : Facts → Board → ℕ → ℕ → ℕ
task_priority F b v n =
    if held_global F b v n then task_raise + n else (if eqb (held_local F b v n) 0 then n else max n (raised_by F b v (held_local F b v n)))

-- "VCPU priority: 16 + v while its tasks hold a G mutex, else v"
unfoldable pub vcpu_priority : Facts → Board → ℕ → ℕ
vcpu_priority F b v = if holds_global F b v then vcpu_raise + v else v

abbrev pub shown : Facts → Board → ℕ → ℕ → Outcome
shown F b v n = record { answer = Shows (task_priority F b v n) (vcpu_priority F b v); board = b }

-- the outcome, unless there is a fault
abbrev pub answered : Board → Fault → Outcome → Outcome
answered b (Ok tt) o = o
answered b (Err r) o = refused b r

-- ONE EVENT on any board; `step_on` tests first that the board meets the conditions
unfoldable pub step : Facts → Board → Event → Outcome
step F b (Ask v n m) = answered b (ask_fault F b v n m) (asked F b v n m)
step F b (Free v n m) = answered b (free_fault F b v n m) (freed F b v m)
step F b (Use v t) = answered b (use_fault F b v t) (used F b v t)
step F b (Top v) = answered b (top_fault F v) (topped F b v)
step F b (Show v n) = answered b (show_fault F v n) (shown F b v n)

-- CONDITIONS FOR 9

-- "b in 0..budget, o in 0..O, o below O only with b = 0"
abbrev pub budgets_good : Facts → Board → ℕ → Bool
budgets_good F b v =
    leb (left_of b v) (F.budget v) && (leb (over_of b v) (F.overrun v) && (eqb (over_of b v) (F.overrun v) || eqb (left_of b v) 0))

-- "a mark only under P with b = 0, and present where the rule demands it"; none for a VCPU that the plan lacks
abbrev pub mark_good : Facts → Board → ℕ → Bool
mark_good F b v =
    if is_stopped b v then under_p F.policy && (F.has_vcpu v && eqb (left_of b v) 0) else not (must_stop F b v)

-- "a task holds or waits for at most one mutex, one it lists": what it holds is listed, is the one that it holds, and it waits for none
abbrev pub hold_good : Facts → Board → ℕ → ℕ → ℕ → Bool
hold_good F b v n m =
    not (holds b v n m) || (F.lists v n m && (eqb (wait_of b v n) 0 && eqb (highest max_m (λ k. holds b v n k)) m))

-- "a global waiter's mutex is held by another; a local waiter fails the test"
abbrev pub wait_good : Facts → Board → ℕ → ℕ → Bool
wait_good F b v n =
    eqb (wait_of b v n) 0
    || (F.lists v n (wait_of b v n) && (if F.global (wait_of b v n) then held_by_other b v n (wait_of b v n) else not (passes F b v n)))

-- the holder of a mutex is a task's seat, or none
abbrev pub seat_good : Board → ℕ → Bool
seat_good b m = leb (holder_of b m) (max_v * most_n)

-- the board breaks none of the conditions. A task or mutex that the plan lacks is listed by no sheet, so it has no holder and no wait
unfoldable pub good : Facts → Board → Bool
good F b =
    all_to max_v (λ v. budgets_good F b v && mark_good F b v)
    && (all_to max_v (λ v. all_to most_n (λ n. wait_good F b v n && all_to max_m (hold_good F b v n))) && all_to max_m (seat_good b))

-- "Calls on tables or a board test 9 first"
unfoldable pub step_on : Facts → Board → Event → Outcome
step_on F b e = if good F b then step F b e else refused b Foreign
