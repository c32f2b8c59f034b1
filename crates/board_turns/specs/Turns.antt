-- Whose turn it is, on a board's arrays: t is the view, hs the holders, ws the waits.
use Rattle.std.specs.Prelude.{ℕ, ◌+◌, ◌-◌, ◌*◌, max, List, Bool, eqb, get_or}
use Rattle.std.specs.Prelude.{if◌then◌else◌}
use Rattle.laws.specs.Range.{any_to, highest}
use Rattle.plan.specs.Limits.{max_v, most_n, task_raise, vcpu_raise}
use Rattle.board_seats.specs.Seats.{is_global, ceiling_of, wait_at, local_waiter}
use Rattle.board_walks.specs.Walks.{holds_global, passes, held_global, held_local, local_under}

-- "G: granted if free, else waits. L: granted if n is above the ceiling of every local mutex of v held by other tasks, else waits"
abbrev pub may_have_at : List ℕ → List ℕ → ℕ → ℕ → ℕ → Bool
may_have_at t hs v n m = if is_global t m then eqb (get_or hs (m - 1) 0) 0 else passes t hs v n

-- some task waits for m
abbrev pub awaited_at : List ℕ → ℕ → Bool
awaited_at ws m = any_to (max_v * most_n) (λ s. eqb (get_or ws (s - 1) 0) m)

-- "A G mutex goes to the waiter with the highest VCPU, then the highest n": that VCPU, and its task, 0 for none
abbrev pub waiter_v : List ℕ → ℕ → ℕ
waiter_v ws m = highest max_v (λ v. any_to most_n (λ n. eqb (wait_at ws v n) m))

abbrev pub waiter_n : List ℕ → ℕ → ℕ → ℕ
waiter_n ws m v = if eqb v 0 then 0 else highest most_n (λ n. eqb (wait_at ws v n) m)

-- "the highest local waiter of v is granted its mutex if it now passes the test": that waiter, 0 for none
abbrev pub local_next_at : List ℕ → List ℕ → List ℕ → ℕ → ℕ
local_next_at t hs ws v =
    let n = highest most_n (λ k. local_waiter t ws v k) in
    if passes t hs v n then n else 0

-- "Task priority: 8 + n holding a G mutex; holding an L mutex, the greatest of n and of the VCPU's local waiters not above that mutex's ceiling; else n"
abbrev pub priority_at : List ℕ → List ℕ → List ℕ → ℕ → ℕ → ℕ
priority_at t hs ws v n =
    if held_global t hs v n then task_raise + n
    else (if eqb (held_local t hs v n) 0 then n else max n (local_under t ws v (ceiling_of t (held_local t hs v n))))

-- "VCPU priority: 16 + v while its tasks hold a G mutex, else v"
abbrev pub vcpu_priority_at : List ℕ → List ℕ → ℕ → ℕ
vcpu_priority_at t hs v = if holds_global t hs v then vcpu_raise + v else v
