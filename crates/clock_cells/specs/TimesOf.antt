-- The times of a plan: what the clock asks of it beside the view of the board, in the order in which the clock reads it (clock_times, specs/Times).
use Rattle.std.specs.Prelude.{ℕ, ◌+◌, ◌-◌, Bool, List, [], ◌∷◌, leb, length, take}
use Rattle.laws.specs.Choice.{when}
use Rattle.laws.specs.Sums.{sum, flat}
use Rattle.laws.specs.Range.{list_to, flat_to}
use Rattle.plan.specs.Limits.{max_v, most_n, max_locks}
use Rattle.plan.specs.Plan.{Task}
use Rattle.plan.specs.Lookup.{has_vcpu}
use Rattle.figures.specs.System.{System}
use Rattle.figures.specs.Figures.{vcpu_at}
use Rattle.figures.specs.Figures as figures
use Rattle.figures.specs.Named.{task_at, lock_at}
use Rattle.clock_rules.specs.Clock.{by_seat}

-- the core of v and one more, 0 for a VCPU that the plan lacks
unfoldable pub core_of : System → ℕ → ℕ
core_of s v = when (has_vcpu s.vcpus v) ((vcpu_at s v).core + 1)

-- THE LOCKS OF A TASK by their places, from 1: all 0 beyond its locks

abbrev pub has_lock : Task → ℕ → Bool
has_lock k j = leb j (length k.locks)

-- the ticks that a job has done when the section of lock j begins: the first run, and each earlier lock with the run after it
unfoldable pub start_of : Task → ℕ → ℕ
start_of k j = k.first + sum (λ l. l.ticks + l.after) (take (j - 1) k.locks)

-- when the section of lock j begins, when it ends, and its mutex
unfoldable pub begin_of : Task → ℕ → ℕ
begin_of k j = when (has_lock k j) (start_of k j)

unfoldable pub end_of : Task → ℕ → ℕ
end_of k j = when (has_lock k j) (start_of k j + (lock_at k j).ticks)

unfoldable pub mutex_of : Task → ℕ → ℕ
mutex_of k j = (lock_at k j).m

-- THE LIST

-- a number for each seat and place of a lock
abbrev pub by_lock : (ℕ → ℕ → ℕ → ℕ) → List ℕ
by_lock f = flat_to max_v (λ v. flat_to most_n (λ n. list_to max_locks (λ j. f v n j)))

unfoldable pub cores : System → List ℕ
cores s = list_to max_v (λ v. core_of s v)

unfoldable pub refills : System → List ℕ
refills s = list_to max_v (λ v. (vcpu_at s v).period)

unfoldable pub periods : System → List ℕ
periods s = by_seat (λ v n. (task_at s v n).period)

unfoldable pub lengths : System → List ℕ
lengths s = by_seat (λ v n. figures.lengths (task_at s v n))

unfoldable pub begins : System → List ℕ
begins s = by_lock (λ v n j. begin_of (task_at s v n) j)

unfoldable pub ends : System → List ℕ
ends s = by_lock (λ v n j. end_of (task_at s v n) j)

unfoldable pub mutexes : System → List ℕ
mutexes s = by_lock (λ v n j. mutex_of (task_at s v n) j)

abbrev pub parts : System → List (List ℕ)
parts s = cores s ∷ refills s ∷ periods s ∷ lengths s ∷ begins s ∷ ends s ∷ mutexes s ∷ []

-- one part after the other
unfoldable pub times_of : System → List ℕ
times_of s = flat (λ l. l) (parts s)
