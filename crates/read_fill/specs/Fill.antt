-- What lines write of rows into a table, line by line.
use Rattle.std.specs.Prelude.{ℕ, zero, suc, ◌+◌, ◌-◌, List, [], ◌∷◌, Bool, true, false, cond, eqb, set}
use Rattle.laws.specs.Bytes.{is_nil}
use Rattle.text_lines.specs.declared.Said.{Said}
use Rattle.text_lines.specs.Said.{said_of}
use Rattle.plan_tables.specs.Layout.{vcpu_width, mutex_width, open_width, lock_width, first_lock, task_width}
use Rattle.plan_tables.specs.RowPlaces.{place, run_place}
use Rattle.read_tally.specs.declared.Tally.{Tally}
use Rattle.read_tally.specs.Tally.{mark_in, bumped, tally_after}

-- WHAT A LINE WRITES

-- x at k where the test holds, and where d has such a place
unfoldable pub put_if : Bool → List ℕ → ℕ → ℕ → List ℕ
put_if true d k x = set d k x
put_if false d k x = d

abbrev pub put_two : Bool → List ℕ → ℕ → ℕ → ℕ → List ℕ
put_two on d k a b = put_if on (put_if on d k a) (k + 1) b

unfoldable pub vcpu_put : Tally → Said → List ℕ → List ℕ
vcpu_put t s d =
    put_if (eqb (mark_in s.found) 5)
    (put_two (eqb (mark_in s.found) 5)
    (put_two (eqb (mark_in s.found) 5) d (place t.vcpus vcpu_width) s.a s.b) (place t.vcpus vcpu_width + 2) s.c s.d)
    (place t.vcpus vcpu_width + 4) s.e

unfoldable pub mutex_put : Tally → Said → List ℕ → List ℕ
mutex_put t s d = put_two (eqb (mark_in s.found) 6) d (place t.mutexes mutex_width) s.a s.b

unfoldable pub open_put : Tally → Said → List ℕ → List ℕ
open_put t s d = put_two (eqb (mark_in s.found) 7) d (place t.opens open_width) s.a s.b

-- n zeros from k on
unfoldable pub wiped : List ℕ → ℕ → ℕ → List ℕ
wiped d k zero = d
wiped d k (suc n) = set (wiped d k n) (k + n) 0

abbrev pub width_if : Bool → ℕ
width_if true = task_width
width_if false = 0

-- `task v n period` begins a row of zeros
unfoldable pub task_line_put : Tally → Said → List ℕ → List ℕ
task_line_put t s d =
    put_if (eqb (mark_in s.found) 8)
    (put_two (eqb (mark_in s.found) 8) (wiped d (place t.tasks task_width) (width_if (eqb (mark_in s.found) 8))) (place t.tasks task_width) s.a s.b)
    (place t.tasks task_width + 2) s.c

-- the row of the last task
abbrev pub last_row : Tally → ℕ
last_row t = place (t.tasks - 1) task_width

unfoldable pub run_put : Tally → Said → List ℕ → List ℕ
run_put t s d = put_if (eqb (mark_in s.found) 9) d (last_row t + run_place t.locks) s.a

-- `lock m t` counts one lock more
unfoldable pub lock_put : Tally → Said → List ℕ → List ℕ
lock_put t s d =
    put_two (eqb (mark_in s.found) 10) (put_if (eqb (mark_in s.found) 10) d (last_row t + 4) (bumped true t.locks))
    (last_row t + first_lock + place t.locks lock_width) s.a s.b

unfoldable pub task_put : Tally → Said → List ℕ → List ℕ
task_put t s d = lock_put t s (run_put t s (task_line_put t s d))

-- what lines write into a table; the last piece is no line
unfoldable pub filled_by : (Tally → Said → List ℕ → List ℕ) → Tally → List ℕ → List (List ℕ) → List ℕ
filled_by put t d [] = d
filled_by put t d (l ∷ ls) = cond (is_nil ls) d (filled_by put (tally_after t (said_of l)) (put t (said_of l) d) ls)
