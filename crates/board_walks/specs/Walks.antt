-- What the walks over mutexes and tasks find: t is the view, hs the holders, ws the waits.
use Rattle.std.specs.Prelude.{ℕ, ◌-◌, ◌*◌, List, [], Bool, ◌&&◌, ◌||◌, not, eqb, ltb, leb, get_or}
use Rattle.std.specs.Prelude.{if◌then◌else◌}
use Rattle.laws.specs.Range.{any_to, all_to, highest, list_to}
use Rattle.board_seats.specs.Limits.{max_v, max_m, most_n}
use Rattle.board_seats.specs.Seats.{is_global, is_local, lists_it, ceiling_of, holds_it, held_by_other, wait_at, local_waiter}

-- a task of v holds m, which is global
abbrev pub global_by : List ℕ → List ℕ → ℕ → ℕ → Bool
global_by t hs v m = is_global t m && any_to most_n (λ n. holds_it hs v n m)

abbrev pub holds_global : List ℕ → List ℕ → ℕ → Bool
holds_global t hs v = any_to max_m (λ m. global_by t hs v m)

-- m does not bar (v, n)
abbrev pub clears : List ℕ → List ℕ → ℕ → ℕ → ℕ → Bool
clears t hs v n m = not (is_local t v m && held_by_other hs v n m) || ltb (ceiling_of t m) n

abbrev pub passes : List ℕ → List ℕ → ℕ → ℕ → Bool
passes t hs v n = all_to max_m (λ m. clears t hs v n m)

-- the highest mutex that (v, n) holds, 0 for none
abbrev pub last_held : List ℕ → ℕ → ℕ → ℕ
last_held hs v n = highest max_m (λ m. holds_it hs v n m)

abbrev pub held_global : List ℕ → List ℕ → ℕ → ℕ → Bool
held_global t hs v n = any_to max_m (λ m. is_global t m && holds_it hs v n m)

abbrev pub held_local : List ℕ → List ℕ → ℕ → ℕ → ℕ
held_local t hs v n = highest max_m (λ m. is_local t v m && holds_it hs v n m)

-- the highest local waiter of v that is not above the cap
abbrev pub local_under : List ℕ → List ℕ → ℕ → ℕ → ℕ
local_under t ws v cap = highest most_n (λ j. local_waiter t ws v j && leb j cap)

-- the marks by rows of VCPUs and columns of tasks
abbrev pub row_of : List ℕ → ℕ → List ℕ
row_of ws v = list_to most_n (λ n. wait_at ws v n)

abbrev pub rows_of : List ℕ → List (List ℕ)
rows_of ws = list_to max_v (λ v. row_of ws v)

-- the highest column that has w, 0 for none; and the highest row that has it
abbrev pub column_of : List ℕ → ℕ → ℕ
column_of row w = highest most_n (λ n. eqb (get_or row (n - 1) 0) w)

abbrev pub row_with : List (List ℕ) → ℕ → ℕ
row_with rows w = highest max_v (λ v. ltb 0 (column_of (get_or rows (v - 1) []) w))

-- the conditions on holders and waits
abbrev pub hold_good : List ℕ → List ℕ → List ℕ → ℕ → ℕ → ℕ → Bool
hold_good t hs ws v n m =
    not (holds_it hs v n m) || (lists_it t v n m && (eqb (wait_at ws v n) 0 && eqb (last_held hs v n) m))

abbrev pub wait_good : List ℕ → List ℕ → List ℕ → ℕ → ℕ → Bool
wait_good t hs ws v n =
    eqb (wait_at ws v n) 0
    || (lists_it t v n (wait_at ws v n) && (if is_global t (wait_at ws v n) then held_by_other hs v n (wait_at ws v n) else not (passes t hs v n)))

abbrev pub task_good : List ℕ → List ℕ → List ℕ → ℕ → ℕ → Bool
task_good t hs ws v n = wait_good t hs ws v n && all_to max_m (λ m. hold_good t hs ws v n m)

abbrev pub tasks_good : List ℕ → List ℕ → List ℕ → ℕ → Bool
tasks_good t hs ws v = all_to most_n (λ n. task_good t hs ws v n)

abbrev pub seat_good : List ℕ → ℕ → Bool
seat_good hs m = leb (get_or hs (m - 1) 0) (max_v * most_n)
