-- What is asked of a task's lines, from its parts.
use Prim.Native.Nat.{ℕ, ◌+◌, ◌*◌, ◌-◌}
use mathlib.Core.Path.{◌≡◌}
use mathlib.Core.List.{List}
use mathlib.Core.Bool.{Bool, cond, ◌&&◌, ◌||◌, not}
use lib.Dec.{eqb, leb, ltb}
use lib.ListN.{get_or}
use Rattle.laws.specs.Sums.{all}
use Rattle.laws.specs.Rows.{rows}
use Rattle.plan.specs.Limits.{max_v, max_guest, max_m, max_n, max_period, max_length}
use Rattle.plan.specs.Rules.{within, rises}
use Rattle.judge_coded.specs.Coded.{ranged, reached_by}
use Rattle.plan_tables.specs.Layout.{task_width, lock_width, first_lock, cell}
use Rattle.given_tasks.specs.Clear.{run_clear, lock_clear, guest_clear, head_clear, lock_at, head_at, task_clear}

pub lock_told :
    (os ps : List ℕ) (g v m x a : ℕ) {o : ℕ} {r w c : Bool} →
    o ≡ get_or os m 0 → r ≡ reached_by ps g v o m → w ≡ ranged m max_m x max_length → c ≡ run_clear a →
    ((w && (leb 1 o && r)) && c) ≡ lock_clear os ps g v m x a
unfolding lock_clear
lock_told os ps g v m x a e f h k = rw (k, h, f, e)

pub guest_told :
    (hs : List ℕ) (f g : ℕ) {x : ℕ} {w : Bool} → x ≡ get_or hs g 0 → w ≡ within g 1 max_guest →
    (w && (ltb f g && eqb x 1)) ≡ guest_clear hs f g
unfolding guest_clear
guest_told hs f g e h = rw (h, e)

pub head_told :
    (gs : List ℕ) (g w k v n p a : ℕ) {x : ℕ} {o b r c : Bool} →
    x ≡ get_or gs v 0 → o ≡ rises w k v n → b ≡ within v 1 max_v → r ≡ ranged n max_n p max_period → c ≡ run_clear a →
    (((b && r) && (o && (leb 1 x && eqb x g))) && c) ≡ head_clear gs g w k v n p a
unfolding head_clear
head_told gs g w k v n p a d e f h l = rw (l, h, f, e, d)

pub lock_row_law :
    (os ps t : List ℕ) (g v i j : ℕ) {m x a : ℕ} {r : Bool} →
    m ≡ cell t task_width i (first_lock + (j * lock_width + 0)) → x ≡ cell t task_width i (first_lock + (j * lock_width + 1)) →
    a ≡ cell t task_width i (first_lock + (j * lock_width + 2)) → r ≡ lock_clear os ps g v m x a → r ≡ lock_at os ps t g v i j
unfolding lock_at
lock_row_law os ps t g v i j d e f h = rw (h, f, e, d)

pub head_row :
    (gs t : List ℕ) (on : Bool) (g i : ℕ) {q y z w k v n p a : ℕ} {r : Bool} →
    q ≡ i - 1 → y ≡ cell t task_width q 0 → w ≡ cond on 0 y → z ≡ cell t task_width q 1 → k ≡ cond on 0 z →
    v ≡ cell t task_width i 0 → n ≡ cell t task_width i 1 → p ≡ cell t task_width i 2 → a ≡ cell t task_width i 3 →
    r ≡ head_clear gs g w k v n p a → r ≡ head_at gs t on g i
unfolding head_at
head_row gs t on g i e f h k l m n o p r = rw (r, p, o, n, m, l, k, h, f, e)

pub task_row_law :
    (gs hs os ps t : List ℕ) (on : Bool) (f g i : ℕ) {v c : ℕ} {x h l : Bool} →
    x ≡ guest_clear hs f g → h ≡ head_at gs t on g i → v ≡ cell t task_width i 0 → c ≡ cell t task_width i 4 →
    l ≡ all (lock_at os ps t g v i) (rows c (λ j. j)) → ((not on || x) && (h && l)) ≡ task_clear gs hs os ps t on f g i
unfolding task_clear
task_row_law gs hs os ps t on f g i d e h k l = rw (l, k, h, e, d)
