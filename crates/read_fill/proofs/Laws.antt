-- What a line writes, from its parts: its mark m, its place k, and the table after each step.
use Prim.Native.Nat.{ℕ, ◌+◌}
use mathlib.Core.Path.{◌≡◌}
use mathlib.Core.List.{List}
use mathlib.Core.Bool.{true}
use lib.Dec.{eqb}
use Rattle.text_lines.specs.declared.Said.{Said}
use Rattle.plan_tables.specs.Layout.{vcpu_width, lock_width, first_lock, task_width}
use Rattle.plan_tables.specs.RowPlaces.{place}
use Rattle.read_tally.specs.declared.Tally.{Tally}
use Rattle.read_tally.specs.Tally.{mark_in, bumped}
use Rattle.read_fill.specs.Fill.{put_if, put_two, wiped, width_if, last_row, vcpu_put, task_line_put, lock_put}

-- one number, and two, at a known mark and place
pub put_told :
    (w : ℕ) (d : List ℕ) (x : ℕ) {m n j k : ℕ} {r : List ℕ} → m ≡ n → j ≡ k → r ≡ put_if (eqb m w) d j x → r ≡ put_if (eqb n w) d k x
put_told w d x e h l = rw (l, h, e)

pub two_told :
    (w : ℕ) (d : List ℕ) (a b : ℕ) {m n j k : ℕ} {r : List ℕ} → m ≡ n → j ≡ k → r ≡ put_two (eqb m w) d j a b → r ≡ put_two (eqb n w) d k a b
two_told w d a b e h l = rw (l, h, e)

-- of VCPUs
pub vcpu_told :
    (t : Tally) (s : Said) (d : List ℕ) {m k : ℕ} {f g r : List ℕ} →
    m ≡ mark_in s.found → k ≡ place t.vcpus vcpu_width →
    f ≡ put_two (eqb m 5) d k s.a s.b → g ≡ put_two (eqb m 5) f (k + 2) s.c s.d → r ≡ put_if (eqb m 5) g (k + 4) s.e → r ≡ vcpu_put t s d
unfolding vcpu_put
vcpu_told t s d e h x y z = rw (z, y, x, h, e)

-- the first line of a task
pub task_told_law :
    (t : Tally) (s : Said) (d : List ℕ) {m k n : ℕ} {f g r : List ℕ} →
    m ≡ mark_in s.found → k ≡ place t.tasks task_width → n ≡ width_if (eqb m 8) →
    f ≡ wiped d k n → g ≡ put_two (eqb m 8) f k s.a s.b → r ≡ put_if (eqb m 8) g (k + 2) s.c → r ≡ task_line_put t s d
unfolding task_line_put
task_told_law t s d e h l x y z = rw (z, y, x, l, h, e)

-- a lock
pub lock_told :
    (t : Tally) (s : Said) (d : List ℕ) {m k j n : ℕ} {f r : List ℕ} →
    m ≡ mark_in s.found → k ≡ last_row t → j ≡ place t.locks lock_width → n ≡ bumped true t.locks →
    f ≡ put_if (eqb m 10) d (k + 4) n → r ≡ put_two (eqb m 10) f (k + first_lock + j) s.a s.b → r ≡ lock_put t s d
unfolding lock_put
lock_told t s d e h l n x y = rw (y, x, n, l, h, e)
