-- The judge over items, one after the other, and the items of rows.
use Rattle.std.specs.Prelude.{ℕ, zero, suc, ◌≤◌, ◌≡◌, List, [], ◌∷◌, ◌++◌, Bool, true, false, ◌&&◌, is_ok}
use Rattle.plan.specs.declared.Kind.{Kind}
use Rattle.plan.specs.declared.Kind.TheVariants.{MutexG, MutexL, GuestLine, TaskLine, LockLine}
use Rattle.plan.specs.Line.{Item}
use Rattle.plan.specs.Plan.{Vcpu}
use Rattle.plan.specs.Text.{item, vcpu_item, owned_item, open_item, run_item}
use Rattle.plan.specs.Reading.{fault}
use Rattle.judge_coded.specs.Coded.{coded, start}
use Rattle.plan_tables.specs.Layout.{task_width, cell, vcpu_row, mutex_row, open_row, lock_row}
use Rattle.given_tidy.specs.Hosts.{host_of, begins}
pub use Rattle.given_test.specs.declared.Run.{Run}

-- THE JUDGE AT WORK

-- before the first item
abbrev pub fresh : Run
fresh = record { ok = true; seen = start }

-- after one item more
unfoldable pub feed : Run → Item → Run
feed r i = record { ok = r.ok && is_ok (fault coded r.seen i); seen = coded.next r.seen i }

unfoldable pub feeds : Run → List Item → Run
feeds r [] = r
feeds r (i ∷ is) = feeds (feed r i) is

-- no item is at fault, and the plan may stop here
abbrev pub passing : Run → Bool
passing r = r.ok && coded.ready r.seen

-- no section is begun and no task seen: only lines that come before them
pub record Bare (r : Run) : Type 0 where
  pub guest : r.seen.guest ≡ 0
  pub tasks : r.seen.tasks ≡ 0
  pub early : r.seen.phase ≤ 5

-- THE ITEMS OF ROWS

-- those of row 0, .., row (n - 1)
unfoldable pub lined : ℕ → (ℕ → List Item) → List Item
lined zero f = []
lined (suc n) f = lined n f ++ f n

-- s is the run after the items of the first i of n rows
pub record Fed (r : Run) (f : ℕ → List Item) (n : ℕ) (s : Run) (i : ℕ) : Type 0 where
  pub within : i ≤ n
  pub is : s ≡ feeds r (lined i f)

-- one line a row
unfoldable pub vcpu_lines : List ℕ → ℕ → List Item
vcpu_lines t i = vcpu_item (vcpu_row t i) ∷ []

-- 0 for a global mutex
abbrev pub owner_kind : ℕ → Kind
owner_kind zero = MutexG
owner_kind (suc v) = MutexL

unfoldable pub mutex_lines : List ℕ → ℕ → List Item
mutex_lines t i = owned_item (mutex_row t i).m (mutex_row t i).owner ∷ []

unfoldable pub open_lines : List ℕ → ℕ → List Item
open_lines t i = open_item (open_row t i) ∷ []

-- lock j of task i, and the run after it
unfoldable pub lock_lines : List ℕ → ℕ → ℕ → List Item
lock_lines t i j = item LockLine ((lock_row t i j).m ∷ (lock_row t i j).ticks ∷ []) ∷ run_item (lock_row t i j).after ∷ []

-- a guest's line before the rest, or none
abbrev pub guest_line : Bool → ℕ → List Item → List Item
guest_line true g is = item GuestLine (g ∷ []) ∷ is
guest_line false g is = is

-- the first two lines of task i before the rest
abbrev pub head_lines : List ℕ → ℕ → List Item → List Item
head_lines t i is =
    item TaskLine (cell t task_width i 0 ∷ cell t task_width i 1 ∷ cell t task_width i 2 ∷ []) ∷ run_item (cell t task_width i 3) ∷ is

-- the lines of task i, after a guest's where it begins a section
unfoldable pub task_lines : List Vcpu → List ℕ → ℕ → List Item
task_lines vs t i =
    guest_line (begins vs t i) (host_of vs t i) (head_lines t i (lined (cell t task_width i 4) (lock_lines t i)))
