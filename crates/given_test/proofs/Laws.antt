-- What the judge holds after an item or a row, from its parts.
use Rattle.std.specs.Prelude.{is_ok}
use Prim.Native.Nat.{ℕ}
use mathlib.Core.Path.{◌≡◌}
use mathlib.Core.List.{List}
use mathlib.Core.Bool.{Bool, ◌&&◌}
use Rattle.plan.specs.Refusals.{Fault}
use Rattle.plan.specs.declared.Kind.TheVariants.{VcpuLine, OpenLine}
use Rattle.plan.specs.Line.{Item, shape, size, nums_of}
use Rattle.plan.specs.Reading.{fault}
use Rattle.judge_coded.specs.declared.Seen.{Seen}
use Rattle.judge_coded.specs.Coded.{coded, item}
use Rattle.plan_tables.specs.Layout.{vcpu_width, open_width, cell, vcpu_row, open_row}
use Rattle.given_test.specs.Feed.{Run, feed, feeds, vcpu_lines, open_lines}

-- an item
pub item_fed :
    (run : Run) (i : Item) {f : Fault} {b : Bool} {s : Seen} →
    f ≡ fault coded run.seen i → b ≡ is_ok f → s ≡ coded.next run.seen i → record { ok = run.ok && b; seen = s } ≡ feed run i
unfolding feed
item_fed run i e h k = rw (k, h, e)

-- a VCPU
pub vcpu_fed :
    (run : Run) (t : List ℕ) (i : ℕ) {v g c b p : ℕ} {r : Run} →
    v ≡ cell t vcpu_width i 0 → g ≡ cell t vcpu_width i 1 → c ≡ cell t vcpu_width i 2 → b ≡ cell t vcpu_width i 3 → p ≡ cell t vcpu_width i 4 →
    r ≡ feed run (item VcpuLine v g c b p) → r ≡ feeds run (vcpu_lines t i)
unfolding feeds vcpu_lines vcpu_row nums_of size shape
vcpu_fed run t i e f g h k l = rw (l, e, f, g, h, k)

-- an opening
pub open_fed :
    (run : Run) (t : List ℕ) (i : ℕ) {m g : ℕ} {r : Run} →
    m ≡ cell t open_width i 0 → g ≡ cell t open_width i 1 → r ≡ feed run (item OpenLine m g 0 0 0) → r ≡ feeds run (open_lines t i)
unfolding feeds open_lines open_row nums_of size shape
open_fed run t i e f h = rw (h, e, f)
