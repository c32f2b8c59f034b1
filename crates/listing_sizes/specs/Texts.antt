-- Parts of the listing: what the place of a lock gives to it, and its ends.
use Rattle.std.specs.Prelude.{ℕ, ◌+◌, List, [], ◌++◌, Bool, true, false}
use Rattle.laws.specs.Sums.{flat}
use Rattle.plan.specs.declared.Lock.{Lock}
use Rattle.plan.specs.Plan.{Task}
use Rattle.figures.specs.System.{System}
use Rattle.figures.specs.Figures.{is_section}
use Rattle.listing.specs.Listing.{vcpu_line, wait_line, task_lines, rising, all_line}

-- the text where the test holds, else nothing
abbrev pub picked : Bool → List ℕ → List ℕ
picked b t = elim b [ true ↦ t | false ↦ [] ]

-- the line of lock j of task k, nothing where it is local: j counts from 0, and the place that is printed from 1
unfoldable pub place_text : System → Task → (ℕ → Lock) → ℕ → List ℕ
place_text s k lock j = picked (is_section s (lock j)) (wait_line s k (j + 1) (lock j))

-- the listing from its first task on, and from its first VCPU on
unfoldable pub tasks_end : System → List ℕ
tasks_end s = flat (task_lines s) (rising s) ++ all_line s

unfoldable pub vcpus_end : System → List ℕ
vcpus_end s = flat (vcpu_line s) s.vcpus ++ tasks_end s
