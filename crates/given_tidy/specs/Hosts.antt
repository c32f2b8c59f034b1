-- The guests of tasks in lent tables.
use Rattle.std.specs.Prelude.{ℕ, zero, suc, ◌-◌, List, Bool, ◌||◌, not, eqb}
use Rattle.plan.specs.Plan.{Vcpu}
use Rattle.plan_tables.specs.Layout.{task_width, cell}
use Rattle.plan_tables.specs.Given.{guest_for}

-- the guest of task i
unfoldable pub host_of : List Vcpu → List ℕ → ℕ → ℕ
host_of vs t i = guest_for vs (cell t task_width i 0)

-- task i is the first, or its guest is another than that of the task before it
unfoldable pub begins : List Vcpu → List ℕ → ℕ → Bool
begins vs t i = eqb i 0 || not (eqb (host_of vs t i) (host_of vs t (i - 1)))

-- the guest of the task before task i, 0 before the first
abbrev pub last_at : List Vcpu → List ℕ → ℕ → ℕ
last_at vs t zero = 0
last_at vs t (suc i) = host_of vs t i
