-- Every kind is in the list of kinds: what holds of each of the list holds of every kind.
use Rattle.std.specs.Prelude.{◌≡◌, Bool, true}
use Rattle.laws.specs.Sums.{all, only, Each}
use Rattle.laws.specs.SumLaws.{all_each}
use Rattle.plan.specs.ListLaws.{only_each}
use Rattle.plan.specs.Line.{Kind, kinds, PlanLine, PolicyPO, PolicyPN, PolicyDO, PolicyDN, VcpuLine, MutexG, MutexL, OpenLine, GuestLine, TaskLine, RunLine, LockLine, EndLine, AskLine, FreeLine, UseLine, TopLine, ShowLine}

pub each_kind : (P : Kind → Type 0) → Each P kinds → (k : Kind) → P k
each_kind P h PlanLine = h.0
each_kind P h PolicyPO = h.1.0
each_kind P h PolicyPN = h.1.1.0
each_kind P h PolicyDO = h.1.1.1.0
each_kind P h PolicyDN = h.1.1.1.1.0
each_kind P h VcpuLine = h.1.1.1.1.1.0
each_kind P h MutexG = h.1.1.1.1.1.1.0
each_kind P h MutexL = h.1.1.1.1.1.1.1.0
each_kind P h OpenLine = h.1.1.1.1.1.1.1.1.0
each_kind P h GuestLine = h.1.1.1.1.1.1.1.1.1.0
each_kind P h TaskLine = h.1.1.1.1.1.1.1.1.1.1.0
each_kind P h RunLine = h.1.1.1.1.1.1.1.1.1.1.1.0
each_kind P h LockLine = h.1.1.1.1.1.1.1.1.1.1.1.1.0
each_kind P h EndLine = h.1.1.1.1.1.1.1.1.1.1.1.1.1.0
each_kind P h AskLine = h.1.1.1.1.1.1.1.1.1.1.1.1.1.1.0
each_kind P h FreeLine = h.1.1.1.1.1.1.1.1.1.1.1.1.1.1.1.0
each_kind P h UseLine = h.1.1.1.1.1.1.1.1.1.1.1.1.1.1.1.1.0
each_kind P h TopLine = h.1.1.1.1.1.1.1.1.1.1.1.1.1.1.1.1.1.0
each_kind P h ShowLine = h.1.1.1.1.1.1.1.1.1.1.1.1.1.1.1.1.1.1.0

-- a test that each kind of the list passes
pub all_kind : (f : Kind → Bool) → all f kinds ≡ true → (k : Kind) → f k ≡ true
all_kind f h = each_kind (λ k. f k ≡ true) (all_each f kinds h)

-- what holds of each kind of the list that passes a test
pub only_kind : (f : Kind → Bool) (P : Kind → Type 0) → Each P (only f kinds) → (k : Kind) → f k ≡ true → P k
only_kind f P h = each_kind (λ k. f k ≡ true → P k) (only_each f P kinds h)
