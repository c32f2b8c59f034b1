-- Parts of the figures, as code works them out.
use Rattle.std.specs.Prelude.{ℕ, Bool, ◌&&◌}
use Rattle.laws.specs.Choice.{when}
use Rattle.laws.specs.Sums.{sum, greatest}
use Rattle.plan.specs.declared.Lock.{Lock}
use Rattle.plan.specs.Plan.{Task}
use Rattle.plan.specs.Lookup.{local_to}
use Rattle.figures.specs.System.{System}
use Rattle.figures.specs.Figures.{lower_task, higher_task, longest_global, ceiling, ceiling_counts, longest_local}

-- a lock of a task of VCPU v is a local section that counts for priority n
abbrev pub counts_local : System → ℕ → ℕ → Lock → Bool
counts_local p n v l = local_to p.mutexes v l.m && ceiling_counts n (ceiling p l.m)

-- the ticks of such a lock, 0 for another
abbrev pub local_ticks : System → ℕ → ℕ → Lock → ℕ
local_ticks p n v l = when (counts_local p n v l) l.ticks

-- the greatest and the sum of equations 7 to 9
unfoldable pub greatest_local : System → Task → ℕ
greatest_local p k = greatest (λ h. when (lower_task k h) (longest_local p k.n h)) p.tasks

unfoldable pub lower_sum : System → Task → ℕ
lower_sum p k = sum (λ h. when (lower_task k h) (longest_global p h)) p.tasks

-- the sum of equation 12
unfoldable pub higher_sum : System → Task → ℕ
higher_sum p k = sum (λ h. when (higher_task k h) (longest_global p h)) p.tasks
