-- The bases and the rows of the searches of equations 5 and 11, as code works them out.
use Rattle.std.specs.Prelude.{ℕ, ◌+◌, ◌*◌, ◌≡◌, Bool, true, false, ◌&&◌, not, ◌≢◌, List, ◌++◌, map, eqb, ltb}
use Rattle.laws.specs.Choice.{when}
use Rattle.laws.specs.Sums.{sum, only}
use Rattle.search.specs.Row.{Row, pushed}
use Rattle.plan.specs.declared.Policy.{Policy}
use Rattle.plan.specs.declared.Policy.TheVariants.{Periodic, Deferrable}
use Rattle.plan.specs.declared.Lock.{Lock}
use Rattle.plan.specs.Plan.{Vcpu, Task}
use Rattle.figures.specs.System.{System}
use Rattle.figures.specs.Figures.{lower_on, higher_on, global_sum, ght, jitter, vcpu_start, response}

-- a task that costs something, and its row: that cost in each of its periods
abbrev pub costs : (Task → ℕ) → Task → Bool
costs cost k = ltb 0 (cost k)

unfoldable pub cost_row : (Task → ℕ) → Task → Row
cost_row cost k = record { shift = 0; period = k.period; cost = cost k }

-- rows xs, n of them, after a task of period p that costs c: ys, m of them
pub record Added (xs : List ℕ) (n p c : ℕ) (ys : List ℕ) (m : ℕ) : Type 0 where
  pub none : c ≡ 0 → (ys ≡ xs) × (m ≡ n)
  pub some : c ≢ 0 → (ys ≡ pushed xs n (record { shift = 0; period = p; cost = c })) × (m ≡ n + 1)

abbrev pub cost_rows : (Task → ℕ) → List Task → List Row
cost_rows cost ks = map (cost_row cost) (only (costs cost) ks)

-- EQUATION 5
abbrev pub is_deferrable : Policy → Bool
is_deferrable Periodic = false
is_deferrable Deferrable = true

-- how many of the lower VCPUs on the core of x are v
unfoldable pub lower_times : System → Vcpu → ℕ → ℕ
lower_times s x v = sum (λ y. when (lower_on x y && eqb v y.v) 1) s.vcpus

-- under D, what a task of lower VCPUs costs x
unfoldable pub blocking_cost : Bool → System → Vcpu → Task → ℕ
blocking_cost d s x k = when d (lower_times s x k.v * global_sum s k)

-- under P, what a lower VCPU costs x
unfoldable pub blocking_ght : Bool → System → Vcpu → Vcpu → ℕ
blocking_ght d s x y = when (not d && lower_on x y) (ght s y.v)

-- the row of a higher VCPU
unfoldable pub higher_row : System → Vcpu → Row
higher_row s y = record { shift = jitter s.policy y; period = y.period; cost = vcpu_start s y }

unfoldable pub vcpu_base : Bool → System → Vcpu → ℕ
vcpu_base d s x = vcpu_start s x + sum (blocking_ght d s x) s.vcpus + sum (blocking_cost d s x) s.tasks

abbrev pub vcpu_rows : Bool → System → Vcpu → List Row
vcpu_rows d s x = cost_rows (blocking_cost d s x) s.tasks ++ map (higher_row s) (only (higher_on x) s.vcpus)

-- EQUATION 11
-- the response of a task's lock where its mutex is m
abbrev pub response_on : System → ℕ → Task → Lock → ℕ
response_on s m k l = when (eqb l.m m) (response s k l)

-- what a task costs a wait of VCPU v on m; 0 for a task of no higher VCPU
unfoldable pub wait_cost : System → ℕ → ℕ → Task → ℕ
wait_cost s v m k = when (ltb v k.v) (sum (response_on s m k) k.locks)
