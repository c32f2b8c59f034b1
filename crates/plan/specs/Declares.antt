-- What it is for a VCPU, a guest or a mutex to be declared, and for a mutex to be within a task's reach: by the rows that say so.
use Rattle.std.specs.Prelude.{ℕ, ◌≡◌, ◌⊎◌, List}
use Rattle.laws.specs.Sums.{Has}
use Rattle.plan.specs.Plan.{Vcpu, Global, Local, Mutex, Open}

-- VCPU v is declared
abbrev pub Declared : List Vcpu → ℕ → Type 0
Declared vs v = Has (λ r. r.v ≡ v) vs

-- VCPU v is declared and is guest g's
abbrev pub VcpuOf : List Vcpu → ℕ → ℕ → Type 0
VcpuOf vs g v = Has (λ r. (r.v ≡ v) × (r.guest ≡ g)) vs

-- guest g has a VCPU declared
abbrev pub SomeVcpuOf : List Vcpu → ℕ → Type 0
SomeVcpuOf vs g = Has (λ r. r.guest ≡ g) vs

-- mutex m is declared
abbrev pub MutexDeclared : List Mutex → ℕ → Type 0
MutexDeclared ms m = Has (λ r. r.m ≡ m) ms

-- mutex m is declared global
abbrev pub GlobalMutex : List Mutex → ℕ → Type 0
GlobalMutex ms m = Has (λ r. (r.m ≡ m) × (r.owner ≡ Global)) ms

-- mutex m is declared local to VCPU v
abbrev pub LocalMutex : List Mutex → ℕ → ℕ → Type 0
LocalMutex ms v m = Has (λ r. (r.m ≡ m) × (r.owner ≡ Local v)) ms

-- mutex m is opened to guest g
abbrev pub OpenTo : List Open → ℕ → ℕ → Type 0
OpenTo os g m = Has (λ r. (r.m ≡ m) × (r.guest ≡ g)) os

-- a task of VCPU v in guest g's section may lock m: it is local to v, or a global one opened to g
abbrev pub Reach : List Mutex → List Open → ℕ → ℕ → ℕ → Type 0
Reach ms os g v m = LocalMutex ms v m ⊎ (GlobalMutex ms m × OpenTo os g m)
