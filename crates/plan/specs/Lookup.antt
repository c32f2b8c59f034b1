-- What the host lines declare: which VCPU, guest, mutex and opening there is.
use Rattle.std.specs.Prelude.{ℕ, List, Bool, true, false, ◌&&◌, ◌||◌, eqb}
use Rattle.laws.specs.Sums.{any}
use Rattle.plan.specs.Plan.{Vcpu, Owner, Global, Local, Mutex, Open}

-- VCPU v is declared
unfoldable pub has_vcpu : List Vcpu → ℕ → Bool
has_vcpu vs v = any (λ r. eqb r.v v) vs

-- VCPU v is declared and is guest g's
unfoldable pub is_vcpu_of : List Vcpu → ℕ → ℕ → Bool
is_vcpu_of vs g v = any (λ r. eqb r.v v && eqb r.guest g) vs

-- guest g has a VCPU declared
unfoldable pub has_guest : List Vcpu → ℕ → Bool
has_guest vs g = any (λ r. eqb r.guest g) vs

abbrev pub is_global : Owner → Bool
is_global Global = true
is_global (Local w) = false

abbrev pub is_local_to : ℕ → Owner → Bool
is_local_to v Global = false
is_local_to v (Local w) = eqb w v

-- mutex m is declared
unfoldable pub has_mutex : List Mutex → ℕ → Bool
has_mutex ms m = any (λ r. eqb r.m m) ms

-- mutex m is declared global
unfoldable pub global : List Mutex → ℕ → Bool
global ms m = any (λ r. eqb r.m m && is_global r.owner) ms

-- mutex m is declared local to VCPU v
unfoldable pub local_to : List Mutex → ℕ → ℕ → Bool
local_to ms v m = any (λ r. eqb r.m m && is_local_to v r.owner) ms

-- mutex m is opened to guest g
unfoldable pub opened : List Open → ℕ → ℕ → Bool
opened os g m = any (λ r. eqb r.m m && eqb r.guest g) os

-- a task of VCPU v in guest g's section may lock m: it is local to v, or a global one opened to g
abbrev pub reaches : List Mutex → List Open → ℕ → ℕ → ℕ → Bool
reaches ms os g v m = local_to ms v m || (global ms m && opened os g m)
