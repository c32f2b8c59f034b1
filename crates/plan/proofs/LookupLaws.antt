-- What each look-up says: that there is such a row; and what one says of another.
use Rattle.std.specs.Prelude.{ℕ, ◌≡◌, refl, List, ◌↔◌, true, ◌&&◌}
use Rattle.std.proofs.Common.{ap, ◌∙◌, inl, inr, ⊎_elim, true≢false, eqb-true, eq-eqb}
use Rattle.std.proofs.lemmas.Bool.{false≢true}
use Rattle.laws.specs.BoolLaws.{both_exactly, eqb_exactly, either_left, either_right, either_of}
use Rattle.laws.specs.SumLaws.{any_exactly}
use Rattle.plan.specs.Plan.{Vcpu, Owner, Global, Local, Mutex, Open}
use Rattle.plan.specs.Lookup.{has_vcpu, is_vcpu_of, has_guest, is_global, is_local_to, has_mutex, global, local_to, opened, reaches}
use Rattle.plan.specs.Declares.{Declared, VcpuOf, SomeVcpuOf, MutexDeclared, GlobalMutex, LocalMutex, OpenTo, Reach}

-- THE VCPUS

pub declared_exactly : (vs : List Vcpu) (v : ℕ) → (has_vcpu vs v ≡ true) ↔ Declared vs v
unfolding has_vcpu
declared_exactly vs v = any_exactly _ vs (λ r. eqb_exactly r.v v)

pub vcpu_of_exactly : (vs : List Vcpu) (g v : ℕ) → (is_vcpu_of vs g v ≡ true) ↔ VcpuOf vs g v
unfolding is_vcpu_of
vcpu_of_exactly vs g v = any_exactly _ vs (λ r. both_exactly (eqb_exactly r.v v) (eqb_exactly r.guest g))

pub guest_exactly : (vs : List Vcpu) (g : ℕ) → (has_guest vs g ≡ true) ↔ SomeVcpuOf vs g
unfolding has_guest
guest_exactly vs g = any_exactly _ vs (λ r. eqb_exactly r.guest g)

-- THE MUTEXES AND THEIR OWNERS

is_global_exactly : (o : Owner) → (is_global o ≡ true) ↔ (o ≡ Global)
is_global_exactly Global = (λ e. refl, λ e. refl)
is_global_exactly (Local w) = (λ e. absurd (false≢true e), ap is_global)

is_local_exactly : (v : ℕ) (o : Owner) → (is_local_to v o ≡ true) ↔ (o ≡ Local v)
is_local_exactly v Global = (λ e. absurd (false≢true e), λ e. absurd (true≢false (ap is_global e)))
is_local_exactly v (Local w) = (λ e. ap Local (eqb-true w v e), λ e. ap (is_local_to v) e ∙ eq-eqb v v refl)

pub mutex_exactly : (ms : List Mutex) (m : ℕ) → (has_mutex ms m ≡ true) ↔ MutexDeclared ms m
unfolding has_mutex
mutex_exactly ms m = any_exactly _ ms (λ r. eqb_exactly r.m m)

pub global_exactly : (ms : List Mutex) (m : ℕ) → (global ms m ≡ true) ↔ GlobalMutex ms m
unfolding global
global_exactly ms m = any_exactly _ ms (λ r. both_exactly (eqb_exactly r.m m) (is_global_exactly r.owner))

pub local_exactly : (ms : List Mutex) (v m : ℕ) → (local_to ms v m ≡ true) ↔ LocalMutex ms v m
unfolding local_to
local_exactly ms v m = any_exactly _ ms (λ r. both_exactly (eqb_exactly r.m m) (is_local_exactly v r.owner))

pub open_exactly : (os : List Open) (g m : ℕ) → (opened os g m ≡ true) ↔ OpenTo os g m
unfolding opened
open_exactly os g m = any_exactly _ os (λ r. both_exactly (eqb_exactly r.m m) (eqb_exactly r.guest g))

pub reach_exactly : (ms : List Mutex) (os : List Open) (g v m : ℕ) → (reaches ms os g v m ≡ true) ↔ Reach ms os g v m
reach_exactly ms os g v m =
    let l = local_exactly ms v m in
    let o = both_exactly (global_exactly ms m) (open_exactly os g m) in (
      λ h. ⊎_elim (λ e. inl (l.0 e)) (λ e. inr (o.0 e)) (either_of (local_to ms v m) (global ms m && opened os g m) h),
      ⊎_elim (λ e. either_left (local_to ms v m) _ (l.1 e)) (λ e. either_right (local_to ms v m) _ (o.1 e)),
    )

-- WHAT ONE SAYS OF ANOTHER

-- a guest's VCPU is declared
pub of_declared : (vs : List Vcpu) (g v : ℕ) → VcpuOf vs g v → Declared vs v
of_declared vs g v h = (h.0, h.1, h.2.0)

-- a mutex within reach is declared
pub reach_declared : (ms : List Mutex) (os : List Open) (g v m : ℕ) → Reach ms os g v m → MutexDeclared ms m
reach_declared ms os g v m = ⊎_elim (λ h. (h.0, h.1, h.2.0)) (λ h. (h.0.0, h.0.1, h.0.2.0))
