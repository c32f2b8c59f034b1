-- What the judge of the rules knows and what the judge in code has seen are the same: every lookup in rows is one by place.
use Rattle.std.specs.Prelude.{ℕ, ◌+◌, ◌<◌, ◌≡◌, List, ◌&&◌, eqb, leb, length, get_or}
use Rattle.plan.specs.Limits.{max_v, max_guest, max_m}
use Rattle.plan.specs.Plan.{Vcpu, Mutex, Open}
use Rattle.plan.specs.Lookup.{has_vcpu, is_vcpu_of, has_guest, has_mutex, local_to, opened}
use Rattle.plan.specs.Lookup as lookup
use Rattle.plan.specs.Rules.{Known, within, last_v, last_m, last_open}
use Rattle.judge_coded.specs.Coded.{Seen, global, openings, slot}

-- the VCPUs: by v the guest, by guest whether it has one; nothing above the last v
pub record VcpusSame (vs : List Vcpu) (guests hosted : List ℕ) (top : ℕ) : Type 0 where
  pub long : length guests ≡ max_v + 1
  pub broad : length hosted ≡ max_guest + 1
  pub top_is : last_v vs ≡ top
  pub has : (v : ℕ) → has_vcpu vs v ≡ leb 1 (get_or guests v 0)
  pub of : (g v : ℕ) → is_vcpu_of vs g v ≡ (leb 1 (get_or guests v 0) && eqb (get_or guests v 0) g)
  pub host : (g : ℕ) → has_guest vs g ≡ eqb (get_or hosted g 0) 1
  pub above : (w : ℕ) → top < w → get_or guests w 0 ≡ 0

-- the mutexes: by m the owner; nothing above the last m
pub record MutexesSame (ms : List Mutex) (owners : List ℕ) (top : ℕ) : Type 0 where
  pub long : length owners ≡ max_m + 1
  pub top_is : last_m ms ≡ top
  pub has : (m : ℕ) → has_mutex ms m ≡ leb 1 (get_or owners m 0)
  pub is_global_law : (m : ℕ) → lookup.global ms m ≡ eqb (get_or owners m 0) global
  pub is_local_law : (v m : ℕ) → local_to ms v m ≡ (within (get_or owners m 0) 1 max_v && eqb (get_or owners m 0) v)
  pub above : (w : ℕ) → top < w → get_or owners w 0 ≡ 0

-- the openings: by m and guest whether there is one
pub record OpensSame (os : List Open) (opens : List ℕ) (m g : ℕ) : Type 0 where
  pub long : length opens ≡ openings
  pub m_is : (last_open os).m ≡ m
  pub guest_is : (last_open os).guest ≡ g
  pub has : (g m : ℕ) → opened os g m ≡ eqb (get_or opens (slot m g) 0) 1

pub record Same (t : Known) (s : Seen) : Type 0 where
  pub phase_is : t.phase ≡ s.phase
  pub vcpus : VcpusSame t.vcpus s.guests s.hosted s.vcpu
  pub mutexes : MutexesSame t.mutexes s.owners s.mutex
  pub opens : OpensSame t.opens s.opens s.shared s.sharer
  pub guest_is : t.guest ≡ s.guest
  pub v_is : t.v ≡ s.v
  pub n_is : t.n ≡ s.n
  pub tasks_is : t.tasks ≡ s.tasks
  pub locks_is : t.locks ≡ s.locks
