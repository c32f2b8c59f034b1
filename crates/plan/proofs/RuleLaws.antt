-- A line is clear exactly when it is valid, in the words of Valid, after what is known before it.
use Rattle.std.specs.Prelude.{ℕ, ◌≤◌, ◌<◌, ◌≡◌, refl, [], ◌∷◌, ◌↔◌, Bool, true, false, ◌||◌, ◌&&◌, eqb, leb, ltb, Ok}
use Rattle.std.proofs.Common.{inl, inr, eqb-true, eq-eqb, leb-true, ltb-true, lt-ltb}
use Rattle.std.proofs.Math.Bool.{and-true}
use native.Mathlib.Omega.{arith}
use Rattle.laws.specs.BoolLaws.{both_left, both_right, both, either_left, either_right, leb_exactly}
use Rattle.plan.specs.Limits.{max_guest, max_m, max_v, max_n, max_period, max_length, max_tasks, max_locks}
use Rattle.plan.specs.Refusals.{Refusal, unless}
use Rattle.plan.specs.Line.{shape, written, VcpuLine, OpenLine, GuestLine, TaskLine, RunLine, LockLine, EndLine}
use Rattle.plan.specs.Plan.{Vcpu, Owner, Global, Local, Open}
use Rattle.plan.specs.Declares.{VcpuOf, SomeVcpuOf, Reach}
use Rattle.plan.specs.Text.{item, vcpu_item, owned_item, open_item, run_item}
use Rattle.plan.specs.Rules.{Known, within, follows, rule, tests_of, rises, vcpu_fits, last_v, last_m, last_open}
use Rattle.plan.specs.Reading.{rules, fault}
use Rattle.plan.specs.Valid.{In, PairRises, VcpuValid, MutexValid, OpenValid}
use Rattle.plan.specs.JudgeLaws.{unless_clear, fault_clear}
use Rattle.plan.proofs.LookupLaws.{declared_exactly, vcpu_of_exactly, guest_exactly, mutex_exactly, global_exactly, reach_exactly, of_declared, reach_declared}

-- tests and what they say
and_both : (a b : Bool) → ((a && b) ≡ true) ↔ ((a ≡ true) × (b ≡ true))
and_both a b = (λ h. (both_left a b h, both_right a b h), λ h. both a b h.0 h.1)

-- what a number in range is
pub in_range_law : (x lo hi : ℕ) → within x lo hi ≡ true → (lo ≤ x) × (x ≤ hi)
in_range_law x lo hi e = (leb-true lo x (both_left (leb lo x) (leb x hi) e), leb-true x hi (both_right (leb lo x) (leb x hi) e))

rises_pair : (a b c d : ℕ) → (rises a b c d ≡ true) ↔ PairRises a b c d
rises_pair a b c d = (
  λ h. go (ltb a c) refl h,
  elim [
    | inl e ↦ either_left (ltb a c) (eqb a c && ltb b d) (lt-ltb a c e)
    | inr e ↦ either_right (ltb a c) (eqb a c && ltb b d) (both (eqb a c) (ltb b d) (eq-eqb a c e.0) (lt-ltb b d e.1))
  ],
)
  where
    go : (t : Bool) → ltb a c ≡ t → (t || (eqb a c && ltb b d)) ≡ true → PairRises a b c d
    go true e h = inl (ltb-true a c e)
    go false e h = inr (eqb-true a c (both_left (eqb a c) (ltb b d) h), ltb-true b d (both_right (eqb a c) (ltb b d) h))

unless_last : (b : Bool) (r : Refusal) → (unless b r (Ok tt) ≡ Ok tt) ↔ (b ≡ true)
unless_last b r = (λ h. ((unless_clear b r (Ok tt)).0 h).0, λ h. (unless_clear b r (Ok tt)).1 (h, refl))

ruleset tests = (unless_last, unless_clear, and-true, and_both, leb_exactly, rises_pair, declared_exactly, vcpu_of_exactly, guest_exactly, mutex_exactly, global_exactly, reach_exactly)

module _ (t : Known) where
  pub vcpu_clear : (r : Vcpu) → follows t.phase VcpuLine ≡ true → (fault rules t (vcpu_item r) ≡ Ok tt) ↔ (VcpuValid r × (last_v t.vcpus < r.v))
  unfolding rule tests_of vcpu_fits written shape
  vcpu_clear r f = simp (fault_clear rules t (vcpu_item r) f, tests) (omega arith)

  pub mutex_clear :
      (m : ℕ) (o : Owner) → within t.phase 3 4 ≡ true →
      (fault rules t (owned_item m o) ≡ Ok tt) ↔ (MutexValid t.vcpus (record { m = m; owner = o }) × (last_m t.mutexes < m))
  unfolding follows rule tests_of written shape
  mutex_clear m Global f = simp (fault_clear rules t (owned_item m Global) f, tests) (λ h. search (tt, arith), λ h. search arith)
  mutex_clear m (Local v) f = simp (fault_clear rules t (owned_item m (Local v)) f, tests) (λ h. search arith, λ h. search arith)

  pub open_clear :
      (r : Open) → follows t.phase OpenLine ≡ true →
      (fault rules t (open_item r) ≡ Ok tt)
      ↔ (OpenValid t.vcpus t.mutexes r × PairRises (last_open t.opens).m (last_open t.opens).guest r.m r.guest)
  unfolding rule tests_of written shape
  open_clear r f = simp (fault_clear rules t (open_item r) f, tests) (λ h. search arith, λ h. search arith)

  pub guest_clear_law :
      (g : ℕ) → follows t.phase GuestLine ≡ true →
      (fault rules t (item GuestLine (g ∷ [])) ≡ Ok tt) ↔ (In g 1 max_guest × (t.guest < g) × SomeVcpuOf t.vcpus g)
  unfolding rule tests_of written shape
  guest_clear_law g f = simp (fault_clear rules t (item GuestLine (g ∷ [])) f, tests) (λ h. search arith, λ h. search arith)

  pub task_clear_law :
      (v n p : ℕ) → follows t.phase TaskLine ≡ true →
      (fault rules t (item TaskLine (v ∷ n ∷ p ∷ [])) ≡ Ok tt)
      ↔ (In v 1 max_v × In n 1 max_n × In p 1 max_period × PairRises t.v t.n v n × VcpuOf t.vcpus t.guest v × (t.tasks < max_tasks))
  unfolding rule tests_of written shape
  task_clear_law v n p f = simp (fault_clear rules t (item TaskLine (v ∷ n ∷ p ∷ [])) f, tests) (λ h. search arith, λ h. search (of_declared, arith))

  pub run_clear_law : (x : ℕ) → follows t.phase RunLine ≡ true → (fault rules t (run_item x) ≡ Ok tt) ↔ In x 0 max_length
  unfolding rule tests_of written shape
  run_clear_law x f = simp (fault_clear rules t (run_item x) f, tests) (omega arith)

  pub lock_clear_law :
      (m x : ℕ) → follows t.phase LockLine ≡ true →
      (fault rules t (item LockLine (m ∷ x ∷ [])) ≡ Ok tt)
      ↔ (In m 1 max_m × In x 1 max_length × Reach t.mutexes t.opens t.guest t.v m × (t.locks < max_locks))
  unfolding rule tests_of written shape
  lock_clear_law m x f = simp (fault_clear rules t (item LockLine (m ∷ x ∷ [])) f, tests) (λ h. search arith, λ h. search (reach_declared, arith))

  pub end_clear : follows t.phase EndLine ≡ true → fault rules t (item EndLine []) ≡ Ok tt
  unfolding rule tests_of written shape
  end_clear f = (fault_clear rules t (item EndLine []) f).1 (refl, refl)
