-- What the board asks of a plan: look-ups by the names v, n and m.
use Rattle.std.specs.Prelude.{ℕ, Bool, ◌&&◌, eqb}
use Rattle.laws.specs.Sums.{any}
use Rattle.plan.specs.declared.Policy.{Policy}
use Rattle.plan.specs.declared.OverrunChoice.{OverrunChoice}
use Rattle.plan.specs.Lookup as lookup
use Rattle.figures.specs.System.{System}
use Rattle.figures.specs.Figures.{vcpu_at, overrun_of, locks_it}
use Rattle.figures.specs.Figures as figures
use Rattle.figures.specs.Named as named

pub record Facts : Type 0 where
  pub policy : Policy
  pub choice : OverrunChoice
  -- VCPU v is in the plan; its budget and its O, 0 for a VCPU that the plan lacks
  pub has_vcpu : ℕ → Bool
  pub budget : ℕ → ℕ
  pub overrun : ℕ → ℕ
  -- task (v, n) is in the plan; its sheet locks m
  pub has_task : ℕ → ℕ → Bool
  pub lists : ℕ → ℕ → ℕ → Bool
  -- mutex m is in the plan; it is global; it is local to v; its ceiling
  pub has_mutex : ℕ → Bool
  pub global : ℕ → Bool
  pub local_to : ℕ → ℕ → Bool
  pub ceiling : ℕ → ℕ

unfoldable pub lists : System → ℕ → ℕ → ℕ → Bool
lists s v n m = any (λ k. (eqb k.v v && eqb k.n n) && locks_it m k) s.tasks

-- the facts of a plan
unfoldable pub facts_of : System → Facts
facts_of s = record {
  policy = s.policy;
  choice = s.overrun;
  has_vcpu = λ v. lookup.has_vcpu s.vcpus v;
  budget = λ v. (vcpu_at s v).budget;
  overrun = λ v. overrun_of s v;
  has_task = λ v n. named.has_task s v n;
  lists = λ v n m. lists s v n m;
  has_mutex = λ m. lookup.has_mutex s.mutexes m;
  global = λ m. lookup.global s.mutexes m;
  local_to = λ v m. lookup.local_to s.mutexes v m;
  ceiling = λ m. figures.ceiling s m;
}
