-- What the facts of an accepted plan satisfy.
use Rattle.std.specs.Prelude.{ℕ, ◌≤◌, ◌<◌, ◌≡◌, true, false}
use Rattle.board_rules.specs.Facts.{Facts}
pub use Rattle.board_rules.specs.Names.{InV, InN, InM}

pub record Fair (F : Facts) : Type 0 where
  -- a VCPU of the plan is in range and has a budget; another has neither budget nor overrun
  pub vcpu_in : (v : ℕ) → F.has_vcpu v ≡ true → InV v
  pub vcpu_budget : (v : ℕ) → F.has_vcpu v ≡ true → 0 < F.budget v
  pub no_budget : (v : ℕ) → F.has_vcpu v ≡ false → F.budget v ≡ 0
  pub no_overrun : (v : ℕ) → F.has_vcpu v ≡ false → F.overrun v ≡ 0
  -- a task of the plan is of a VCPU of the plan, and in range; a mutex of the plan is in range
  pub task_vcpu : (v n : ℕ) → F.has_task v n ≡ true → F.has_vcpu v ≡ true
  pub task_in_law : (v n : ℕ) → F.has_task v n ≡ true → InN n
  pub mutex_in : (m : ℕ) → F.has_mutex m ≡ true → InM m
  -- a sheet is of a task of the plan, and what it locks is a mutex of the plan, global or local to the task's VCPU, with a ceiling not below the task
  pub sheet_task : (v n m : ℕ) → F.lists v n m ≡ true → F.has_task v n ≡ true
  pub sheet_mutex : (v n m : ℕ) → F.lists v n m ≡ true → F.has_mutex m ≡ true
  pub sheet_local : (v n m : ℕ) → F.lists v n m ≡ true → F.global m ≡ false → F.local_to v m ≡ true
  pub sheet_ceiling : (v n m : ℕ) → F.lists v n m ≡ true → n ≤ F.ceiling m
  -- a local mutex is not global, and is local to one VCPU
  pub local_only : (v m : ℕ) → F.local_to v m ≡ true → F.global m ≡ false
  pub local_one : (v w m : ℕ) → F.local_to v m ≡ true → F.local_to w m ≡ true → v ≡ w

-- the VCPU of a task, and the names in a sheet, are in range
pub task_v : {F : Facts} → Fair F → (v n : ℕ) → F.has_task v n ≡ true → InV v
task_v f v n e = f.vcpu_in v (f.task_vcpu v n e)

pub sheet_v : {F : Facts} → Fair F → (v n m : ℕ) → F.lists v n m ≡ true → InV v
sheet_v f v n m l = task_v f v n (f.sheet_task v n m l)

pub sheet_n : {F : Facts} → Fair F → (v n m : ℕ) → F.lists v n m ≡ true → InN n
sheet_n f v n m l = f.task_in_law v n (f.sheet_task v n m l)

pub sheet_m : {F : Facts} → Fair F → (v n m : ℕ) → F.lists v n m ≡ true → InM m
sheet_m f v n m l = f.mutex_in m (f.sheet_mutex v n m l)
