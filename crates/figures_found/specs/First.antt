-- The first row that a name has, by its number, and what that number says of the plan in the tables.
use Rattle.std.specs.Prelude.{ℕ, ◌<◌, ◌≤◌, ◌≡◌, Bool, true, ◌&&◌, List, ltb}
use Rattle.std.proofs.Common.{sym, ◌∙◌, arith}
use borrow.Author.Tests.{lt-ltb, le-ltb, ltb-true}
use Rattle.std.proofs.Math.Dec.{eqb}
use Rattle.laws.specs.Sums.{any, first}
use Rattle.laws.specs.SumLaws as sums
use Rattle.laws.specs.Rows.{rows, Lacking}
use Rattle.laws.specs.RowLaws.{any_found, lacking_all}
use Rattle.laws.specs.FirstLaws.{first_row}
use Rattle.plan.specs.Lookup.{has_vcpu}
use Rattle.plan_tables.specs.declared.PlanRecord.{PlanRecord}
use Rattle.plan_tables.specs.Layout.{vcpu_row, task_row}
use Rattle.figures.specs.Tabled.{system_in}
use Rattle.figures.specs.Figures.{no_vcpu, vcpu_at}
use Rattle.figures.specs.Named.{no_task, has_task, task_at}

-- THE FIRST ROW THAT PASSES, by its number: row i is the first of n rows that passes; i is at least n where none does
pub record FirstAt {A : Type 0} (q : A → Bool) (d : A) (row : ℕ → A) (n i : ℕ) : Type 0 where
  pub is : any q (rows n row) ≡ ltb i n
  pub at : i < n → first q d (rows n row) ≡ row i

module _ {A : Type 0} {q : A → Bool} (d : A) {row : ℕ → A} {n i : ℕ} (h : Lacking q row n i) where
  pub first_here : i < n → q (row i) ≡ true → FirstAt q d row n i
  first_here l e = record { is = any_found q row n i l e ∙ sym (lt-ltb i n l); at = λ m. first_row q d row n i h l e }

  pub first_none : n ≤ i → FirstAt q d row n i
  first_none l = record { is = sym (lacking_all h l) ∙ sym (le-ltb i n l); at = λ m. absurd (omega arith) }

abbrev pub VcpuFirst : PlanRecord → List ℕ → ℕ → ℕ → Type 0
VcpuFirst r vt v i = FirstAt (λ x. eqb x.v v) no_vcpu (vcpu_row vt) r.vcpus i

abbrev pub TaskFirst : PlanRecord → List ℕ → ℕ → ℕ → ℕ → Type 0
TaskFirst r ts v n i = FirstAt (λ k. eqb k.v v && eqb k.n n) no_task (task_row ts) r.tasks i

-- WHAT THE PLAN HAS of that name: the row, or none
module _ (r : PlanRecord) (vt : List ℕ) (v : ℕ) {i : ℕ} (h : VcpuFirst r vt v i) where
  pub vcpu_test : has_vcpu (rows r.vcpus (vcpu_row vt)) v ≡ ltb i r.vcpus
  unfolding has_vcpu
  vcpu_test = h.is

  -- a VCPU that is there has its row
  pub vcpu_within : has_vcpu (rows r.vcpus (vcpu_row vt)) v ≡ true → i < r.vcpus
  vcpu_within e = ltb-true i r.vcpus (sym vcpu_test ∙ e)

  module _ (mt ts : List ℕ) where
    pub vcpu_is : i < r.vcpus → vcpu_at (system_in r vt mt ts) v ≡ vcpu_row vt i
    unfolding vcpu_at system_in
    vcpu_is l = h.at l

    pub vcpu_none : r.vcpus ≤ i → vcpu_at (system_in r vt mt ts) v ≡ no_vcpu
    unfolding vcpu_at system_in
    vcpu_none l = sums.first_none (λ x. eqb x.v v) no_vcpu (rows r.vcpus (vcpu_row vt)) (h.is ∙ le-ltb i r.vcpus l)

module _ (r : PlanRecord) (vt mt ts : List ℕ) (v n : ℕ) {i : ℕ} (h : TaskFirst r ts v n i) where
  pub task_test : has_task (system_in r vt mt ts) v n ≡ ltb i r.tasks
  unfolding has_task system_in
  task_test = h.is

  pub task_is : i < r.tasks → task_at (system_in r vt mt ts) v n ≡ task_row ts i
  unfolding task_at system_in
  task_is l = h.at l
