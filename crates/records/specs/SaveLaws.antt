-- Laws of the way back: a record that is read, and one more that is written.
use Rattle.std.specs.Prelude.{ℕ, suc, ◌+◌, ◌*◌, ◌≤◌, ◌<◌, ◌≡◌, refl, List, [], ◌∷◌, ◌++◌, length, drop, get_or, set}
use Rattle.std.proofs.Common.{ap, sym, ◌∙◌, mul-le-mul_right, suc-mul, add-one, arith, length-append, length-drop, drop-cons}
use Rattle.std.proofs.Math.ListN.{get_or-append}
use Rattle.std.proofs.lemmas.List.{set_at}
use Rattle.std.proofs.Math.Seq.{append_snoc}
use Rattle.laws.specs.Sums.{flat}
use Rattle.laws.specs.Rows.{rows}
use Rattle.laws.specs.RowLaws.{rows_length, rows_same}
use Rattle.plan.specs.Limits.{max_locks}
use Rattle.plan.specs.declared.Lock.{Lock}
use Rattle.plan_tables.specs.Layout.{task_width, lock_width, first_lock, cell, lock_row}
use Rattle.records.specs.Sheet.{Task, blank_task, locks_to, task_nums, task_of, saved}

-- A RECORD IS READ

pub lock_read :
    (t : List ℕ) (i j a b c : ℕ) → a ≡ get_or t (i * task_width + (first_lock + j * lock_width)) 0 → b ≡ get_or t (i * task_width + (first_lock + j * lock_width) + 1) 0 → c ≡ get_or t (i * task_width + (first_lock + j * lock_width) + 2) 0 →
    ◌≡◌ {A = Lock} (record { m = a; ticks = b; after = c }) (lock_row t i j)
unfolding lock_row
lock_read t i j a b c ea eb ec =
    let at : (m n : ℕ) → m ≡ n → get_or t m 0 ≡ get_or t n 0 = λ m n e. ap (λ k. get_or t k 0) e in
    λ x.
    record {
      m = (ea ∙ at _ (i * task_width + (first_lock + (j * lock_width + 0))) (omega arith)) x;
      ticks = (eb ∙ at _ (i * task_width + (first_lock + (j * lock_width + 1))) (omega arith)) x;
      after = (ec ∙ at _ (i * task_width + (first_lock + (j * lock_width + 2))) (omega arith)) x;
    }

pub task_read :
    (t : List ℕ) (i v n p f k : ℕ) (a₀ a₁ a₂ a₃ a₄ a₅ a₆ a₇ : Lock) →
    a₀ ≡ lock_row t i 0 → a₁ ≡ lock_row t i 1 → a₂ ≡ lock_row t i 2 → a₃ ≡ lock_row t i 3 → a₄ ≡ lock_row t i 4 → a₅ ≡ lock_row t i 5 → a₆ ≡ lock_row t i 6 → a₇ ≡ lock_row t i 7 →
    v ≡ get_or t (i * task_width) 0 → n ≡ get_or t (i * task_width + 1) 0 → p ≡ get_or t (i * task_width + 2) 0 → f ≡ get_or t (i * task_width + 3) 0 → k ≡ get_or t (i * task_width + 4) 0 →
    ◌≡◌ {A = Task} (record { v = v; n = n; period = p; first = f; count = k; locks = a₀ ∷ a₁ ∷ a₂ ∷ a₃ ∷ a₄ ∷ a₅ ∷ a₆ ∷ a₇ ∷ [] }) (task_of t i)
unfolding task_of rows
task_read t i v n p f k a₀ a₁ a₂ a₃ a₄ a₅ a₆ a₇ e₀ e₁ e₂ e₃ e₄ e₅ e₆ e₇ ev en ep ef ek =
    let z : i * task_width ≡ i * task_width + 0 = omega arith in
    λ x.
    record {
      v = (ev ∙ ap (λ m. get_or t m 0) z) x;
      n = en x;
      period = ep x;
      first = ef x;
      count = ek x;
      locks = e₀ x ∷ e₁ x ∷ e₂ x ∷ e₃ x ∷ e₄ x ∷ e₅ x ∷ e₆ x ∷ e₇ x ∷ [];
    }

-- the numbers of a record that is read are the row's
pub nums_back : (t : List ℕ) (i : ℕ) → task_nums (task_of t i) ≡ rows task_width (λ j. get_or t (i * task_width + j) 0)
unfolding task_nums locks_to task_of lock_row flat rows
nums_back t i = refl

-- RECORDS ARE WRITTEN

pub saved_none : (ks : List Task) (t : List ℕ) → ks ≡ saved ks t 0
unfolding saved rows
saved_none ks t = refl

pub saved_length : (ks : List Task) (t : List ℕ) (n : ℕ) → n ≤ length ks → length (saved ks t n) ≡ length ks
unfolding saved
saved_length ks t n h = omega (arith, length-append (rows n (task_of t)) (drop n ks), rows_length n (task_of t), length-drop n ks)

pub saved_more : (ks : List Task) (t : List ℕ) (i : ℕ) → i < length ks → set (saved ks t i) i (task_of t i) ≡ saved ks t (i + 1)
unfolding saved rows
saved_more ks t i h =
    rw add-one (ap (λ u. set (rows i (task_of t) ++ u) i (task_of t i)) (drop-cons ks i blank_task h)
    ∙ set_at (rows i (task_of t)) (get_or ks i blank_task) (drop (suc i) ks) (task_of t i) i (rows_length i (task_of t))
    ∙ sym (append_snoc (rows i (task_of t)) (task_of t i) (drop (suc i) ks)))

-- the record of a row that both tables have
module _ (c a b : List ℕ) (n : ℕ) (long : length c ≡ n * task_width) (i : ℕ) (l : i < n) where
  cell_same : (j : ℕ) → j < task_width → cell (c ++ a) task_width i j ≡ cell (c ++ b) task_width i j
  cell_same j h =
      let k : i * task_width + j < length c = omega (arith, suc-mul i task_width, mul-le-mul_right task_width l) in
      get_or-append c a 0 (i * task_width + j) k ∙ sym (get_or-append c b 0 (i * task_width + j) k)

  lock_same : (j : ℕ) → j < max_locks → lock_row (c ++ a) i j ≡ lock_row (c ++ b) i j
  unfolding lock_row
  lock_same j h =
      λ x.
      record {
        m = cell_same (first_lock + (j * lock_width + 0)) (omega arith) x;
        ticks = cell_same (first_lock + (j * lock_width + 1)) (omega arith) x;
        after = cell_same (first_lock + (j * lock_width + 2)) (omega arith) x;
      }

  pub task_same : task_of (c ++ a) i ≡ task_of (c ++ b) i
  unfolding task_of
  task_same =
      let ls = rows_same max_locks lock_same in
      λ x.
      record {
        v = cell_same 0 (omega arith) x;
        n = cell_same 1 (omega arith) x;
        period = cell_same 2 (omega arith) x;
        first = cell_same 3 (omega arith) x;
        count = cell_same 4 (omega arith) x;
        locks = ls x;
      }
