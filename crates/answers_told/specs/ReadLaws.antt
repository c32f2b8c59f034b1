-- What the answers' code leaves in the slices is read back as the plan's answers.
use Rattle.std.specs.Prelude.{ℕ, zero, suc, ◌+◌, ◌*◌, ◌/◌, ◌%◌, ◌≤◌, ◌<◌, ◌≡◌, Bool, true, false, ◌&&◌, List, ◌++◌, eqb, ltb, get_or, drop}
use Rattle.std.proofs.Math.Path.{refl, ap₂, sym}
use Rattle.std.proofs.Common.{ap, ◌∙◌, le_refl, lt-ltb, ne_eqb, eqb-true, length-append, length-drop}
use native.Mathlib.Omega.{arith}
use Rattle.std.proofs.Math.ListN.{length}
use Rattle.laws.specs.BoolLaws.{both}
use Rattle.std.specs.Prelude.{if◌then◌else◌}
use Rattle.laws.specs.Sums.{flat, all}
use Rattle.laws.specs.Rows.{rows}
use Rattle.laws.specs.RowLaws.{rows_length, rows_at, all_next}
use Rattle.search.specs.declared.Answer.{Answer}
use Rattle.search.specs.declared.Answer.TheVariants.{Fits, Late}
use Rattle.search.specs.Row.{Row, row_in}
use Rattle.plan.specs.Plan.{Vcpu, Task}
use Rattle.plan_tables.specs.declared.PlanRecord.{PlanRecord}
use Rattle.plan_tables.specs.Layout.{cell, over, vcpu_row, lock_row, task_row, task_width}
use Rattle.plan_tables.specs.FlatLaws.{flat_cell, each_of}
use Rattle.figures.specs.System.{System}
use Rattle.figures.specs.Tabled.{Fit, system_in}
use Rattle.figures.specs.declared.TaskAnswer.{TaskAnswer}
use Rattle.figures.specs.declared.TaskAnswer.TheVariants.{Searched, NoWait, Held}
use Rattle.figures.specs.Answers.{vcpu_answer, wait_answer, task_answer, is_fits, task_fits, all_fit}
use Rattle.figures.specs.Figures.{is_section}
use Rattle.figures.specs.Kinds.{answer_of, task_answer_of}
use Rattle.figures.specs.KindLaws.{answer_back, task_back}
use Rattle.figures_slices.specs.Store.{vcpu_answers, wait_answers, task_answers}
use Rattle.figures_slices.specs.Filled.{row_cells, answer_row, task_answer_row, section_at, place_row, place_at, Filled}
use Rattle.figures_slices.specs.FilledLaws.{front_length}
use Rattle.figures_slices.specs.Places.{place_section, vcpus_over, waits_over, tasks_over}
use Rattle.answers_told.specs.Read.{answer_in, task_answer_in, fits_in, VcpuAnswersIn, WaitAnswersIn, TaskAnswersIn, AnswersIn}

-- AN ANSWER'S NUMBERS ARE THAT ANSWER

answer_read : (xs : List ℕ) (k : ℕ) (a : Answer) → row_in xs k ≡ answer_row a → answer_in xs k ≡ a
unfolding answer_in row_in
answer_read xs k a e = ap (λ x. answer_of x.shift x.period x.cost) e ∙ answer_back a

task_read : (xs : List ℕ) (k : ℕ) (a : TaskAnswer) → row_in xs k ≡ task_answer_row a → task_answer_in xs k ≡ a
unfolding task_answer_in row_in
task_read xs k a e = ap (λ x. task_answer_of x.shift x.period x.cost) e ∙ task_back a

-- WHOLE SLICES

-- the rows' cells, and behind them a slice as it was
abbrev front : {A : Type 0} → (A → Row) → (ℕ → A) → ℕ → List ℕ → List ℕ
front f thing n xs = flat (λ x. row_cells (f x)) (rows n thing) ++ drop (n * 3) xs

module _ {A : Type 0} (f : A → Row) (thing : ℕ → A) (n : ℕ) (xs : List ℕ) where
  front_cell : (k j : ℕ) → k < n → j < 3 → get_or (front f thing n xs) (k * 3 + j) 0 ≡ get_or (row_cells (f (thing k))) j 0
  front_cell k j l h =
      flat_cell (λ x. row_cells (f x)) 3 (rows n thing) (drop (n * 3) xs) (thing 0) (each_of (rows n thing) (λ x. refl)) k j (rw (rows_length n thing) l) h
      ∙ ap (λ x. get_or (row_cells (f x)) j 0) (rows_at n k thing (thing 0) l)

  front_first : (k : ℕ) → k < n → get_or (front f thing n xs) (k * 3) 0 ≡ (f (thing k)).shift
  front_first k l = ap (λ m. get_or (front f thing n xs) m 0) {x = k * 3} {y = k * 3 + 0} (omega arith) ∙ front_cell k 0 l (omega arith)

  front_row : (k : ℕ) → k < n → row_in (front f thing n xs) k ≡ f (thing k)
  unfolding row_in
  front_row k l = rw (front_first k l, front_cell k 1 l (omega arith), front_cell k 2 l (omega arith))

  front_filled : n * 3 ≤ length xs → Filled f thing xs n (front f thing n xs) n
  front_filled h =
      record {
        within = le_refl n;
        same =
            length-append (flat (λ x. row_cells (f x)) (rows n thing)) (drop (n * 3) xs)
            ∙ omega (arith, front_length f n thing, length-drop (n * 3) xs);
        is = refl;
        at = front_row;
      }

-- a slice that is the front of rows has each of them
row_read : {A : Type 0} (f : A → Row) (thing : ℕ → A) (n : ℕ) (xs ys zs : List ℕ) → ys ≡ zs → front f thing n xs ≡ zs → (k : ℕ) → k < n → row_in ys k ≡ f (thing k)
row_read f thing n xs ys zs e g k l = ap (λ m. row_in m k) (e ∙ sym g) ∙ front_row f thing n xs k l

module _ {r : PlanRecord} {vt mt ts : List ℕ} (fit : Fit r vt mt ts) where
  vcpus_in : (va₀ : List ℕ) {va : List ℕ} → 48 ≤ length va₀ → length va ≡ length va₀ → va ≡ over (vcpu_answers (system_in r vt mt ts)) va₀ → VcpuAnswersIn r vt mt ts va
  unfolding system_in
  vcpus_in va₀ {va} h m e =
      let s = system_in r vt mt ts in
      let f : Vcpu → Row = λ x. answer_row (vcpu_answer s x) in
      let c : r.vcpus * 3 ≤ length va₀ = omega (arith, fit.vcpus_few) in
      let g = vcpus_over s vt refl (front_filled f (vcpu_row vt) r.vcpus va₀ c) (le_refl r.vcpus) in
      record {
        room = omega arith;
        at = λ a l. answer_read va a (vcpu_answer s (vcpu_row vt a)) (row_read f (vcpu_row vt) r.vcpus va₀ va _ e g a l);
      }

  pub tasks_in : (ta₀ : List ℕ) {ta : List ℕ} → r.tasks * 3 ≤ length ta₀ → length ta ≡ length ta₀ → ta ≡ over (task_answers (system_in r vt mt ts)) ta₀ → TaskAnswersIn r vt mt ts ta
  unfolding system_in
  tasks_in ta₀ {ta} h m e =
      let s = system_in r vt mt ts in
      let f : Task → Row = λ x. task_answer_row (task_answer s x) in
      let g = tasks_over s ts refl (front_filled f (task_row ts) r.tasks ta₀ h) (le_refl r.tasks) in
      record {
        room = omega arith;
        at = λ i l. task_read ta i (task_answer s (task_row ts i)) (row_read f (task_row ts) r.tasks ta₀ ta _ e g i l);
      }

  -- lock j of task i is a global section
  section_row : (s : System) (i j : ℕ) → j < 8 → j < cell ts task_width i 4 → is_section s (lock_row ts i j) ≡ true
      → place_at s ts (i * 8 + j) ≡ answer_row (wait_answer s (task_row ts i) (lock_row ts i j))
  unfolding section_at
  section_row s i j l c g =
      let a : (i * 8 + j) / 8 ≡ i = omega arith in
      let b : (i * 8 + j) % 8 ≡ j = omega arith in
      ap₂ (place_row s ts) a b
      ∙ sym (place_section s ts i j (sym (both (ltb j (cell ts task_width i 4)) (is_section s (lock_row ts i j)) (lt-ltb j (cell ts task_width i 4) c) g)) refl)

  waits_in : (wa₀ : List ℕ) {wa : List ℕ} → r.tasks * 24 ≤ length wa₀ → length wa ≡ length wa₀ → wa ≡ over (wait_answers (system_in r vt mt ts)) wa₀ → WaitAnswersIn r vt mt ts wa
  unfolding system_in
  waits_in wa₀ {wa} h m e =
      let s = system_in r vt mt ts in
      let f = place_at s ts in
      let c : r.tasks * 8 * 3 ≤ length wa₀ = omega arith in
      let g = waits_over s ts r.tasks refl fit.task_locks (front_filled f (λ k. k) (r.tasks * 8) wa₀ c) (le_refl (r.tasks * 8)) in
      record {
        room = omega arith;
        at = λ i j l d q.
            let t = fit.task_locks i l in
            answer_read wa (i * 8 + j) (wait_answer s (task_row ts i) (lock_row ts i j))
            (row_read f (λ k. k) (r.tasks * 8) wa₀ wa _ e g (i * 8 + j) (omega arith) ∙ section_row s i j (omega arith) d q);
      }

  -- from the contract of the answers' code
  pub answers_in_law : (va₀ wa₀ ta₀ : List ℕ) {va wa ta : List ℕ} → 48 ≤ length va₀ → length va ≡ length va₀ → va ≡ over (vcpu_answers (system_in r vt mt ts)) va₀
      → r.tasks * 24 ≤ length wa₀ → length wa ≡ length wa₀ → wa ≡ over (wait_answers (system_in r vt mt ts)) wa₀
      → r.tasks * 3 ≤ length ta₀ → length ta ≡ length ta₀ → ta ≡ over (task_answers (system_in r vt mt ts)) ta₀ → AnswersIn r vt mt ts va wa ta
  answers_in_law va₀ wa₀ ta₀ a b c d e f g h i = record { vcpus = vcpus_in va₀ a b c; waits = waits_in wa₀ d e f; tasks = tasks_in ta₀ g h i }

-- WHETHER ALL FIT

fits_of : (b : Bool) (w n : ℕ) → is_fits (if b then Fits w n else Late n) ≡ b
fits_of true w n = refl
fits_of false w n = refl

fits_read : (xs : List ℕ) (k : ℕ) {a : Answer} → answer_in xs k ≡ a → fits_in xs k ≡ is_fits a
unfolding answer_in
fits_read xs k e = sym (fits_of (fits_in xs k) _ _) ∙ ap is_fits e

task_fits_of : (k w n : ℕ) → task_fits (task_answer_of k w n) ≡ eqb k 1
task_fits_of k w n = go (eqb k 2) (eqb k 3) refl refl
  where
    go : (p q : Bool) → eqb k 2 ≡ p → eqb k 3 ≡ q → task_fits (if p then NoWait else (if q then Held else Searched (answer_of k w n))) ≡ eqb k 1
    go true q e f = sym (ne_eqb k 1 (λ h. omega (arith, eqb-true k 2 e)))
    go false true e f = sym (ne_eqb k 1 (λ h. omega (arith, eqb-true k 3 f)))
    go false false e f = fits_of (eqb k 1) w n

task_fits_read : (xs : List ℕ) (k : ℕ) {a : TaskAnswer} → task_answer_in xs k ≡ a → fits_in xs k ≡ task_fits a
unfolding task_answer_in
task_fits_read xs k e = sym (task_fits_of (get_or xs (k * 3) 0) (get_or xs (k * 3 + 1) 0) (get_or xs (k * 3 + 2) 0)) ∙ ap task_fits e

all_rows : {A : Type 0} (n : ℕ) (q : ℕ → Bool) (p : A → Bool) (row : ℕ → A) → ((i : ℕ) → i < n → q i ≡ p (row i)) → all q (rows n (λ i. i)) ≡ all p (rows n row)
unfolding rows all
all_rows zero q p row h = refl
all_rows (suc n) q p row h =
    all_next q (λ i. i) n ∙ ap₂ ◌&&◌ (all_rows n q p row (λ i l. h i (omega arith))) (h n (omega arith)) ∙ sym (all_next p row n)

-- the answers of the VCPUs and of the tasks are all fits
pub all_read : {r : PlanRecord} {vt mt ts va ta : List ℕ} {a b : Bool} → VcpuAnswersIn r vt mt ts va → TaskAnswersIn r vt mt ts ta
    → a ≡ all (fits_in va) (rows r.vcpus (λ k. k)) → b ≡ all (fits_in ta) (rows r.tasks (λ k. k)) → (a && b) ≡ all_fit (system_in r vt mt ts)
unfolding all_fit system_in
all_read {r} {vt} {mt} {ts} {va} {ta} h k e f =
    let s = system_in r vt mt ts in
    ap₂ ◌&&◌
    (e ∙ all_rows r.vcpus (fits_in va) (λ x. is_fits (vcpu_answer s x)) (vcpu_row vt) (λ i l. fits_read va i (h.at i l)))
    (f ∙ all_rows r.tasks (fits_in ta) (λ x. task_fits (task_answer s x)) (task_row ts) (λ i l. task_fits_read ta i (k.at i l)))
