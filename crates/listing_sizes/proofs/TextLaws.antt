-- Laws of the listing's texts: a line is made of a row's numbers and its answer, many lines are those of the rows in turn, and their size is the sum.
use Prim.Native.Nat.{ℕ, zero, suc, ◌+◌, ◌*◌, ◌≤◌, ◌<◌}
use Rattle.std.specs.Prelude.{◌≡◌, Bool, true, false, get_or}
use Rattle.std.proofs.Math.Path.{refl, ap, ap₂, sym}
use Rattle.std.proofs.Common.{◌∙◌, add-one, arith, length-append}
use mathlib.Core.List.{List, [], ◌∷◌, ◌++◌, append_assoc, append-nil}
use Rattle.std.proofs.Math.ListN.{length}
use Rattle.laws.specs.Sums.{flat}
use Rattle.laws.specs.Rows.{rows, Summed}
use Rattle.laws.specs.RowLaws.{rows_length, summed_more, summed_all}
use Rattle.search.specs.declared.Answer.{Answer}
use Rattle.search.specs.TableLaws.{flat_next}
use Rattle.plan.specs.declared.Lock.{Lock}
use Rattle.plan.specs.Plan.{Task, Mutex}
use Rattle.plan.specs.Lookup.{global}
use Rattle.plan_tables.specs.declared.PlanRecord.{PlanRecord}
use Rattle.plan_tables.specs.Layout.{cell, vcpu_row, lock_row, task_row, task_width}
use Rattle.figures.specs.System.{System}
use Rattle.figures.specs.Tabled.{system_in}
use Rattle.figures.specs.declared.TaskAnswer.{TaskAnswer}
use Rattle.figures.specs.Answers.{wait_answer, all_fit}
use Rattle.figures.specs.Figures.{is_section}
use Rattle.listing.specs.Listing.{vcpu_line, wait_line, wait_lines, task_line, task_lines, rising, all_line, listing}
use Rattle.text_letters.specs.Wrote.{Joins, Sized}
use Rattle.listing_lines.specs.Lines.{head_text, vcpu_text, wait_text, task_text, all_text}
use Rattle.listing_lines.specs.LineLaws.{vcpu_line_law, wait_line_law, task_line_law, all_line_law}
use Rattle.listing_order.specs.Ordered.{Ordered}
use Rattle.listing_order.specs.RisingLaws.{length_flat}
use Rattle.answers_told.specs.Read.{answer_in, task_answer_in, VcpuAnswersIn, WaitAnswersIn, TaskAnswersIn}
use Rattle.listing_sizes.specs.Texts.{picked, place_text, tasks_end, vcpus_end}

-- LINES, of a row's numbers and its answer

-- whether a lock's mutex is global
pub wait_is : (ms : List Mutex) (ts : List ℕ) (i j : ℕ) {m : ℕ} {b : Bool} → m ≡ cell ts task_width i (5 + (j * 3 + 0)) → b ≡ global ms m → b ≡ global ms (lock_row ts i j).m
unfolding lock_row
wait_is ms ts i j d g = g ∙ ap (global ms) d

module _ {r : PlanRecord} {vt mt ts : List ℕ} where
  pub vcpu_text_law : {va : List ℕ} → VcpuAnswersIn r vt mt ts va → (a : ℕ) {v : ℕ} {x : Answer} → a < r.vcpus → v ≡ cell vt 5 a 0 → x ≡ answer_in va a
      → vcpu_line (system_in r vt mt ts) (vcpu_row vt a) ≡ vcpu_text v x
  unfolding vcpu_row
  vcpu_text_law h a l e f = vcpu_line_law (system_in r vt mt ts) (vcpu_row vt a) ∙ rw (e, f, h.at a l)

  pub task_text_law : {ta : List ℕ} → TaskAnswersIn r vt mt ts ta → (i : ℕ) {v n : ℕ} {x : TaskAnswer} → i < r.tasks → v ≡ cell ts task_width i 0 → n ≡ cell ts task_width i 1
      → x ≡ task_answer_in ta i → task_line (system_in r vt mt ts) (task_row ts i) ≡ task_text v n x
  unfolding task_row
  task_text_law h i l e f g = task_line_law (system_in r vt mt ts) (task_row ts i) ∙ rw (e, f, g, h.at i l)

  -- b says whether the lock is a global section
  module _ {wa : List ℕ} (h : WaitAnswersIn r vt mt ts wa) (i j : ℕ) {b : Bool} (section : b ≡ is_section (system_in r vt mt ts) (lock_row ts i j)) where
    chosen : {c : Bool} → b ≡ c
        → place_text (system_in r vt mt ts) (task_row ts i) (lock_row ts i) j ≡ picked c (wait_line (system_in r vt mt ts) (task_row ts i) (j + 1) (lock_row ts i j))
    unfolding place_text
    chosen e = ap (λ y. picked y (wait_line (system_in r vt mt ts) (task_row ts i) (j + 1) (lock_row ts i j))) (sym section ∙ e)

    wait_text_law : {v n : ℕ} {x : Answer} → v ≡ cell ts task_width i 0 → n ≡ cell ts task_width i 1 → x ≡ wait_answer (system_in r vt mt ts) (task_row ts i) (lock_row ts i j)
        → wait_line (system_in r vt mt ts) (task_row ts i) (j + 1) (lock_row ts i j) ≡ wait_text v n (j + 1) x
    unfolding task_row
    wait_text_law p q f = wait_line_law (system_in r vt mt ts) (task_row ts i) (j + 1) (lock_row ts i j) ∙ rw (p, q, f)

    pub place_text_law : {v n : ℕ} {x : Answer} → i < r.tasks → j < cell ts task_width i 4 → b ≡ true → v ≡ cell ts task_width i 0 → n ≡ cell ts task_width i 1
        → x ≡ answer_in wa (i * 8 + j) → place_text (system_in r vt mt ts) (task_row ts i) (lock_row ts i) j ≡ wait_text v n (j + 1) x
    place_text_law l k e p q f = chosen e ∙ wait_text_law p q (f ∙ h.at i j l k (sym section ∙ e))

    pub place_none : b ≡ false → place_text (system_in r vt mt ts) (task_row ts i) (lock_row ts i) j ≡ []
    place_none e = chosen e

module _ (s : System) where
  -- THE LINES OF A TASK

  waits_append : (k : Task) (i : ℕ) (ls ms : List Lock) → wait_lines s k i (ls ++ ms) ≡ wait_lines s k i ls ++ wait_lines s k (i + length ls) ms
  unfolding wait_lines
  waits_append k i [] ms = ap (λ m. wait_lines s k m ms) {x = i} {y = i + 0} (omega arith)
  waits_append k i (l ∷ ls) ms =
      let a = picked (is_section s l) (wait_line s k i l) in
      ap (λ m. a ++ m) (waits_append k (i + 1) ls ms ∙ ap (λ m. wait_lines s k (i + 1) ls ++ wait_lines s k m ms) {x = i + 1 + length ls} {y = i + suc (length ls)} (omega arith))
      ∙ sym (append_assoc a (wait_lines s k (i + 1) ls) (wait_lines s k (i + suc (length ls)) ms))

  waits_rows : (k : Task) (lock : ℕ → Lock) (n : ℕ) → wait_lines s k 1 (rows n lock) ≡ flat (place_text s k lock) (rows n (λ j. j))
  unfolding rows flat wait_lines place_text
  waits_rows k lock zero = refl
  waits_rows k lock (suc n) =
      waits_append k 1 (rows n lock) (lock n ∷ [])
      ∙ ap₂ (λ x y. x ++ y) (waits_rows k lock n) (append-nil _ ∙ last (length (rows n lock)) (rows_length n lock))
      ∙ sym (flat_next (place_text s k lock) (λ j. j) n)
      ∙ ap (λ m. flat (place_text s k lock) (rows m (λ j. j))) (add-one n)
    where
      last : (m : ℕ) → m ≡ n → picked (is_section s (lock n)) (wait_line s k (1 + m) (lock n)) ≡ place_text s k lock n
      last m e = ap (λ x. picked (is_section s (lock n)) (wait_line s k x (lock n))) {x = 1 + m} {y = n + 1} (omega arith)

  -- the waits of task i are those of its places
  pub waits_text : (ts : List ℕ) (i : ℕ) {n : ℕ} → n ≡ cell ts task_width i 4
      → wait_lines s (task_row ts i) 1 (task_row ts i).locks ≡ flat (place_text s (task_row ts i) (lock_row ts i)) (rows n (λ j. j))
  unfolding task_row
  waits_text ts i e = rw e (waits_rows (task_row ts i) (lock_row ts i) (cell ts task_width i 4))

  -- a task's line stands behind its waits
  pub task_joins : (k : Task) → Joins (task_lines s k) (wait_lines s k 1 k.locks) (task_line s k)
  unfolding task_lines
  task_joins k = record { is = refl }

  -- the tasks as they rise
  pub tasks_text_law : {ts order : List ℕ} {k n : ℕ} → Ordered s ts order k n → flat (task_lines s) (rising s) ≡ flat (task_lines s) (rows n (λ i. task_row ts (get_or order i 0)))
  tasks_text_law h = ap (flat (task_lines s)) (sym h.is)

  -- THE LISTING, part by part

  pub listing_joins : Joins (listing s) head_text (vcpus_end s)
  unfolding listing vcpus_end tasks_end
  listing_joins = record { is = refl }

  pub vcpus_joins : Joins (vcpus_end s) (flat (vcpu_line s) s.vcpus) (tasks_end s)
  unfolding vcpus_end
  vcpus_joins = record { is = refl }

  pub tasks_joins : Joins (tasks_end s) (flat (task_lines s) (rising s)) (all_line s)
  unfolding tasks_end
  tasks_joins = record { is = refl }

  pub all_text_law : {b : Bool} → b ≡ all_fit s → all_line s ≡ all_text b
  all_text_law e = all_line_law s ∙ rw e

-- SIZES

pub both_sized : {t u v : List ℕ} {b c x y : ℕ} → Joins v t u → Sized t b x → Sized u c y → Sized v (b + c) (x + y)
both_sized {t} {u} {v} j p q =
    let e : length v ≡ length t + length u = ap length j.is ∙ length-append t u in
    record { is = let k = p.is in let l = q.is in omega arith; small = let k = p.small in let l = q.small in omega arith }

pub none_sized : {t : List ℕ} (b : ℕ) → t ≡ [] → Sized t b 0
none_sized b e = record { is = ap length (sym e); small = omega arith }

module _ {A : Type 0} (f : A → List ℕ) where
  module _ (row : ℕ → A) {b n s i : ℕ} (h : Summed (λ x. length (f x)) row b n s i) where
    pub sized_more : {x : ℕ} → i < n → Sized (f (row i)) b x → Summed (λ x. length (f x)) row b n (s + x) (i + 1)
    sized_more l e = summed_more h l (record { is = e.is; small = e.small })

    -- after the last of at most m rows
    pub sized_all : (m : ℕ) {t : List ℕ} → n ≤ m → n ≤ i → t ≡ flat f (rows n row) → Sized t (m * b) s
    sized_all m k l e =
        let z = summed_all m k h l in
        rw e (record { is = z.is ∙ sym (length_flat f (rows n row)); small = z.small })
