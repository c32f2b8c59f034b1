-- Laws of the code that asks for a row by its names: what it answers of the row that was found, or of none.
use Rattle.std.specs.Prelude.{ℕ, ◌+◌, ◌-◌, ◌*◌, ◌/◌, ◌%◌, ◌<◌, ◌≤◌, ◌≡◌, Bool, true, false, ◌&&◌, List, leb, length, get_or, Ok, Err}
use Rattle.std.proofs.Math.Path.{ap, ap₂, sym}
use Rattle.std.proofs.Common.{◌∙◌}
use native.Mathlib.Omega.{arith}
use borrow.Author.Tests.{lt-ltb, le-ltb, le-leb, lt-leb, leb-true}
use Rattle.laws.specs.BoolLaws.{both_left, both_right, both, miss_left, miss_right}
use Rattle.laws.specs.Choice.{when}
use Rattle.laws.specs.RowLaws.{rows_length, rows_at}
use Rattle.search.specs.declared.Answer.{Answer}
use Rattle.search.specs.Search.{solve}
use Rattle.plan.specs.declared.Refusal.TheVariants.{Unknown}
use Rattle.plan.specs.declared.Lock.{Lock}
use Rattle.plan.specs.Lookup.{global}
use Rattle.plan.specs.Rules.{within}
use Rattle.plan_tables.specs.declared.PlanRecord.{PlanRecord}
use Rattle.plan_tables.specs.Layout.{cell, vcpu_row, lock_row, task_row, task_width}
use Rattle.figures.specs.System.{System}
use Rattle.figures.specs.Tabled.{system_in}
use Rattle.figures.specs.Figures.{wait_start, wait_demand, response, is_section}
use Rattle.figures.specs.Named.{no_lock, has_task, task_at, lock_at, has_section}
use Rattle.figures.specs.declared.TaskAnswer.{TaskAnswer}
use Rattle.figures.specs.Answers.{vcpu_answer, wait_answer, task_answer}
use Rattle.figures_found.specs.First.{VcpuFirst, TaskFirst, vcpu_test, vcpu_is, task_test, task_is}
use Rattle.figures_slices.specs.Filled.{section_at}
use Rattle.figures_slices.specs.Stored.{section_response, Responses}
use Rattle.answers_tasks.specs.Asked.{has_place, vcpu_row_of, wait_row_of, task_row_of, response_row_of}

-- A CHOICE that is known
chosen : {A : Type 0} {b : Bool} (x y : A) → b ≡ true → x ≡ elim b [ true ↦ x | false ↦ y ]
chosen x y e = rw e

passed : {A : Type 0} {b : Bool} (x y : A) → b ≡ false → y ≡ elim b [ true ↦ x | false ↦ y ]
passed x y e = rw e

-- A ROW OF A PLAN
module _ (r : PlanRecord) (vt mt ts : List ℕ) (v : ℕ) {i : ℕ} (h : VcpuFirst r vt v i) where
  pub vcpu_there : {a : Answer} → i < r.vcpus → a ≡ vcpu_answer (system_in r vt mt ts) (vcpu_row vt i) → Ok a ≡ vcpu_row_of (system_in r vt mt ts) v
  unfolding vcpu_row_of system_in
  vcpu_there l e = ap Ok (e ∙ ap (vcpu_answer (system_in r vt mt ts)) (sym (vcpu_is r vt v h mt ts l))) ∙ chosen _ _ (vcpu_test r vt v h ∙ lt-ltb i r.vcpus l)

  pub vcpu_lacking : r.vcpus ≤ i → Err Unknown ≡ vcpu_row_of (system_in r vt mt ts) v
  unfolding vcpu_row_of system_in
  vcpu_lacking l = passed _ _ (vcpu_test r vt v h ∙ le-ltb i r.vcpus l)

module _ (r : PlanRecord) (vt mt ts : List ℕ) (v n : ℕ) {i : ℕ} (h : TaskFirst r ts v n i) where
  row_is : i < r.tasks → task_at (system_in r vt mt ts) v n ≡ task_row ts i
  row_is l = task_is r vt mt ts v n h l

  has_task_law : i < r.tasks → has_task (system_in r vt mt ts) v n ≡ true
  has_task_law l = task_test r vt mt ts v n h ∙ lt-ltb i r.tasks l

  no_task_law : r.tasks ≤ i → has_task (system_in r vt mt ts) v n ≡ false
  no_task_law l = task_test r vt mt ts v n h ∙ le-ltb i r.tasks l

  pub task_there : {a : TaskAnswer} → i < r.tasks → a ≡ task_answer (system_in r vt mt ts) (task_row ts i) → Ok a ≡ task_row_of (system_in r vt mt ts) v n
  unfolding task_row_of
  task_there l e = ap Ok (e ∙ ap (task_answer (system_in r vt mt ts)) (sym (row_is l))) ∙ chosen _ _ (has_task_law l)

  pub task_lacking : r.tasks ≤ i → Err Unknown ≡ task_row_of (system_in r vt mt ts) v n
  unfolding task_row_of
  task_lacking l = passed _ _ (no_task_law l)

  -- at its place there is a global section or not, as b says
  module _ (place : ℕ) where
    has_place_law : {b : Bool} → i < r.tasks → b ≡ has_section (system_in r vt mt ts) (task_row ts i) place → has_place (system_in r vt mt ts) v n place ≡ b
    has_place_law l e = ap₂ ◌&&◌ (has_task_law l) (ap (λ k. has_section (system_in r vt mt ts) k place) (row_is l) ∙ sym e)

    no_place : r.tasks ≤ i → has_place (system_in r vt mt ts) v n place ≡ false
    no_place l = miss_left (has_task (system_in r vt mt ts) v n) _ (no_task_law l)

    pub wait_there :
        {a : Answer} {b : Bool} → i < r.tasks → b ≡ has_section (system_in r vt mt ts) (task_row ts i) place → b ≡ true →
        a ≡ wait_answer (system_in r vt mt ts) (task_row ts i) (lock_at (task_row ts i) place) → Ok a ≡ wait_row_of (system_in r vt mt ts) v n place
    unfolding wait_row_of
    wait_there l d f e = ap Ok (e ∙ ap (λ k. wait_answer (system_in r vt mt ts) k (lock_at k place)) (sym (row_is l))) ∙ chosen _ _ (has_place_law l d ∙ f)

    pub wait_lacking : r.tasks ≤ i → Err Unknown ≡ wait_row_of (system_in r vt mt ts) v n place
    unfolding wait_row_of
    wait_lacking l = passed _ _ (no_place l)

    pub wait_nowhere :
        {b : Bool} → i < r.tasks → b ≡ has_section (system_in r vt mt ts) (task_row ts i) place → b ≡ false →
        Err Unknown ≡ wait_row_of (system_in r vt mt ts) v n place
    unfolding wait_row_of
    wait_nowhere l d f = passed _ _ (has_place_law l d ∙ f)

    pub response_there :
        {x : ℕ} {b : Bool} → i < r.tasks → b ≡ has_section (system_in r vt mt ts) (task_row ts i) place → b ≡ true →
        x ≡ response (system_in r vt mt ts) (task_row ts i) (lock_at (task_row ts i) place) → Ok x ≡ response_row_of (system_in r vt mt ts) v n place
    unfolding response_row_of
    response_there l d f e = ap Ok (e ∙ ap (λ k. response (system_in r vt mt ts) k (lock_at k place)) (sym (row_is l))) ∙ chosen _ _ (has_place_law l d ∙ f)

    pub response_lacking : r.tasks ≤ i → Err Unknown ≡ response_row_of (system_in r vt mt ts) v n place
    unfolding response_row_of
    response_lacking l = passed _ _ (no_place l)

    pub response_nowhere :
        {b : Bool} → i < r.tasks → b ≡ has_section (system_in r vt mt ts) (task_row ts i) place → b ≡ false →
        Err Unknown ≡ response_row_of (system_in r vt mt ts) v n place
    unfolding response_row_of
    response_nowhere l d f = passed _ _ (has_place_law l d ∙ f)

-- A LOCK BY ITS PLACE, counted from 1
module _ (s : System) (ts : List ℕ) (k i : ℕ) where
  lock_is : 1 ≤ i → i ≤ cell ts task_width k 4 → lock_at (task_row ts k) i ≡ lock_row ts k (i - 1)
  unfolding lock_at task_row
  lock_is h l = rows_at (cell ts task_width k 4) (i - 1) (lock_row ts k) no_lock (omega arith)

  locks_are : length (task_row ts k).locks ≡ cell ts task_width k 4
  unfolding task_row
  locks_are = rows_length (cell ts task_width k 4) (lock_row ts k)

  -- task k has n locks, and lock i locks m
  pub section_at_law :
      {n m : ℕ} {b : Bool} → n ≡ cell ts task_width k 4 → 1 ≤ i → i ≤ n → m ≡ cell ts task_width k (5 + ((i - 1) * 3 + 0)) → b ≡ global s.mutexes m →
      b ≡ has_section s (task_row ts k) i
  unfolding has_section lock_row
  section_at_law e h l f g =
      g
      ∙ ap (global s.mutexes) (f ∙ ap (λ (x : Lock). x.m) (sym (lock_is h (omega arith))))
      ∙ ap (λ c. c && is_section s (lock_at (task_row ts k) i)) (sym (both (leb 1 i) (leb i (length (task_row ts k).locks)) (le-leb 1 i h) (rw locks_are (le-leb i (cell ts task_width k 4) (omega arith)))))

  pub section_below : i < 1 → false ≡ has_section s (task_row ts k) i
  unfolding has_section
  section_below h =
      sym (miss_left (within i 1 (length (task_row ts k).locks)) _ (miss_left (leb 1 i) _ (lt-leb 1 i h)))

  pub section_beyond : {n : ℕ} → n ≡ cell ts task_width k 4 → n < i → false ≡ has_section s (task_row ts k) i
  unfolding has_section
  section_beyond e h =
      sym
      (miss_left (within i 1 (length (task_row ts k).locks)) _
      (miss_right (leb 1 i) _ (rw locks_are (lt-leb i (cell ts task_width k 4) (omega arith)))))

  module _ (h : has_section s (task_row ts k) i ≡ true) where
    pub place_within : (1 ≤ i) × (i ≤ cell ts task_width k 4)
    unfolding has_section
    place_within =
        let a = both_left (within i 1 (length (task_row ts k).locks)) _ h in
        (leb-true 1 i (both_left (leb 1 i) _ a), rw locks_are at (leb-true i _ (both_right (leb 1 i) _ a)))

    place_lock : lock_at (task_row ts k) i ≡ lock_row ts k (i - 1)
    place_lock = let a = place_within in lock_is a.0 a.1

    place_global : is_section s (lock_row ts k (i - 1)) ≡ true
    unfolding has_section
    place_global = ap (λ (x : Lock). is_section s x) (sym place_lock) ∙ both_right (within i 1 (length (task_row ts k).locks)) _ h

    -- lock i of the task, counted from 1, is lock i - 1 of its row: a global section there too
    place_section : section_at s ts k (i - 1) ≡ true
    unfolding section_at
    place_section = let a = place_within in both _ _ (lt-ltb (i - 1) (cell ts task_width k 4) (omega arith)) place_global

    -- its mutex m is global
    pub lock_global : {m : ℕ} → m ≡ cell ts task_width k (5 + ((i - 1) * 3 + 0)) → global s.mutexes m ≡ true
    unfolding lock_row
    lock_global e = ap (global s.mutexes) e ∙ place_global

    -- a wait that was searched there
    pub wait_of_law :
        {v m l : ℕ} → v ≡ cell ts task_width k 0 → m ≡ cell ts task_width k (5 + ((i - 1) * 3 + 0)) → l ≡ cell ts task_width k 2 →
        solve (wait_demand s v m) (wait_start s v m) l ≡ wait_answer s (task_row ts k) (lock_at (task_row ts k) i)
    unfolding wait_answer task_row lock_row
    wait_of_law d e f = rw (d, e, f) (ap (wait_answer s (task_row ts k)) (sym place_lock))

    -- a response that was stored there
    pub response_of : {n : ℕ} {rf : List ℕ} → Responses s ts n rf → i ≤ 8 → k * 8 + (i - 1) < n →
        get_or rf (k * 8 + (i - 1)) 0 ≡ response s (task_row ts k) (lock_at (task_row ts k) i)
    unfolding section_response when
    response_of g c l =
        let d : (k * 8 + (i - 1)) / 8 ≡ k = omega arith in
        let e : (k * 8 + (i - 1)) % 8 ≡ i - 1 = omega arith in
        (g.at (k * 8 + (i - 1)) l).is
        ∙ ap₂ (section_response s ts) d e
        ∙ rw (place_lock, place_section)
