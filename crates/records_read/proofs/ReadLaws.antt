-- Reading a plan into records is reading it into the rows of numbers that they stand for.
use Prim.Native.Nat.{ℕ, ◌*◌, ◌≤◌}
use Rattle.std.specs.Prelude.{◌≡◌, Bool, ◌&&◌, take, Result, Ok, Err}
use Rattle.std.proofs.Math.Path.{refl, ap, sym}
use Rattle.std.proofs.Common.{ap₂, ◌∙◌, leb-true, le-leb, take-append-drop, length-take-le, drop_at}
use mathlib.Core.List.{List, ◌++◌, append_assoc}
use Rattle.std.proofs.Math.Bool.{true, false}
use native.Mathlib.Omega.{arith}
use Rattle.std.proofs.Math.Dec.{leb}
use Rattle.std.proofs.Math.ListN.{length, drop}
use Rattle.std.specs.Prelude.{if◌then◌else◌}
use Rattle.laws.specs.Sums.{flat}
use Rattle.laws.specs.SumLaws.{each_map, flat_append}
use Rattle.laws.specs.Rows.{rows}
use Rattle.laws.specs.RowLaws.{rows_length, rows_same}
use Rattle.laws.specs.BoolLaws.{both_ways}
use Rattle.plan.specs.Limits.{max_tasks, most_tasks}
use Rattle.plan.specs.declared.Complaint.{Complaint}
use Rattle.plan.specs.Refusals.{no_room}
use Rattle.plan.specs.Plan.{Plan, tasks_of}
use Rattle.plan.specs.Valid.{Valid}
use Rattle.plan.specs.Reading.{Reading, Accepts, Refuses, reading}
use Rattle.plan.proofs.Accepted.{read_text_law}
use Rattle.plan_tables.specs.declared.PlanRecord.{PlanRecord}
use Rattle.plan_tables.specs.Layout.{Tables, lent, task_width, vcpu_width, mutex_width, open_width, task_cells, filled, record_of}
use Rattle.plan_tables.specs.FlatLaws.{flat_length, over_rows}
use Rattle.plan_tables.proofs.LayoutLaws.{task_wide}
use Rattle.plan_tables.specs.Given.{roomy_by, roomy, is_given}
use Rattle.plan_tables.proofs.Sound.{given_sound}
use Rattle.plan_tables.proofs.GivenLaws.{valid_few, roomy_exactly}
use Rattle.read_answer.specs.Into.{answer_into, tables_into, plan_answer, tables_after}
use Rattle.read_answer.specs.Claims.{refusal_leaves, acceptance_leaves, accepted_with_room, accepted_given}
use Rattle.records.specs.declared.Task.{Task}
use Rattle.records.specs.Sheet.{task_nums, sheet_rows, tables_of, no_rows, task_of, saved}
use Rattle.records.specs.SheetLaws.{sheet_long, rows_long}
use Rattle.records.specs.SaveLaws.{saved_none, task_same, nums_back}
use Rattle.records_read.specs.After.{count_of, sheets_after, nums_for, ReadIn, ReadOut}
use Rattle.records_read.specs.Kept.{sheets_kept}

leb_same : (a b c : ℕ) → (a ≤ b → a ≤ c) → (a ≤ c → a ≤ b) → leb a b ≡ leb a c
leb_same a b c f g = both_ways (leb a b) (leb a c) (λ e. le-leb a c (f (leb-true a b e))) (λ e. le-leb a b (g (leb-true a c e)))

-- what holds of both readings of s holds
by_reading : (s : List ℕ) (Q : Reading → Type 0) → ((x : Complaint) → Q (Refuses x)) → ((p : Plan) → Valid p → Q (Accepts p)) → Q (reading s)
by_reading s Q f g = go (reading s) refl
  where
    go : (r : Reading) → reading s ≡ r → Q r
    go (Refuses x) e = f x
    go (Accepts p) e = g p (read_text_law s p e).0

-- no plan has more tasks than it may
few : (p : Plan) → Valid p → (record_of p).tasks ≤ max_tasks
unfolding record_of
few p h = h.few_tasks

pub count_few : (s : List ℕ) (t : Tables) → count_of (plan_answer s t) ≤ max_tasks
unfolding plan_answer
count_few s t = by_reading s (λ r. count_of (answer_into r t) ≤ max_tasks) (λ x. omega arith) (λ p h. go p h (roomy (record_of p) t))
  where
    go : (p : Plan) → Valid p → (b : Bool) → count_of (if b then Ok (record_of p) else Err no_room) ≤ max_tasks
    go p h true = few p h
    go p h false = omega arith

-- u has the numbers of as many records as there are, and of no more than there are places for
module _ (s vt mt ot : List ℕ) (ks : List Task) (u : List ℕ) (long : length u ≡ nums_for (length ks)) where
  abbrev nums : Tables
  nums = lent vt mt ot u

  abbrev recs : Tables
  recs = tables_of vt mt ot ks

  abbrev cells : Plan → List ℕ
  cells p = flat task_cells (tasks_of p.sections)

  cells_long : (p : Plan) → Valid p → length (cells p) ≡ (record_of p).tasks * task_width
  unfolding record_of
  cells_long p h = flat_length task_cells task_width (tasks_of p.sections) (each_map (tasks_of p.sections) task_wide (valid_few h))

  room_same : (p : Plan) → Valid p → roomy (record_of p) nums ≡ roomy (record_of p) recs
  unfolding roomy_by
  room_same p h =
      let k = few p h in
      let l = sheet_long ks in
      ap (λ b. leb ((record_of p).vcpus * vcpu_width) (length vt) && (leb ((record_of p).mutexes * mutex_width) (length mt) && (leb ((record_of p).opens * open_width) (length ot) && b)))
      (leb_same ((record_of p).tasks * task_width) (length u) (length (sheet_rows ks)) (λ a. omega arith) (λ a. omega arith))

  pub answer_same : plan_answer s nums ≡ plan_answer s recs
  unfolding plan_answer
  answer_same =
      by_reading s (λ r. answer_into r nums ≡ answer_into r recs) (λ x. refl)
      (λ p h. ap (λ b. if b then Ok (record_of p) else Err no_room) (room_same p h))

  -- the tables where b says that there is room
  abbrev left : Plan → Tables → Bool → Tables
  left p t b = if b then filled p t else t

  abbrev told : Plan → Bool → Result PlanRecord Complaint
  told p b = if b then Ok (record_of p) else Err no_room

  others_same : (p : Plan) (b : Bool) → ((left p nums b).vcpus ≡ (left p recs b).vcpus) × ((left p nums b).mutexes ≡ (left p recs b).mutexes) × ((left p nums b).opens ≡ (left p recs b).opens)
  unfolding filled
  others_same p true = (refl, refl, refl)
  others_same p false = (refl, refl, refl)

  pub vcpus_same : (tables_after s nums).vcpus ≡ (tables_after s recs).vcpus
  unfolding tables_after
  vcpus_same =
      by_reading s (λ r. (tables_into r nums).vcpus ≡ (tables_into r recs).vcpus) (λ x. refl)
      (λ p h. ap (λ b. (left p nums b).vcpus) (room_same p h) ∙ (others_same p (roomy (record_of p) recs)).0)

  pub mutexes_same : (tables_after s nums).mutexes ≡ (tables_after s recs).mutexes
  unfolding tables_after
  mutexes_same =
      by_reading s (λ r. (tables_into r nums).mutexes ≡ (tables_into r recs).mutexes) (λ x. refl)
      (λ p h. ap (λ b. (left p nums b).mutexes) (room_same p h) ∙ (others_same p (roomy (record_of p) recs)).1)

  pub opens_same : (tables_after s nums).opens ≡ (tables_after s recs).opens
  unfolding tables_after
  opens_same =
      by_reading s (λ r. (tables_into r nums).opens ≡ (tables_into r recs).opens) (λ x. refl)
      (λ p h. ap (λ b. (left p nums b).opens) (room_same p h) ∙ (others_same p (roomy (record_of p) recs)).2)

  sheet_pick : (w : List ℕ) (p : Plan) → Valid p → (b : Bool) → saved ks ((left p nums b).tasks ++ w) (count_of (told p b)) ≡ saved ks (left p recs b).tasks (count_of (told p b))
  unfolding filled saved
  sheet_pick w p h true =
      let c : List ℕ = cells p in
      let n : ℕ = (record_of p).tasks in
      ap (λ l. l ++ drop n ks)
      (rows_same n (λ i l. ap (λ t. task_of t i) (append_assoc c (drop (length c) u) w)
      ∙ task_same c (drop (length c) u ++ w) (drop (length c) (sheet_rows ks)) n (cells_long p h) i l))
  sheet_pick w p h false = unfold rows in refl

  pub sheets_same : (w : List ℕ) → saved ks ((tables_after s nums).tasks ++ w) (count_of (plan_answer s nums)) ≡ sheets_after s vt mt ot ks
  unfolding plan_answer tables_after sheets_after
  sheets_same w =
      by_reading s (λ r. saved ks ((tables_into r nums).tasks ++ w) (count_of (answer_into r nums)) ≡ saved ks (tables_into r recs).tasks (count_of (answer_into r recs)))
      (λ x. sym (saved_none ks (u ++ w)) ∙ saved_none ks (sheet_rows ks))
      (λ p h. ap (λ b. saved ks ((left p nums b).tasks ++ w) (count_of (told p b))) (room_same p h) ∙ sheet_pick w p h (roomy (record_of p) recs))

  count_room : count_of (plan_answer s recs) ≤ length ks
  unfolding plan_answer
  count_room = by_reading s (λ r. count_of (answer_into r recs) ≤ length ks) (λ x. omega arith) (λ p h. go p h (roomy (record_of p) recs) refl)
    where
      go : (p : Plan) → Valid p → (b : Bool) → roomy (record_of p) recs ≡ b → count_of (told p b) ≤ length ks
      go p h true e = let k = (roomy_exactly (record_of p) recs).0 e in let l = sheet_long ks in omega (arith, k.tasks)
      go p h false e = omega arith

-- FROM THE READER INTO NUMBERS TO THE READER INTO RECORDS
module _ (s vt mt ot : List ℕ) (ks : List Task) (a : Result PlanRecord Complaint) (v m o w : List ℕ) (h : ReadIn s vt mt ot no_rows (length ks) a v m o w) (n : ℕ) (e : n ≡ count_of a) where
  abbrev u : List ℕ
  u = take (nums_for (length ks)) no_rows

  u_long : length u ≡ nums_for (length ks)
  u_long = length-take-le (nums_for (length ks)) no_rows (omega (arith, rows_long))

  pub read_count : (n ≤ most_tasks) × (n ≤ length ks)
  read_count =
      let k : n ≡ count_of (plan_answer s (tables_of vt mt ot ks)) = e ∙ ap count_of (h.0 ∙ answer_same s vt mt ot ks u u_long) in
      (omega (arith, count_few s (tables_of vt mt ot ks)), omega (arith, count_room s vt mt ot ks u u_long))

  pub read_all : (zs : List Task) → zs ≡ saved ks w n → ReadOut s vt mt ot ks a v m o zs
  read_all zs z = (
    h.0 ∙ answer_same s vt mt ot ks u u_long,
    (
      h.1.0 ∙ vcpus_same s vt mt ot ks u u_long,
      (
        h.1.1.0 ∙ mutexes_same s vt mt ot ks u u_long,
        (
          h.1.1.1.0 ∙ opens_same s vt mt ot ks u u_long,
          z ∙ ap₂ (saved ks) h.1.1.1.1 (e ∙ ap count_of h.0) ∙ sheets_same s vt mt ot ks u u_long (drop (nums_for (length ks)) no_rows),
        ),
      ),
    ),
  )

-- THE RECORDS AFTER ARE THE ROWS AFTER

pub sheet_drop : (n : ℕ) (ks : List Task) → n ≤ length ks → drop (n * task_width) (sheet_rows ks) ≡ sheet_rows (drop n ks)
unfolding sheet_rows
sheet_drop n ks l =
    let e : flat task_nums ks ≡ flat task_nums (take n ks) ++ flat task_nums (drop n ks) =
    ap (flat task_nums) (sym (take-append-drop n ks)) ∙ flat_append task_nums (take n ks) (drop n ks) in
    let k : length (flat task_nums (take n ks)) ≡ n * task_width = sheet_long (take n ks) ∙ ap (λ m. m * task_width) (length-take-le n ks l) in
    ap (drop (n * task_width)) e ∙ drop_at (flat task_nums (take n ks)) (flat task_nums (drop n ks)) (n * task_width) k

saved_rows :
    (ks : List Task) (t : List ℕ) (n : ℕ) → n ≤ length ks → n * task_width ≤ length t → drop (n * task_width) t ≡ drop (n * task_width) (sheet_rows ks) →
    sheet_rows (saved ks t n) ≡ t
unfolding saved sheet_rows
saved_rows ks t n l room rest =
    let c : List ℕ = flat task_nums (rows n (task_of t)) in
    let k : length c ≡ n * task_width = sheet_long (rows n (task_of t)) ∙ ap (λ m. m * task_width) (rows_length n (task_of t)) in
    flat_append task_nums (rows n (task_of t)) (drop n ks)
    ∙ ap (λ u. c ++ u) (sym (sheet_drop n ks l) ∙ sym rest ∙ ap (λ m. drop m t) (sym k))
    ∙ over_rows task_nums task_width n (task_of t) t (λ i h. nums_back t i) room

module _ (s vt mt ot : List ℕ) (ks : List Task) where
  abbrev into : Tables
  into = tables_of vt mt ot ks

  accepted_rows : (r : PlanRecord) → plan_answer s into ≡ Ok r → sheet_rows (saved ks (tables_after s into).tasks r.tasks) ≡ (tables_after s into).tasks
  accepted_rows r e =
      let g = given_sound r (tables_after s into) (accepted_given s into r e) in
      let w = (accepted_with_room s into r).0 e in
      let k : r.tasks ≡ (record_of w.0).tasks = ap (λ x. x.tasks) w.4 in
      saved_rows ks (tables_after s into).tasks r.tasks (omega (arith, w.3.tasks, sheet_long ks)) g.room.tasks (acceptance_leaves s into r e).tasks

  -- the records after reading have the numbers that reading leaves in the rows they stood for
  pub sheets_rows : sheet_rows (sheets_after s vt mt ot ks) ≡ (tables_after s into).tasks
  unfolding sheets_after
  sheets_rows = go (plan_answer s into) refl
    where
      go : (a : Result PlanRecord Complaint) → plan_answer s into ≡ a → sheet_rows (sheets_after s vt mt ot ks) ≡ (tables_after s into).tasks
      go (Ok r) e = ap (λ a. sheet_rows (saved ks (tables_after s into).tasks (count_of a))) e ∙ accepted_rows r e
      go (Err x) e = ap sheet_rows (sheets_kept s vt mt ot ks x e) ∙ sym (ap (λ u. u.tasks) (refusal_leaves s into x e))

  -- so that the tables with these records are those that reading leaves
  pub sheets_left : tables_of (tables_after s into).vcpus (tables_after s into).mutexes (tables_after s into).opens (sheets_after s vt mt ot ks) ≡ tables_after s into
  sheets_left = ap (lent (tables_after s into).vcpus (tables_after s into).mutexes (tables_after s into).opens) sheets_rows

  -- and after an accepted plan they pass the test for 9
  pub sheets_given :
      (r : PlanRecord) → plan_answer s into ≡ Ok r →
      is_given r (tables_of (tables_after s into).vcpus (tables_after s into).mutexes (tables_after s into).opens (sheets_after s vt mt ot ks)) ≡ true
  sheets_given r e = ap (is_given r) sheets_left ∙ accepted_given s into r e
