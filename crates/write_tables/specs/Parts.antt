-- The parts of a plan's text, table by table, and what the test for 9 says of them.
use Rattle.std.specs.Prelude.{ℕ, ◌≤◌, ◌≡◌, refl, Bool, true, false, ◌&&◌, not, leb, length, drop, Ok, Err}
use Rattle.std.proofs.Math.Path.{ap, sym}
use Rattle.std.proofs.Common.{ap₂, subst, ◌∙◌, zero-add, arith, le-leb, leb-true, leb-false}
use mathlib.Core.List.{List, [], ◌∷◌, ◌++◌}
use Rattle.std.proofs.lemmas.Bool.{not-true, not-false}
use Rattle.laws.specs.BoolLaws.{both_left, both_right}
use Rattle.laws.specs.Bytes.{joined, ended}
use Rattle.laws.specs.Rows.{rows}
use Rattle.plan.specs.declared.Policy.{Policy}
use Rattle.plan.specs.declared.Policy.TheVariants.{Periodic, Deferrable}
use Rattle.plan.specs.declared.OverrunChoice.{OverrunChoice}
use Rattle.plan.specs.declared.OverrunChoice.TheVariants.{WithOverrun, WithoutOverrun}
use Rattle.plan.specs.declared.Refusal.TheVariants.{Room}
use Rattle.plan.specs.declared.Kind.TheVariants.{PlanLine, EndLine}
use Rattle.plan.specs.Line.{Item, shape, fields_of, line_of}
use Rattle.plan.specs.Text.{item, policy_kind, lines_of, text_of, text}
use Rattle.plan_tables.specs.declared.PlanRecord.{PlanRecord}
use Rattle.plan_tables.specs.Layout.{Tables, vcpu_row}
use Rattle.plan_tables.specs.Given.{plan_in, is_given, roomy}
use Rattle.given_tidy.specs.Tests.{few, Few, all_tidy}
use Rattle.given_tidy.specs.TestLaws.{few_exactly}
use Rattle.given_test.specs.Feed.{lined, vcpu_lines, mutex_lines, open_lines, task_lines}
use Rattle.given_test.specs.Tests.{row_items, sound_rows}
use Rattle.given_test.specs.TestLaws.{given_tests}
use Rattle.given_test.specs.ItemLaws.{row_items_law}
use Rattle.text_letters.specs.Wrote.{Wrote, Joins}
use Rattle.text_letters.specs.WroteLaws.{joins}
use Rattle.text_told.specs.At.{told_at}
use Rattle.text_told.proofs.AtLaws.{told_off}
use Rattle.text_told.specs.Told.{Space, Told}
use Rattle.listing_lines.specs.Into.{has_room, text_answer, text_after}
use Rattle.listing_lines.specs.IntoLaws.{into_room, into_none}
use Rattle.write_asked.specs.Short.{most_text, text_short}
use Rattle.write_lines.specs.Texts.{text_append}

-- the first two lines, in bytes: `plan 1`, `policy p o`
abbrev pub front_bytes : Policy → OverrunChoice → List ℕ
front_bytes Periodic WithOverrun = 112 ∷ 108 ∷ 97 ∷ 110 ∷ 9 ∷ 49 ∷ 10 ∷ 112 ∷ 111 ∷ 108 ∷ 105 ∷ 99 ∷ 121 ∷ 9 ∷ 80 ∷ 9 ∷ 79 ∷ 10 ∷ []
front_bytes Periodic WithoutOverrun = 112 ∷ 108 ∷ 97 ∷ 110 ∷ 9 ∷ 49 ∷ 10 ∷ 112 ∷ 111 ∷ 108 ∷ 105 ∷ 99 ∷ 121 ∷ 9 ∷ 80 ∷ 9 ∷ 78 ∷ 10 ∷ []
front_bytes Deferrable WithOverrun = 112 ∷ 108 ∷ 97 ∷ 110 ∷ 9 ∷ 49 ∷ 10 ∷ 112 ∷ 111 ∷ 108 ∷ 105 ∷ 99 ∷ 121 ∷ 9 ∷ 68 ∷ 9 ∷ 79 ∷ 10 ∷ []
front_bytes Deferrable WithoutOverrun = 112 ∷ 108 ∷ 97 ∷ 110 ∷ 9 ∷ 49 ∷ 10 ∷ 112 ∷ 111 ∷ 108 ∷ 105 ∷ 99 ∷ 121 ∷ 9 ∷ 68 ∷ 9 ∷ 78 ∷ 10 ∷ []

front_text : (p : Policy) (o : OverrunChoice) → text_of (item PlanLine [] ∷ item (policy_kind p o) [] ∷ []) ≡ front_bytes p o
unfolding text_of lines_of ended line_of joined fields_of shape
front_text Periodic WithOverrun = refl
front_text Periodic WithoutOverrun = refl
front_text Deferrable WithOverrun = refl
front_text Deferrable WithoutOverrun = refl

-- by what a match has told
pub front_told : {p q : Policy} {o n : OverrunChoice} → p ≡ q → o ≡ n → front_bytes p o ≡ front_bytes q n
front_told e f = rw (e, f)

-- the last line
abbrev pub end_bytes : List ℕ
end_bytes = 101 ∷ 110 ∷ 100 ∷ 10 ∷ []

end_text_law : text_of (item EndLine [] ∷ []) ≡ end_bytes
unfolding text_of lines_of ended line_of joined fields_of shape
end_text_law = refl

-- TABLE BY TABLE
module _ (r : PlanRecord) (t : Tables) where
  abbrev pub vcpus_text : List ℕ
  vcpus_text = text_of (lined r.vcpus (vcpu_lines t.vcpus))

  abbrev pub mutexes_text : List ℕ
  mutexes_text = text_of (lined r.mutexes (mutex_lines t.mutexes))

  abbrev pub opens_text : List ℕ
  opens_text = text_of (lined r.opens (open_lines t.opens))

  abbrev pub tasks_text : List ℕ
  tasks_text = text_of (lined r.tasks (task_lines (rows r.vcpus (vcpu_row t.vcpus)) t.tasks))

  -- what follows the first two lines, the VCPUs, the mutexes and the openings
  abbrev after_opens : List ℕ
  after_opens = tasks_text ++ end_bytes

  abbrev after_mutexes : List ℕ
  after_mutexes = opens_text ++ after_opens

  abbrev after_vcpus : List ℕ
  after_vcpus = mutexes_text ++ after_mutexes

  abbrev after_front : List ℕ
  after_front = vcpus_text ++ after_vcpus

  pub vcpus_joins : Joins after_front vcpus_text after_vcpus
  vcpus_joins = joins vcpus_text after_vcpus

  pub mutexes_joins : Joins after_vcpus mutexes_text after_mutexes
  mutexes_joins = joins mutexes_text after_mutexes

  pub opens_joins : Joins after_mutexes opens_text after_opens
  opens_joins = joins opens_text after_opens

  pub tasks_joins : Joins after_opens tasks_text end_bytes
  tasks_joins = joins tasks_text end_bytes

  pub plan_joins : Joins (text (plan_in r t)) (front_bytes r.policy r.overrun) after_front
  unfolding row_items
  plan_joins =
      let a : List Item = lined r.vcpus (vcpu_lines t.vcpus) in
      let b : List Item = lined r.mutexes (mutex_lines t.mutexes) in
      let c : List Item = lined r.opens (open_lines t.opens) in
      let d : List Item = lined r.tasks (task_lines (rows r.vcpus (vcpu_row t.vcpus)) t.tasks) in
      let e : List Item = item EndLine [] ∷ [] in
      record {
        is =
            ap text_of (row_items_law r t)
            ∙ text_append (item PlanLine [] ∷ item (policy_kind r.policy r.overrun) [] ∷ []) (a ++ (b ++ (c ++ (d ++ e))))
            ∙ rw (front_text r.policy r.overrun, text_append a (b ++ (c ++ (d ++ e))), text_append b (c ++ (d ++ e)), text_append c (d ++ e), text_append d e, end_text_law);
      }

  module _ (g : is_given r t ≡ true) where
    tests : (few r ≡ true) × (all_tidy t.tasks r.tasks ≡ true)
    unfolding sound_rows
    tests =
        let h = sym (given_tests r t) ∙ g in (
          both_right (roomy r t) (few r) (both_left (roomy r t && few r) (sound_rows r t) h),
          both_left (all_tidy t.tasks r.tasks) _ (both_right (roomy r t && few r) (sound_rows r t) h),
        )

    pub given_few : Few r
    given_few = (few_exactly r).0 tests.0

    pub given_tidy : all_tidy t.tasks r.tasks ≡ true
    given_tidy = tests.1

    pub space_plan : {on : Bool} {o : List ℕ} → (on ≡ true → length (text (plan_in r t)) ≤ length o) → Space on (text (plan_in r t)) o 0
    space_plan h = record { counted = omega (arith, text_short r t g); written = λ e. omega (arith, h e) }

-- THE WHOLE TEXT
pub told_wrote : {x o p : List ℕ} {n : ℕ} → Told true x o p 0 n → Wrote x o p n
unfolding told_at
told_wrote {x} {o} t = record { count = omega (arith, t.place); bytes = t.buffer ∙ ap (λ m. x ++ drop m o) (zero-add (length x)) }

-- counted only, the buffer is as it was
pub told_same : {x o p : List ℕ} {n : ℕ} → Told false x o p 0 n → p ≡ o
told_same {x} {o} t = t.buffer ∙ told_off x o 0 refl

-- WHETHER IT FITS: no plan has more bytes than `most_text`, or they are counted
pub room_sure : (x o : List ℕ) {l : ℕ} → length x ≤ most_text → l ≡ length o → most_text ≤ l → true ≡ has_room x o
room_sure x o h e k = sym (le-leb (length x) (length o) (omega arith))

pub room_counted : {x o p : List ℕ} {n l : ℕ} → Told false x o p 0 n → l ≡ length p → (leb n l ≡ has_room x o) × (p ≡ o)
room_counted t e =
    let f = told_same t in
    let n = t.place ∙ zero-add _ in
    (ap₂ leb n (e ∙ ap length f), f)

module _ (x : List ℕ) {o p : List ℕ} {b : Bool} (e : b ≡ has_room x o) (f : p ≡ o) where
  pub none_told : not b ≡ true → (Err Room ≡ text_answer x o) × (p ≡ text_after x o)
  none_told h =
      let w = into_none x o (let k = leb-false (length x) (length o) (sym e ∙ not-true b h) in omega (arith, k)) in
      (w.0, f ∙ w.1)

  pub room_told : not b ≡ false → length x ≤ length p
  room_told h = rw f (leb-true (length x) (length o) (sym e ∙ not-false b h))

  pub whole_told : not b ≡ false → {q : List ℕ} {m : ℕ} → Told true x p q 0 m → (Ok m ≡ text_answer x o) × (q ≡ text_after x o)
  whole_told h {q} {m} u = into_room x o (leb-true (length x) (length o) (sym e ∙ not-false b h)) (subst (λ y. Wrote x y q m) f (told_wrote u))
