-- Laws of the tests: each says what the test for 9 says.
use Rattle.std.specs.Prelude.{◌≡◌, Bool, true, false, ◌&&◌, ◌↔◌, List, [], ◌∷◌, ◌++◌}
use Rattle.std.proofs.Common.{ap, ap₂, sym, ◌∙◌, arith}
use Rattle.laws.specs.BoolLaws.{both_right, both_ways, both_exactly}
use Rattle.laws.specs.Rows.{rows}
use Rattle.plan.specs.Text.{items_of}
use Rattle.plan.specs.Rules as known
use Rattle.plan.specs.Reading.{Passes, rules}
use Rattle.plan.proofs.ValidLaws.{passes_valid, valid_passes}
use Rattle.plan.specs.declared.Kind.TheVariants.{EndLine}
use Rattle.plan.specs.Line.{Item}
use Rattle.plan.specs.Text as text
use Rattle.judge_coded.specs.Coded.{coded, start}
use Rattle.judge_coded.proofs.Agrees.{same_passes}
use Rattle.plan_tables.specs.declared.PlanRecord.{PlanRecord}
use Rattle.plan_tables.specs.Layout.{Tables, vcpu_row}
use Rattle.plan_tables.specs.Given.{plan_in, roomy, is_given}
use Rattle.plan_tables.proofs.GivenLaws.{Tested, clean_passes, roomy_exactly, tested_exactly, row_few}
use Rattle.plan_tables.proofs.Sound.{given_sound}
use Rattle.given_tidy.specs.TestLaws.{few_exactly, tidy_exactly, tidy_at, tidy_all}
use Rattle.given_test.specs.Feed.{Run, fresh, feed, feeds, passing, lined, vcpu_lines, mutex_lines, open_lines, task_lines}
use Rattle.given_test.specs.FeedLaws.{fed_clean, feeds_append}
use Rattle.given_test.specs.Tests.{few, Few, all_tidy, front_items, row_items, clean_rows, sound_rows}
use Rattle.given_test.specs.ItemLaws.{row_items_law}

-- the second of two tests is made where the first holds
pub both_taken : {a b x y : Bool} → x ≡ a → x ≡ true → y ≡ b → y ≡ (a && b)
both_taken e h f = rw (sym e ∙ h) f

pub both_missed : {a x : Bool} (b : Bool) → x ≡ a → x ≡ false → false ≡ (a && b)
both_missed b e h = rw (sym e ∙ h)

-- the rows are clean exactly when the items of the plan in the tables pass the rules
pub clean_exactly : (r : PlanRecord) (t : Tables) → (clean_rows r t ≡ true) ↔ Passes rules known.start (items_of (plan_in r t))
unfolding clean_rows
clean_exactly r t =
    let e = clean_passes coded start (items_of (plan_in r t)) in
    let f = same_passes (items_of (plan_in r t)) in
    (λ h. f.0 (e.0 (rw (row_items_law r t) h)), λ h. rw (row_items_law r t) at (e.1 (f.1 h)))

-- items after others
fed_then : (a b : Run) (is js : List Item) → b ≡ feeds a is → feeds b js ≡ feeds a (is ++ js)
fed_then a b is js h = ap (λ x. feeds x js) h ∙ sym (feeds_append a is js)

-- the rows in turn
pub rows_clean :
    (r : PlanRecord) (t : Tables) {a b c d : Run} {x : Bool} →
    a ≡ feeds fresh (front_items r []) → b ≡ feeds a (lined r.vcpus (vcpu_lines t.vcpus)) → c ≡ feeds b (lined r.mutexes (mutex_lines t.mutexes)) →
    d ≡ feeds c (lined r.opens (open_lines t.opens)) →
    x ≡ passing (feed (feeds d (lined r.tasks (task_lines (rows r.vcpus (vcpu_row t.vcpus)) t.tasks))) (text.item EndLine [])) → x ≡ clean_rows r t
unfolding clean_rows row_items feeds
rows_clean r t {a} {b} {c} {d} ha hb hc hd hx =
    let vs : List Item = lined r.vcpus (vcpu_lines t.vcpus) in
    let ms : List Item = lined r.mutexes (mutex_lines t.mutexes) in
    let os : List Item = lined r.opens (open_lines t.opens) in
    let ks : List Item = lined r.tasks (task_lines (rows r.vcpus (vcpu_row t.vcpus)) t.tasks) in
    let end : List Item = text.item EndLine [] ∷ [] in
    let whole : feeds (feeds d ks) end ≡ feeds fresh (row_items r t) =
    sym (feeds_append d ks end)
    ∙ fed_then c d os (ks ++ end) hd
    ∙ fed_then b c ms (os ++ (ks ++ end)) hc
    ∙ fed_then a b vs (ms ++ (os ++ (ks ++ end))) hb
    ∙ ap (λ u. feeds u (vs ++ (ms ++ (os ++ (ks ++ end))))) ha in
    hx ∙ ap passing whole ∙ fed_clean fresh (row_items r t)

-- THE TEST FOR 9, test by test: no table with more rows or locks than a plan can have passes
pub given_tests : (r : PlanRecord) (t : Tables) → is_given r t ≡ ((roomy r t && few r) && sound_rows r t)
unfolding sound_rows
given_tests r t =
    let e = both_exactly (both_exactly (roomy_exactly r t) (few_exactly r)) (both_exactly {a = all_tidy t.tasks r.tasks} (λ h. h, λ h. h) (clean_exactly r t)) in
    both_ways (is_given r t) ((roomy r t && few r) && sound_rows r t)
    (λ g.
    let s = given_sound r t g in
    let h : Tested r t = (tested_exactly r t).0 g in
    e.1 (
      (h.room, record { vcpus = s.few_vcpus; mutexes = s.few_mutexes; opens = s.few_opens; tasks = omega (arith, s.few_tasks) }),
      (tidy_all t.tasks r.tasks (λ i l. (tidy_exactly t.tasks i).1 (row_few r t h.valid i l, h.zeros i l)), valid_passes (plan_in r t) h.valid),
    ))
    (λ g.
    let h = e.0 g in
    (tested_exactly r t).1
    (record {
      room = h.0.0;
      zeros = λ i l. ((tidy_exactly t.tasks i).0 (tidy_at t.tasks r.tasks i h.1.0 l)).1;
      valid = passes_valid (plan_in r t) h.1.1;
    }))

-- the same where the first two are told by x and y
module _ (r : PlanRecord) (t : Tables) {x y : Bool} (e : x ≡ roomy r t) (f : y ≡ few r) where
  pub few_told : (x && y) ≡ true → Few r
  few_told h = (few_exactly r).0 (sym f ∙ both_right x y h)

  pub given_told : {b : Bool} → (x && y) ≡ true → b ≡ sound_rows r t → b ≡ is_given r t
  given_told h k = both_taken {a = roomy r t && few r} (ap₂ ◌&&◌ e f) h k ∙ sym (given_tests r t)

  pub given_refused : (x && y) ≡ false → false ≡ is_given r t
  given_refused h = both_missed {a = roomy r t && few r} (sound_rows r t) (ap₂ ◌&&◌ e f) h ∙ sym (given_tests r t)
