-- The bytes of a plan are few: it has at most 1,395 lines, of at most 46 bytes with their LF, so no more than the programs read.
use Rattle.std.specs.Prelude.{ℕ, zero, suc, ◌+◌, ◌*◌, ◌≤◌, ◌<◌, ◌≡◌, refl, List, [], ◌∷◌, ◌++◌, Bool, true, false, leb, ltb, length}
use Rattle.std.proofs.Common.{ap, sym, ◌∙◌, suc-mul, zero-mul, arith, leb-true, ltb-true, length-append}
use Rattle.std.proofs.lemmas.Bool.{false≢true}
use Rattle.laws.specs.BoolLaws.{both_left, both_right}
use Rattle.laws.specs.Bytes.{joined, ended}
use Rattle.laws.proofs.DecimalLaws.{decimal_length}
use Rattle.laws.specs.Sums.{all}
use Rattle.laws.specs.Rows.{rows}
use Rattle.plan.specs.Limits.{max_locks, max_digits, tab, lf}
use Rattle.plan.specs.declared.Kind.{Kind}
use Rattle.plan.specs.declared.Kind.TheVariants.{EndLine}
use Rattle.plan.specs.Line.{Form, Word, Num, Item, bad, shape, fields_of, line_of, written}
use Rattle.plan.specs.KindLaws.{all_kind}
use Rattle.plan.specs.Plan.{Vcpu, Plan}
use Rattle.plan.specs.Valid.{Valid}
use Rattle.plan.proofs.Accepted.{read_text_law, text_once}
use Rattle.plan.specs.Text.{item, lines_of, text_of, items_of, text}
use Rattle.plan.specs.Rules.{Known, start}
use Rattle.plan.specs.Reading.{Passes, rules}
use Rattle.plan.specs.JudgeLaws.{fault_written}
use Rattle.plan.proofs.ValidLaws.{valid_passes}
use Rattle.plan_tables.specs.declared.PlanRecord.{PlanRecord}
use Rattle.plan_tables.specs.Layout.{Tables, lent, task_width, cell, vcpu_row, zeros, record_of}
use Rattle.plan_tables.specs.Given.{plan_in, is_given}
use Rattle.plan_tables.proofs.LayoutLaws.{zeros_length}
use Rattle.plan_tables.proofs.GivenLaws.{roomy_exactly, plan_given, given_plan}
use Rattle.plan_tables.proofs.Sound.{Sound, given_sound}
use Rattle.read_answer.specs.Into.{tables_after}
use Rattle.read_answer.specs.Ample.{ample_roomy}
use Rattle.read_answer.specs.Claims.{accepted_with_room, accepted_gives, accepted_given}
use Rattle.given_tidy.specs.Hosts.{host_of, begins}
use Rattle.given_test.specs.Feed.{lined, vcpu_lines, mutex_lines, open_lines, lock_lines, guest_line, head_lines, task_lines}
use Rattle.given_test.specs.Tests.{row_items}
use Rattle.given_test.specs.ItemLaws.{row_items_law}

-- A LINE: each field with the tab or LF behind it
abbrev wide : List (List ℕ) → ℕ
wide [] = 0
wide (f ∷ fs) = suc (length f + wide fs)

joined_wide : (fs : List (List ℕ)) → length (joined tab fs) ≤ wide fs
unfolding joined
joined_wide [] = omega arith
joined_wide (f ∷ []) = omega arith
joined_wide (f ∷ g ∷ fs) = omega (arith, length-append f (tab ∷ joined tab (g ∷ fs)), joined_wide (g ∷ fs))

-- the fields of a shape, a number having at most 7 digits
abbrev widest : List Form → ℕ
widest [] = 0
widest (Word w ∷ ps) = suc (length w + widest ps)
widest (Num ∷ ps) = suc (max_digits + widest ps)

fields_wide : (ps : List Form) (ns : List ℕ) → written ps ns ≡ true → wide (fields_of ps ns) ≤ widest ps
unfolding written fields_of
fields_wide [] ns h = omega arith
fields_wide (Word w ∷ ps) ns h = omega (arith, fields_wide ps ns h)
fields_wide (Num ∷ ps) [] h = absurd (false≢true h)
fields_wide (Num ∷ ps) (n ∷ ns) h =
    omega (arith, fields_wide ps ns (both_right (ltb n bad) _ h), decimal_length max_digits n (omega arith) (ltb-true n bad (both_left (ltb n bad) _ h)))

kind_wide : (k : Kind) → widest (shape k) ≤ 45
unfolding shape all
kind_wide k = leb-true (widest (shape k)) 45 (all_kind (λ x. leb (widest (shape x)) 45) refl k)

line_short : (i : Item) → written (shape i.kind) i.nums ≡ true → length (line_of i) ≤ 45
unfolding line_of
line_short i h = omega (arith, joined_wide (fields_of (shape i.kind) i.nums), fields_wide (shape i.kind) i.nums h, kind_wide i.kind)

-- LINES that pass the rules
lines_short : (t : Known) (is : List Item) → Passes rules t is → length (text_of is) ≤ length is * 46
unfolding text_of lines_of ended
lines_short t [] h = omega arith
lines_short t (i ∷ is) h =
    omega (arith, length-append (line_of i) (lf ∷ ended lf (lines_of is)), line_short i (fault_written rules t i h.0), lines_short (rules.next t i) is h.1)

-- HOW MANY there are
lined_few : (n c : ℕ) (f : ℕ → List Item) → ((i : ℕ) → i < n → length (f i) ≤ c) → length (lined n f) ≤ n * c
unfolding lined
lined_few zero c f h = omega (arith, zero-mul c)
lined_few (suc n) c f h =
    omega (arith, length-append (lined n f) (f n), lined_few n c f (λ i l. h i (omega arith)), h n (omega arith), suc-mul n c)

guest_few : (b : Bool) (g : ℕ) (is : List Item) → length (guest_line b g is) ≤ suc (length is)
guest_few true g is = omega arith
guest_few false g is = omega arith

task_few : (vs : List Vcpu) (t : List ℕ) (i : ℕ) → cell t task_width i 4 ≤ max_locks → length (task_lines vs t i) ≤ 19
unfolding task_lines lock_lines
task_few vs t i h =
    let c : ℕ = cell t task_width i 4 in
    omega (arith, guest_few (begins vs t i) (host_of vs t i) (head_lines t i (lined c (lock_lines t i))), lined_few c 2 (lock_lines t i) (λ j l. omega arith))

rows_few : (r : PlanRecord) (t : Tables) → Sound r t → length (row_items r t) ≤ 1395
unfolding row_items vcpu_lines mutex_lines open_lines
rows_few r t s =
    let vs : List Vcpu = rows r.vcpus (vcpu_row t.vcpus) in
    let a : List Item = lined r.vcpus (vcpu_lines t.vcpus) in
    let b : List Item = lined r.mutexes (mutex_lines t.mutexes) in
    let c : List Item = lined r.opens (open_lines t.opens) in
    let d : List Item = lined r.tasks (task_lines vs t.tasks) in
    let e : List Item = item EndLine [] ∷ [] in
    omega (
      arith,
      s.few_vcpus,
      s.few_mutexes,
      s.few_opens,
      s.few_tasks,
      lined_few r.vcpus 1 (vcpu_lines t.vcpus) (λ i l. omega arith),
      lined_few r.mutexes 1 (mutex_lines t.mutexes) (λ i l. omega arith),
      lined_few r.opens 1 (open_lines t.opens) (λ i l. omega arith),
      lined_few r.tasks 19 (task_lines vs t.tasks) (λ i l. task_few vs t.tasks i (s.task_sound i l).few_locks),
      length-append a (b ++ (c ++ (d ++ e))),
      length-append b (c ++ (d ++ e)),
      length-append c (d ++ e),
      length-append d e,
    )

-- the most bytes
abbrev pub most_text : ℕ
most_text = 64170

-- of a plan in tables
pub text_short : (r : PlanRecord) (t : Tables) → is_given r t ≡ true → length (text (plan_in r t)) ≤ most_text
text_short r t g =
    let p = (given_plan r t g).0 in
    omega (arith, lines_short start (items_of (plan_in r t)) (valid_passes (plan_in r t) p), ap length (row_items_law r t), rows_few r t (given_sound r t g))

-- of any valid plan: there are tables that it gives
pub plan_short : (p : Plan) → Valid p → length (text p) ≤ most_text
plan_short p v =
    let t : Tables = lent (zeros 80) (zeros 64) (zeros 256) (zeros 1856) in
    let room = (roomy_exactly (record_of p) t).0 (ample_roomy p t v (record { vcpus = omega (arith, zeros_length 80); mutexes = omega (arith, zeros_length 64); opens = omega (arith, zeros_length 256); tasks = omega (arith, zeros_length 1856) })) in
    let e = (accepted_with_room (text p) t (record_of p)).1 (p, v, refl, room, refl) in
    let w = accepted_gives (text p) t (record_of p) e in
    let k = text_short (record_of p) (tables_after (text p) t) (accepted_given (text p) t (record_of p) e) in
    let same : plan_in (record_of p) (tables_after (text p) t) ≡ p = plan_given w.2 w.3 ∙ text_once w.0 p w.2 v (sym (read_text_law (text p) w.0 w.1).1) in
    rw same at k
