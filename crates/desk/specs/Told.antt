-- What is printed of a reading's answer and the tables that it left, and that this is what the reading itself asks for.
use Rattle.std.specs.Prelude.{ℕ, ◌≡◌, refl, List, Bool, ◌||◌, ltb, length, Result, Ok, Err}
use Rattle.std.proofs.Common.{sym, ap₂, ◌∙◌}
use Rattle.std.proofs.Math.Path.{ap}
use Rattle.std.proofs.Math.Bool.{true, false}
use Rattle.plan.specs.Limits.{max_input}
use Rattle.plan.specs.declared.Complaint.{Complaint}
use Rattle.plan.specs.Refusals.{no_room}
use Rattle.plan.specs.Reading.{Reading, reading}
use Rattle.plan.specs.declared.Refusal.{Refusal}
use Rattle.plan_tables.specs.declared.PlanRecord.{PlanRecord}
use Rattle.plan_tables.specs.Layout.{Tables, lent}
use Rattle.plan_tables.specs.Given.{plan_in, is_given}
use Rattle.read_fill.specs.Fill.{vcpu_put, mutex_put, open_put, task_put}
use Rattle.read_answer.specs.Into.{plan_answer}
use Rattle.read_answer.specs.Judged.{is_accepted, lines_left}
use Rattle.read_answer.specs.Ample.{Ample}
use Rattle.figures.specs.System.{system}
use Rattle.figures.specs.Tabled.{system_in}
use Rattle.listing.specs.Listing.{listing, refused_line, read_text, verdict_text}
use Rattle.board_rules.specs.Facts.{facts_of}
use Rattle.board_events.specs.Events.{events_text, board_text}
use Rattle.listing_lines.specs.Into.{text_answer, text_after}
use Rattle.records_read.specs.Lies.{Sure, refused_reads, left_lies}
use Rattle.desk.specs.Read.{record_in, complaint_in, accepted_is, refused_is}
use Rattle.desk_rooms.specs.Boarded.{answers_for}

-- of a plan in tables, the answers to events where `on`, else its listing
abbrev pub told_in : Bool → PlanRecord → Tables → List ℕ → List ℕ
told_in true r t es = answers_for (facts_of (system (plan_in r t))) es
told_in false r t es = listing (system_in r t.vcpus t.mutexes t.tasks)

-- the same of an accepted plan; of a refused one its line
abbrev pub told_or : Bool → Result PlanRecord Complaint → Tables → List ℕ → List ℕ
told_or on (Ok r) t es = told_in on r t es
told_or on (Err x) t es = refused_line x

-- the same of a reading
abbrev pub text_for : Bool → Reading → List ℕ → List ℕ
text_for true r es = events_text r es
text_for false r es = read_text r

-- written into a buffer
abbrev Printed : List ℕ → List ℕ → Result ℕ Refusal → List ℕ → Type 0
Printed t o b p = (b ≡ text_answer t o) × (p ≡ text_after t o)

as_printed : {t u : List ℕ} (o : List ℕ) {b : Result ℕ Refusal} {p : List ℕ} → u ≡ t → Printed t o b p → Printed u o b p
as_printed o e w = rw e w

-- as code finds out which is asked
module _ {on : Bool} (r : PlanRecord) (t : Tables) (es o : List ℕ) {b : Result ℕ Refusal} {p : List ℕ} where
  pub answers_told : on ≡ true → Printed (answers_for (facts_of (system (plan_in r t))) es) o b p → Printed (told_in on r t es) o b p
  answers_told h w = rw h w

  pub listing_told : on ≡ false → Printed (listing (system_in r t.vcpus t.mutexes t.tasks)) o b p → Printed (told_in on r t es) o b p
  listing_told h w = rw h w

-- as code finds out
module _ {a : Result PlanRecord Complaint} {t : Tables} (s : Sure a t) {x : Bool} (h : x ≡ is_accepted a) where
  module _ (e : x ≡ true) {r : PlanRecord} (k : r ≡ record_in a) where
    told_is : a ≡ Ok r
    told_is = accepted_is a (sym h ∙ e) ∙ ap Ok (sym k)

    pub told_given : is_given r t ≡ true
    told_given = s.given r told_is

    pub told_text : (on : Bool) (es o : List ℕ) {b : Result ℕ Refusal} {p : List ℕ} → Printed (told_in on r t es) o b p → Printed (told_or on a t es) o b p
    told_text on es o w = rw told_is w

  pub untold_text :
      (e : x ≡ false) {y : Complaint} (k : y ≡ complaint_in a) (on : Bool) (es o : List ℕ) {b : Result ℕ Refusal} {p : List ℕ} →
      Printed (refused_line y) o b p → Printed (told_or on a t es) o b p
  untold_text e {y} k on es o w =
      let q : a ≡ Err y = refused_is a (sym h ∙ e) ∙ ap Err (sym k) in
      rw q w

-- by the answer itself
module _ {a : Result PlanRecord Complaint} (t : Tables) (on : Bool) (es o : List ℕ) {b : Result ℕ Refusal} {p : List ℕ} where
  pub accepted_printed : {r : PlanRecord} → a ≡ Ok r → Printed (told_in on r t es) o b p → Printed (told_or on a t es) o b p
  accepted_printed e w = rw e w

  pub refused_printed : {x : Complaint} → a ≡ Err x → Printed (refused_line x) o b p → Printed (told_or on a t es) o b p
  refused_printed e w = rw e w

-- of a reading into tables with room for every plan: what it answers, and the rows that its lines leave
module _ (s : List ℕ) {vt mt ot ts : List ℕ} (l : Ample (lent vt mt ot ts)) {a : Result PlanRecord Complaint} {vu mu ou tu : List ℕ}
    (h : a ≡ plan_answer s (lent vt mt ot ts)) (v : vu ≡ lines_left vcpu_put s vt) (m : mu ≡ lines_left mutex_put s mt)
    (o : ou ≡ lines_left open_put s ot) (k : tu ≡ lines_left task_put s ts) where
  abbrev into : Tables
  into = lent vt mt ot ts

  abbrev left : Tables
  left = lent vu mu ou tu

  accepted_told : (on : Bool) (es : List ℕ) (r : PlanRecord) → a ≡ Ok r → told_in on r left es ≡ text_for on (reading s) es
  unfolding answers_for
  accepted_told true es r e =
      let w = left_lies s l h v m o k r e in
      ap (λ p. answers_for (facts_of (system p)) es) w.1.is ∙ ap (λ x. events_text x es) (sym w.1.reads)
  accepted_told false es r e =
      let w = left_lies s l h v m o k r e in
      ap listing w.1.holds ∙ ap read_text (sym w.1.reads)

  refused_told : (on : Bool) (es : List ℕ) (x : Complaint) → a ≡ Err x → refused_line x ≡ text_for on (reading s) es
  refused_told true es x e = ap (λ x. events_text x es) (sym (refused_reads s into l x (sym h ∙ e)))
  refused_told false es x e = ap read_text (sym (refused_reads s into l x (sym h ∙ e)))

  left_told : (on : Bool) (es : List ℕ) (z : Result PlanRecord Complaint) → a ≡ z → told_or on z left es ≡ text_for on (reading s) es
  left_told on es (Ok r) e = accepted_told on es r e
  left_told on es (Err x) e = refused_told on es x e

  pub left_text : (on : Bool) (es w : List ℕ) {b : Result ℕ Refusal} {p : List ℕ} → Printed (told_or on a left es) w b p → Printed (text_for on (reading s) es) w b p
  left_text on es w z = as_printed w (sym (left_told on es a refl)) z

-- SIZES
-- above 65,536 bytes an input is not judged: what is printed of two inputs, by the tests of their sizes
board_by_law : {x y : Bool} (s es : List ℕ) → x ≡ ltb max_input (length s) → y ≡ ltb max_input (length es) →
    board_text s es ≡ elim (x || y) [ true ↦ refused_line no_room | false ↦ events_text (reading s) es ]
unfolding board_text
board_by_law s es h k = ap₂ (λ (a b : Bool). elim (a || b) [ true ↦ refused_line no_room | false ↦ events_text (reading s) es ]) (sym h) (sym k)

module _ (s es : List ℕ) where
  large_plan : ltb max_input (length s) ≡ true → board_text s es ≡ refused_line no_room
  large_plan h = board_by_law s es (sym h) refl

  large_events : ltb max_input (length es) ≡ true → board_text s es ≡ refused_line no_room
  large_events h = board_by_law s es refl (sym h) ∙ go (ltb max_input (length s))
    where
      go : (a : Bool) → ◌≡◌ {A = List ℕ} (elim (a || true) [ true ↦ refused_line no_room | false ↦ events_text (reading s) es ]) (refused_line no_room)
      go true = refl
      go false = refl

  small_inputs : ltb max_input (length s) ≡ false → ltb max_input (length es) ≡ false → board_text s es ≡ events_text (reading s) es
  small_inputs h k = board_by_law s es (sym h) (sym k)

large_verdict : (s : List ℕ) → ltb max_input (length s) ≡ true → verdict_text s ≡ refused_line no_room
unfolding verdict_text
large_verdict s h = rw (h, verdict_text)

small_verdict : (s : List ℕ) → ltb max_input (length s) ≡ false → verdict_text s ≡ read_text (reading s)
unfolding verdict_text
small_verdict s h = rw (h, verdict_text)

module _ (s es o : List ℕ) {b : Result ℕ Refusal} {p : List ℕ} where
  pub plan_printed : ltb max_input (length s) ≡ true → {c : Complaint} → c ≡ no_room → Printed (refused_line c) o b p → Printed (board_text s es) o b p
  plan_printed h k w = as_printed o (large_plan s es h ∙ ap refused_line (sym k)) w

  pub events_printed : ltb max_input (length es) ≡ true → {c : Complaint} → c ≡ no_room → Printed (refused_line c) o b p → Printed (board_text s es) o b p
  events_printed h k w = as_printed o (large_events s es h ∙ ap refused_line (sym k)) w

  pub board_printed : ltb max_input (length s) ≡ false → ltb max_input (length es) ≡ false → Printed (events_text (reading s) es) o b p → Printed (board_text s es) o b p
  board_printed h k w = as_printed o (small_inputs s es h k) w

module _ (s o : List ℕ) {b : Result ℕ Refusal} {p : List ℕ} where
  pub large_printed : ltb max_input (length s) ≡ true → {c : Complaint} → c ≡ no_room → Printed (refused_line c) o b p → Printed (verdict_text s) o b p
  large_printed h k w = as_printed o (large_verdict s h ∙ ap refused_line (sym k)) w

  pub verdict_printed : ltb max_input (length s) ≡ false → Printed (read_text (reading s)) o b p → Printed (verdict_text s) o b p
  verdict_printed h w = as_printed o (small_verdict s h) w
