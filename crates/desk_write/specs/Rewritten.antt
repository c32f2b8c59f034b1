-- What `rewrite` prints: an accepted plan as it is written from the tables that its reading left, or the line of its refusal, as `verdict` prints it.
use Rattle.std.specs.Prelude.{ℕ, ◌≤◌, ◌≡◌, refl, List, Bool, true, false, ltb, length, Result, Ok, Err}
use Rattle.std.proofs.Math.Path.{sym}
use Rattle.std.proofs.Common.{ap, ◌∙◌, arith, le-ltb, ltb-false}
use Rattle.std.specs.Prelude.{if◌then◌else◌}
use Rattle.plan.specs.Limits.{max_input}
use Rattle.plan.specs.declared.Complaint.{Complaint}
use Rattle.plan.specs.Refusals.{no_room}
use Rattle.plan.specs.Plan.{Plan}
use Rattle.plan.specs.Text.{text}
use Rattle.plan.specs.Reading.{Reading, Accepts, Refuses, reading}
use Rattle.plan.proofs.Accepted.{read_text_law}
use Rattle.plan.specs.declared.Refusal.{Refusal}
use Rattle.plan_fields.specs.Few.{field_few}
use Rattle.plan_tables.specs.declared.PlanRecord.{PlanRecord}
use Rattle.plan_tables.specs.Layout.{Tables, lent}
use Rattle.plan_tables.specs.Given.{plan_in}
use Rattle.read_fill.specs.Fill.{vcpu_put, mutex_put, open_put, task_put}
use Rattle.read_answer.specs.Into.{plan_answer}
use Rattle.read_answer.specs.Judged.{lines_left}
use Rattle.read_answer.specs.Ample.{Ample}
use Rattle.write_asked.specs.Short.{plan_short}
use Rattle.records_read.specs.Lies.{refused_reads, left_lies}
use Rattle.listing.specs.Listing.{refused_line}
use Rattle.listing_order.specs.Bound.{refused_bound, refused_line_law}
use Rattle.listing_lines.specs.Into.{text_answer, text_after}

-- of a reading
abbrev pub rewritten : Reading → List ℕ
rewritten (Accepts p) = text p
rewritten (Refuses c) = refused_line c

-- of any bytes: above 65,536 they are not judged
unfoldable pub rewrite_text : List ℕ → List ℕ
rewrite_text s = if ltb max_input (length s) then refused_line no_room else rewritten (reading s)

-- of an answer and the tables that it left
abbrev pub rewrite_or : Result PlanRecord Complaint → Tables → List ℕ
rewrite_or (Ok r) t = text (plan_in r t)
rewrite_or (Err c) t = refused_line c

-- no accepted plan is above 65,536 bytes
pub accepted_small : (s : List ℕ) (p : Plan) → reading s ≡ Accepts p → length s ≤ max_input
accepted_small s p e = let w = read_text_law s p e in omega (arith, ap length w.1, plan_short p w.0)

-- "an accepted plan read and written comes back byte for byte"
pub rewrite_same : (s : List ℕ) (p : Plan) → reading s ≡ Accepts p → rewrite_text s ≡ s
unfolding rewrite_text
rewrite_same s p e = rw (le-ltb max_input (length s) (accepted_small s p e), e) (sym (read_text_law s p e).1)

-- no text of `rewrite` is longer than what it reads may be
abbrev pub rewrite_bytes : ℕ
rewrite_bytes = 65536

read_fits : (s : List ℕ) → length s ≤ max_input → (x : Reading) → reading s ≡ x → length (rewritten x) ≤ rewrite_bytes
read_fits s h (Accepts p) e = let k = ap length (read_text_law s p e).1 in omega arith
read_fits s h (Refuses c) e = let z = refused_line_law s c e in let b = refused_bound c (omega arith) (field_few s c e) in omega arith

pub rewrite_fits : (s : List ℕ) {m : ℕ} → rewrite_bytes ≤ m → length (rewrite_text s) ≤ m
unfolding rewrite_text
rewrite_fits s {m} h = go (ltb max_input (length s)) refl
  where
    go : (x : Bool) → ltb max_input (length s) ≡ x → length (if x then refused_line no_room else rewritten (reading s)) ≤ m
    go true e = let b = refused_bound no_room (omega arith) (omega arith) in omega arith
    go false e = let k = read_fits s (ltb-false max_input (length s) e) (reading s) refl in omega arith

-- AS CODE FINDS OUT

-- written into a buffer
abbrev Printed : List ℕ → List ℕ → Result ℕ Refusal → List ℕ → Type 0
Printed t o b p = (b ≡ text_answer t o) × (p ≡ text_after t o)

as_printed : {t u : List ℕ} (o : List ℕ) {b : Result ℕ Refusal} {p : List ℕ} → u ≡ t → Printed t o b p → Printed u o b p
as_printed o e w = rw e w

module _ {a : Result PlanRecord Complaint} (t : Tables) (o : List ℕ) {b : Result ℕ Refusal} {p : List ℕ} where
  pub accepted_printed : {r : PlanRecord} → a ≡ Ok r → Printed (text (plan_in r t)) o b p → Printed (rewrite_or a t) o b p
  accepted_printed e w = as_printed o (ap (λ z. rewrite_or z t) e) w

  pub refused_printed : {c : Complaint} → a ≡ Err c → Printed (refused_line c) o b p → Printed (rewrite_or a t) o b p
  refused_printed e w = as_printed o (ap (λ z. rewrite_or z t) e) w

-- of a reading into tables with room for every plan: what it answers, and the rows that its lines leave
module _ (s : List ℕ) {vt mt ot ts : List ℕ} (l : Ample (lent vt mt ot ts)) {a : Result PlanRecord Complaint} {vu mu ou tu : List ℕ}
    (e : a ≡ plan_answer s (lent vt mt ot ts)) (v : vu ≡ lines_left vcpu_put s vt) (m : mu ≡ lines_left mutex_put s mt)
    (o : ou ≡ lines_left open_put s ot) (k : tu ≡ lines_left task_put s ts) where
  abbrev left : Tables
  left = lent vu mu ou tu

  left_rewritten : (z : Result PlanRecord Complaint) → a ≡ z → rewrite_or z left ≡ rewritten (reading s)
  left_rewritten (Ok r) z = let w = left_lies s l e v m o k r z in ap text w.1.is ∙ ap rewritten (sym w.1.reads)
  left_rewritten (Err c) z = ap rewritten (sym (refused_reads s (lent vt mt ot ts) l c (sym e ∙ z)))

  -- where the plan is not too large
  pub read_printed :
      {y : Bool} → y ≡ ltb max_input (length s) → y ≡ false → (u : List ℕ) {b : Result ℕ Refusal} {p : List ℕ} →
      Printed (rewrite_or a left) u b p → Printed (rewrite_text s) u b p
  unfolding rewrite_text
  read_printed f n u w =
      as_printed u (ap (λ (b : Bool). if b then refused_line no_room else rewritten (reading s)) (sym f ∙ n) ∙ sym (left_rewritten a refl)) w

-- where it is
pub large_printed :
    (s u : List ℕ) {y : Bool} → y ≡ ltb max_input (length s) → y ≡ true → {c : Complaint} → c ≡ no_room → {b : Result ℕ Refusal} {p : List ℕ} →
    Printed (refused_line c) u b p → Printed (rewrite_text s) u b p
unfolding rewrite_text
large_printed s u f n k w =
    as_printed u (ap (λ (b : Bool). if b then refused_line no_room else rewritten (reading s)) (sym f ∙ n) ∙ ap refused_line (sym k)) w
