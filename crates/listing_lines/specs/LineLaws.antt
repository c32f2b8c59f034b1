-- A line's text is its first field and the rest; an answer's fields are a word, a number or a word, and a number.
use Rattle.std.specs.Prelude.{ℕ, ◌≡◌, List, [], ◌∷◌, ◌++◌, Bool, true, false, eqb}
use Rattle.std.proofs.Math.Path.{refl}
use Rattle.std.proofs.Common.{sym, ◌∙◌, append_assoc}
use Rattle.std.specs.Prelude.{if◌then◌else◌}
use Rattle.laws.specs.Bytes.{joined}
use Rattle.laws.specs.Decimal.{decimal}
use Rattle.search.specs.declared.Answer.{Answer}
use Rattle.search.specs.declared.Answer.TheVariants.{Fits, Late}
use Rattle.plan.specs.declared.Complaint.{Complaint}
use Rattle.plan.specs.Refusals.{number_of}
use Rattle.plan.specs.declared.Lock.{Lock}
use Rattle.plan.specs.Plan.{Vcpu, Task}
use Rattle.figures.specs.System.{System}
use Rattle.figures.specs.declared.TaskAnswer.{TaskAnswer}
use Rattle.figures.specs.declared.TaskAnswer.TheVariants.{Searched, NoWait, Held}
use Rattle.figures.specs.Answers.{vcpu_answer, wait_answer, task_answer, all_fit}
use Rattle.listing.specs.Listing.{w_refused, w_fits, w_late, w_no_wait, w_held, w_none, dash, line, task_fields, wait_fields, refused_line, vcpu_line, wait_line, task_line, all_line}
use Rattle.text_letters.specs.Wrote.{Joins}
use Rattle.text_letters.specs.Tabbed.{tabbed, rest, number_or}
use Rattle.text_letters.specs.TabbedLaws.{joined_rest, rest_more}
use Rattle.listing_lines.specs.declared.Parts.{Parts}
use Rattle.listing_lines.specs.Lines.{head_text, vcpu_text, wait_text, task_text, all_text, parts_of, task_parts, answer_word}

-- the listing's lines are these texts at a plan's rows
module _ (s : System) where
  pub vcpu_line_law : (x : Vcpu) → vcpu_line s x ≡ vcpu_text x.v (vcpu_answer s x)
  unfolding vcpu_line
  vcpu_line_law x = refl

  pub wait_line_law : (k : Task) (i : ℕ) (l : Lock) → wait_line s k i l ≡ wait_text k.v k.n i (wait_answer s k l)
  unfolding wait_line
  wait_line_law k i l = refl

  pub task_line_law : (k : Task) → task_line s k ≡ task_text k.v k.n (task_answer s k)
  unfolding task_line
  task_line_law k = refl

  pub all_line_law : all_line s ≡ all_text (all_fit s)
  unfolding all_line
  all_line_law = refl

line_rest : (f : List ℕ) (fs : List (List ℕ)) → line (f ∷ fs) ≡ f ++ rest fs
unfolding line
line_rest f fs = joined_rest f fs

-- a line's first field, and the rest
pub line_joins : (f : List ℕ) (fs : List (List ℕ)) → Joins (line (f ∷ fs)) f (rest fs)
line_joins f fs = record { is = line_rest f fs }

-- two fields in front, and the rest
pub line_two : (f g : List ℕ) (fs : List (List ℕ)) → Joins (line (f ∷ g ∷ fs)) (f ++ tabbed g) (rest fs)
line_two f g fs = record { is = line_rest f (g ∷ fs) ∙ rw (rest_more g fs, append_assoc) }

-- three fields in front, and the rest
pub line_three : (f g h : List ℕ) (fs : List (List ℕ)) → Joins (line (f ∷ g ∷ h ∷ fs)) ((f ++ tabbed g) ++ tabbed h) (rest fs)
line_three f g h fs = record { is = line_rest f (g ∷ h ∷ fs) ∙ simp (rest_more, append_assoc) }

-- an answer's fields, taken apart
wait_fields_law : (a : Answer) → wait_fields a ≡ number_or (eqb (parts_of a).kind 1) (parts_of a).ticks w_none ∷ decimal (parts_of a).rounds ∷ []
wait_fields_law (Fits w n) = refl
wait_fields_law (Late n) = refl

task_fields_law :
    (a : TaskAnswer) →
    task_fields a ≡ answer_word (task_parts a).kind ∷ number_or (eqb (task_parts a).kind 1) (task_parts a).ticks dash ∷ decimal (task_parts a).rounds ∷ []
task_fields_law (Searched (Fits w n)) = refl
task_fields_law (Searched (Late n)) = refl
task_fields_law NoWait = refl
task_fields_law Held = refl

pub wait_rest :
    (a : Answer) (f : List ℕ) {p : Parts} → p ≡ parts_of a →
    Joins (rest (f ∷ wait_fields a)) (tabbed f) (rest (number_or (eqb p.kind 1) p.ticks w_none ∷ decimal p.rounds ∷ []))
wait_rest a f e = rw e (record { is = rest_more f (wait_fields a) ∙ rw (wait_fields_law a) })

pub task_rest :
    (a : TaskAnswer) {p : Parts} → p ≡ task_parts a →
    Joins (rest (task_fields a)) (tabbed (answer_word p.kind)) (rest (number_or (eqb p.kind 1) p.ticks dash ∷ decimal p.rounds ∷ []))
task_rest a e = rw e (record { is = rw (task_fields_law a) (rest_more _ _) })

pub refused_text : (c : Complaint) {n : ℕ} → n ≡ number_of c.number → refused_line c ≡ line (w_refused ∷ decimal n ∷ decimal c.line ∷ decimal c.field ∷ [])
unfolding refused_line
refused_text c e = rw e

pub refused_joins :
    (c : Complaint) {n : ℕ} → n ≡ number_of c.number → Joins (refused_line c) ((w_refused ++ tabbed (decimal n)) ++ tabbed (decimal c.line)) (rest (decimal c.field ∷ []))
refused_joins c {n} e = rw (refused_text c e) (line_three w_refused (decimal n) (decimal c.line) (decimal c.field ∷ []))

-- a word that is picked by an answer's kind
pub answer_word_law :
    (c : ℕ) {p q w : List ℕ} → p ≡ (if eqb c 2 then w_no_wait else w_held) → q ≡ (if eqb c 1 then w_fits else p) → w ≡ (if eqb c 0 then w_late else q) →
    answer_word c ≡ w
answer_word_law c o p q = sym (q ∙ rw (p, o))

-- the first line and the last, whole
pub head_bytes : head_text ≡ 118 ∷ 101 ∷ 114 ∷ 100 ∷ 105 ∷ 99 ∷ 116 ∷ 9 ∷ 49 ∷ 10 ∷ []
unfolding line joined
head_bytes = refl

pub all_bytes : (b : Bool) {w : List ℕ} →
    w ≡ (if b then 97 ∷ 108 ∷ 108 ∷ 9 ∷ 102 ∷ 105 ∷ 116 ∷ 115 ∷ 10 ∷ [] else 97 ∷ 108 ∷ 108 ∷ 9 ∷ 108 ∷ 97 ∷ 116 ∷ 101 ∷ 10 ∷ []) → all_text b ≡ w
unfolding line joined
all_bytes true e = sym e
all_bytes false e = sym e
