-- The code of the reader answers what it should: line by line, with room, and in the tables.
use Rattle.std.specs.Prelude.{ℕ, suc, ◌+◌, ◌≤◌, ◌≡◌, List, [], ◌∷◌, Bool, false, cond, ◌&&◌, length, drop, Option, Some, None, Result, Ok, Err, is_ok}
use Rattle.std.proofs.Math.Path.{refl}
use Rattle.std.proofs.Common.{ap, sym, ◌∙◌, true≢false, arith, ne_eqb}
use Rattle.std.proofs.Math.Bool.{true}
use Rattle.std.proofs.lemmas.Bool.{false≢true}
use Rattle.std.proofs.Math.Dec.{eqb}
use Rattle.laws.specs.Bytes.{pieces, same, is_nil}
use Rattle.laws.specs.BytesLaws.{pieces_some}
use Rattle.std.specs.Prelude.{if◌then◌else◌}
use Rattle.plan.specs.Limits.{lf}
use Rattle.plan.specs.declared.Kind.{Kind}
use Rattle.plan.specs.declared.Refusal.{Refusal}
use Rattle.plan.specs.declared.Refusal.TheVariants.{Shape}
use Rattle.plan.specs.declared.Complaint.{Complaint}
use Rattle.plan.specs.Refusals.{complaint, no_room, Fault}
use Rattle.plan.specs.Line.{shape, has_shape, kind_in, item_of}
use Rattle.plan.specs.Plan.{Plan}
use Rattle.plan.specs.Reading.{Verdict, Faultless, FirstBad, judge, fault, fault_of, field_at, next_of, onward, answer, Reading, Accepts, Refuses, reading_by, reading}
use Rattle.plan.specs.Gathered.{items_in, plan_of}
use Rattle.plan.proofs.Accepted.{read_text_law}
use Rattle.plan_tables.specs.declared.PlanRecord.{PlanRecord}
use Rattle.plan_tables.specs.Layout.{Tables, filled, record_of}
use Rattle.plan_tables.specs.Given.{roomy_by, roomy}
use Rattle.plan_tables.proofs.GivenLaws.{roomy_exactly}
use Rattle.text_lines.specs.declared.Said.{Said}
use Rattle.text_lines.specs.Said.{said_of, said_item}
use Rattle.text_lines.specs.Said as said
use Rattle.text_lines.specs.SaidLaws.{said_item_law}
use Rattle.text_scan.specs.Scan.{line_in, line_at}
use Rattle.text_scan.specs.ScanLaws.{line_said, ended_pieces, last_piece}
use Rattle.judge_coded.specs.declared.Seen.{Seen}
use Rattle.judge_coded.specs.Coded.{coded, start}
use Rattle.judge_coded.specs.Coded as code
use Rattle.judge_coded.proofs.Agrees.{same_reading}
use Rattle.read_tally.specs.declared.Tally.{Tally}
use Rattle.read_tally.specs.Tally.{record_in, tallied, tally_after, blank}
use Rattle.read_tally.specs.TallyLaws.{text_record}
use Rattle.read_fill.specs.Fill.{filled_by, vcpu_put, mutex_put, open_put, task_put}
use Rattle.read_fill.specs.PlanLaws.{tables_by, text_tables}
use Rattle.read_answer.specs.Into.{answer_into, tables_into, plan_answer, tables_after}
use Rattle.read_answer.specs.Judged.{answer_by, judged_from, field_by, refused_by, finish_by, room_or, with_room, is_accepted, left_from, lines_left, left_if}

-- ONE LINE, the one that begins at `at`

nil_length : (r : List ℕ) → is_nil r ≡ eqb (length r) 0
nil_length [] = refl
nil_length (x ∷ r) = sym (ne_eqb (suc (length r)) 0 (λ e. omega arith))

item_nil : item_of [] ≡ None
unfolding item_of pieces kind_in shape has_shape same
item_nil = refl

finish_by_law : (b : Bool) (c : Tally) (n : ℕ) → answer_by (cond b Faultless (FirstBad (complaint Shape n 0))) (record_in c) ≡ finish_by b c n
unfolding finish_by
finish_by_law true c n = refl
finish_by_law false c n = refl

-- a line with no fault is not empty
pub line_some : (t : Seen) (l : List ℕ) → is_ok (fault_of coded t (said_item (said_of l))) ≡ true → 1 ≤ length l
line_some t [] q = absurd (false≢true (sym (ap (λ i. is_ok (fault_of coded t i)) (sym (said_item_law []) ∙ item_nil)) ∙ q))
line_some t (x ∷ l) q = omega arith

module _ (s : List ℕ) (at : ℕ) (t : Seen) (c : Tally) (n : ℕ) where
  pub judged_last : (line_at s at).ended ≡ false → judged_from t c n (pieces lf (drop at s)) ≡ finish_by (coded.ready t && (line_at s at).empty) c n
  unfolding judged_from judge tallied line_at
  judged_last h = rw (last_piece s at h) (rw (nil_length (drop at s)) (finish_by_law (coded.ready t && eqb (length (drop at s)) 0) c n))

  module _ (h : (line_at s at).ended ≡ true) where
    abbrev x : Said
    x = (line_at s at).said

    abbrev rest : List (List ℕ)
    rest = pieces lf (drop (line_at s at).next s)

    -- what follows, where the line has the fault f
    abbrev follows : Fault → Result PlanRecord Complaint
    follows f = answer_by (onward coded t (said_item x) f n (judge coded (next_of coded t (said_item x)) (n + 1) rest)) (record_in (tallied (tally_after c x) rest))

    judged_step : judged_from t c n (pieces lf (drop at s)) ≡ follows (fault_of coded t (said_item x))
    unfolding judged_from judge tallied
    judged_step = rw (ended_pieces s at h) (simp (pieces_some lf (drop (line_at s at).next s)) (rw (said_item_law (line_in s at), line_said s at)))

    pub judged_bad : is_ok (fault_of coded t (said_item x)) ≡ false → judged_from t c n (pieces lf (drop at s)) ≡ refused_by (fault_of coded t (said_item x)) n (field_by t (said_item x) (fault_of coded t (said_item x)))
    judged_bad q = judged_step ∙ go (fault_of coded t (said_item x)) q
      where
        go : (f : Fault) → is_ok f ≡ false → follows f ≡ refused_by f n (field_by t (said_item x) f)
        go (Ok tt) q = absurd (true≢false q)
        go (Err y) q = refl

    pub judged_next : is_ok (fault_of coded t (said_item x)) ≡ true → judged_from t c n (pieces lf (drop at s)) ≡ judged_from (next_of coded t (said_item x)) (tally_after c x) (n + 1) rest
    unfolding judged_from
    judged_next q = judged_step ∙ go (fault_of coded t (said_item x)) q
      where
        go : (f : Fault) → is_ok f ≡ true → follows f ≡ answer_by (judge coded (next_of coded t (said_item x)) (n + 1) rest) (record_in (tallied (tally_after c x) rest))
        go (Ok tt) q = refl
        go (Err y) q = absurd (false≢true q)

-- ROOM

-- the answer where there is room
abbrev pub roomless : Reading → Result PlanRecord Complaint
roomless (Accepts p) = Ok (record_of p)
roomless (Refuses x) = Err x

pub judged_reading : (s : List ℕ) → judged_from start blank 1 (pieces lf s) ≡ roomless (reading s)
unfolding judged_from reading_by
judged_reading s = go (judge coded start 1 (pieces lf s)) refl
  where
    ls : List (List ℕ)
    ls = pieces lf s

    go : (v : Verdict) → judge coded start 1 (pieces lf s) ≡ v → answer_by v (record_in (tallied blank (pieces lf s))) ≡ roomless (reading s)
    go Faultless e =
        let p : Plan = plan_of (items_in (pieces lf s)) in
        let q : reading s ≡ Accepts p = sym (same_reading s) ∙ ap (λ v. answer v p) e in
        let h = read_text_law s p q in
        ap (λ x. Ok (record_in (tallied blank (pieces lf x)))) h.1 ∙ ap Ok (text_record p h.0) ∙ ap roomless (sym q)
    go (FirstBad x) e =
        let p : Plan = plan_of (items_in (pieces lf s)) in
        let q : reading s ≡ Refuses x = sym (same_reading s) ∙ ap (λ v. answer v p) e in
        ap roomless (sym q)

room_or_law : (r : PlanRecord) (b : Bool) → room_or b r ≡ (if b then Ok r else Err no_room)
unfolding room_or
room_or_law r true = refl
room_or_law r false = refl

-- THE ANSWER
pub room_answer : (s : List ℕ) (t : Tables) → with_room (roomless (reading s)) (length t.vcpus) (length t.mutexes) (length t.opens) (length t.tasks) ≡ plan_answer s t
unfolding plan_answer
room_answer s t = go (reading s)
  where
    go : (x : Reading) → with_room (roomless x) (length t.vcpus) (length t.mutexes) (length t.opens) (length t.tasks) ≡ answer_into x t
    go (Accepts p) = room_or_law (record_of p) (roomy (record_of p) t)
    go (Refuses x) = refl

-- THE TABLES

pub after_filled : (s : List ℕ) (t : Tables) (p : Plan) → reading s ≡ Accepts p → roomy (record_of p) t ≡ true → tables_after s t ≡ filled p t
unfolding tables_after
after_filled s t p e q = ap (λ x. tables_into x t) e ∙ ap (λ b. if b then filled p t else t) q

pub after_kept : (s : List ℕ) (t : Tables) (p : Plan) → reading s ≡ Accepts p → roomy (record_of p) t ≡ false → tables_after s t ≡ t
unfolding tables_after
after_kept s t p e q = ap (λ x. tables_into x t) e ∙ ap (λ b. if b then filled p t else t) q

pub after_refused : (s : List ℕ) (t : Tables) (x : Complaint) → reading s ≡ Refuses x → tables_after s t ≡ t
unfolding tables_after
after_refused s t x e = ap (λ y. tables_into y t) e

-- lines with no fault leave what lines write
left_all :
    (put : Tally → Said → List ℕ → List ℕ) (t : Seen) (c : Tally) (d : List ℕ) (n : ℕ) (ls : List (List ℕ)) → judge coded t n ls ≡ Faultless →
    left_from put t c d ls ≡ filled_by put c d ls
unfolding left_from filled_by judge
left_all put t c d n [] e = refl
left_all put t c d n (l ∷ []) e = refl
left_all put t c d n (l ∷ k ∷ ls) e =
    go (fault_of coded t (said_item (said_of l))) (rw (← said_item_law l) e)
    (left_all put (next_of coded t (said_item (said_of l))) (tally_after c (said_of l)) (put c (said_of l) d) (n + 1) (k ∷ ls))
  where
    next : Seen
    next = next_of coded t (said_item (said_of l))

    go :
        (f : Fault) → onward coded t (said_item (said_of l)) f n (judge coded next (n + 1) (k ∷ ls)) ≡ Faultless →
        (judge coded next (n + 1) (k ∷ ls) ≡ Faultless →
        left_from put next (tally_after c (said_of l)) (put c (said_of l) d) (k ∷ ls) ≡ filled_by put (tally_after c (said_of l)) (put c (said_of l) d) (k ∷ ls)) →
        cond (is_ok f) (left_from put next (tally_after c (said_of l)) (put c (said_of l) d) (k ∷ ls)) d ≡ filled_by put (tally_after c (said_of l)) (put c (said_of l) d) (k ∷ ls)
    go (Ok tt) q h = h q
    go (Err x) q h = absurd (let z : ◌≡◌ {A = ℕ} 0 1 = cc in omega arith)

-- the lines of an accepted plan have none
judged_clear : (s : List ℕ) (p : Plan) → reading s ≡ Accepts p → judge coded start 1 (pieces lf s) ≡ Faultless
unfolding reading_by
judged_clear s p e = go (judge coded start 1 (pieces lf s)) refl
  where
    go : (v : Verdict) → judge coded start 1 (pieces lf s) ≡ v → v ≡ Faultless
    go Faultless q = refl
    go (FirstBad x) q =
        let h : Refuses x ≡ Accepts p = sym (ap (λ v. answer v (plan_of (items_in (pieces lf s)))) q) ∙ same_reading s ∙ e in
        absurd (let z : ◌≡◌ {A = ℕ} 0 1 = cc in omega arith)

pub record Left (s : List ℕ) (t : Tables) (on : Bool) : Type 0 where
  pub vcpus : left_if on vcpu_put s t.vcpus ≡ (tables_after s t).vcpus
  pub mutexes : left_if on mutex_put s t.mutexes ≡ (tables_after s t).mutexes
  pub opens : left_if on open_put s t.opens ≡ (tables_after s t).opens
  pub tasks : left_if on task_put s t.tasks ≡ (tables_after s t).tasks

left_kept : (s : List ℕ) (t : Tables) → tables_after s t ≡ t → Left s t false
unfolding left_if
left_kept s t e = record { vcpus = ap (λ x. x.vcpus) (sym e); mutexes = ap (λ x. x.mutexes) (sym e); opens = ap (λ x. x.opens) (sym e); tasks = ap (λ x. x.tasks) (sym e) }

left_filled : (s : List ℕ) (t : Tables) → judge coded start 1 (pieces lf s) ≡ Faultless → tables_after s t ≡ tables_by s t → Left s t true
unfolding left_if tables_by
left_filled s t q e =
    record {
      vcpus = left_all vcpu_put start blank t.vcpus 1 (pieces lf s) q ∙ ap (λ x. x.vcpus) (sym e);
      mutexes = left_all mutex_put start blank t.mutexes 1 (pieces lf s) q ∙ ap (λ x. x.mutexes) (sym e);
      opens = left_all open_put start blank t.opens 1 (pieces lf s) q ∙ ap (λ x. x.opens) (sym e);
      tasks = left_all task_put start blank t.tasks 1 (pieces lf s) q ∙ ap (λ x. x.tasks) (sym e);
    }

pub tables_left : (s : List ℕ) (t : Tables) → Left s t (is_accepted (plan_answer s t))
unfolding plan_answer
tables_left s t = go (reading s) refl
  where
    at : (p : Plan) → reading s ≡ Accepts p → (b : Bool) → roomy (record_of p) t ≡ b → Left s t (is_accepted (if b then Ok (record_of p) else Err no_room))
    at p e true q =
        let h = read_text_law s p e in
        left_filled s t (judged_clear s p e) (after_filled s t p e q ∙ sym (ap (λ x. tables_by x t) h.1 ∙ text_tables p h.0 t ((roomy_exactly (record_of p) t).0 q)))
    at p e false q = left_kept s t (after_kept s t p e q)

    go : (x : Reading) → reading s ≡ x → Left s t (is_accepted (answer_into x t))
    go (Accepts p) e = at p e (roomy (record_of p) t) refl
    go (Refuses x) e = left_kept s t (after_refused s t x e)

-- WHAT A LINE SAYS, by its kind
module _ (t : Seen) (f : Option Kind) (a b c d e : ℕ) where
  pub fault_found : (k : Kind) (z : Fault) → z ≡ fault coded t (code.item k a b c d e) → f ≡ Some k → z ≡ fault_of coded t (said.item_as f a b c d e)
  fault_found k z h g =
      h ∙ ap (λ f. fault_of coded t (said.item_as f a b c d e)) (sym g)

  pub fault_nothing : f ≡ None → Err Shape ≡ fault_of coded t (said.item_as f a b c d e)
  fault_nothing g = ap (λ f. fault_of coded t (said.item_as f a b c d e)) (sym g)

  pub field_found : (r : Refusal) (k : Kind) (z : ℕ) → z ≡ coded.field t (code.item k a b c d e) r → f ≡ Some k → z ≡ field_at coded t (said.item_as f a b c d e) r
  field_found r k z h g =
      h ∙ ap (λ f. field_at coded t (said.item_as f a b c d e) r) (sym g)

  pub field_nothing : (r : Refusal) → f ≡ None → 0 ≡ field_at coded t (said.item_as f a b c d e) r
  field_nothing r g = ap (λ f. field_at coded t (said.item_as f a b c d e) r) (sym g)

  pub seen_found : (k : Kind) (z : Seen) → z ≡ coded.next t (code.item k a b c d e) → f ≡ Some k → z ≡ next_of coded t (said.item_as f a b c d e)
  seen_found k z h g =
      h ∙ ap (λ f. next_of coded t (said.item_as f a b c d e)) (sym g)

  pub seen_nothing : f ≡ None → t ≡ next_of coded t (said.item_as f a b c d e)
  seen_nothing g = ap (λ f. next_of coded t (said.item_as f a b c d e)) (sym g)

pub left_on : (on : Bool) (put : Tally → Said → List ℕ → List ℕ) (s d e : List ℕ) → on ≡ true → e ≡ lines_left put s d → e ≡ left_if on put s d
unfolding left_if
left_on on put s d e h q = simp h q

pub left_off : (on : Bool) (put : Tally → Said → List ℕ → List ℕ) (s d : List ℕ) → on ≡ false → d ≡ left_if on put s d
unfolding left_if
left_off on put s d h = simp h

pub room_by :
    (a z : Result PlanRecord Complaint) (b : Bool) (r : PlanRecord) (v m o k : ℕ) → z ≡ room_or b r → b ≡ roomy_by r v m o k → a ≡ Ok r → z ≡ with_room a v m o k
room_by a z b r v m o k h q e = h ∙ ap (λ b. room_or b r) q ∙ ap (λ a. with_room a v m o k) (sym e)

-- the whole reader: what it answers by the lines, with room
pub read_answer :
    (s : List ℕ) (t : Tables) (a b : Result PlanRecord Complaint) → a ≡ judged_from start blank 1 (pieces lf s) →
    b ≡ with_room a (length t.vcpus) (length t.mutexes) (length t.opens) (length t.tasks) → b ≡ plan_answer s t
read_answer s t a b ea eb =
    eb ∙ ap (λ a. with_room a (length t.vcpus) (length t.mutexes) (length t.opens) (length t.tasks)) (ea ∙ judged_reading s) ∙ room_answer s t

-- and what it leaves
pub read_left : (s : List ℕ) (t : Tables) (b : Result PlanRecord Complaint) (on : Bool) → b ≡ plan_answer s t → on ≡ is_accepted b → Left s t on
read_left s t b on eb eo = rw (eo, eb) (tables_left s t)
