-- Line by line: what is answered, and what is left in a table, by one line and by those after it.
use Rattle.std.specs.Prelude.{ℕ, ◌+◌, ◌<◌, ◌≤◌, ◌≡◌, List, Bool, false, cond, ◌&&◌, drop, Result, is_ok}
use Rattle.std.proofs.Math.Path.{refl, ap, sym}
use Rattle.std.proofs.Common.{◌∙◌, arith}
use Rattle.std.proofs.Math.Bool.{true}
use Rattle.std.proofs.Math.ListN.{length}
use Rattle.laws.specs.Bytes.{pieces}
use Rattle.laws.specs.BytesLaws.{pieces_some}
use Rattle.plan.specs.Limits.{lf}
use Rattle.plan.specs.Refusals.{Fault}
use Rattle.plan.specs.Reading.{fault_of, next_of}
use Rattle.plan.specs.declared.Complaint.{Complaint}
use Rattle.plan_tables.specs.declared.PlanRecord.{PlanRecord}
use Rattle.text_lines.specs.declared.Said.{Said}
use Rattle.text_lines.specs.Said.{said_item}
use Rattle.text_scan.specs.declared.Step.{Step}
use Rattle.text_scan.specs.Scan.{line_in, line_at, step_at}
use Rattle.text_scan.specs.ScanLaws.{line_said, next_is, next_later, ended_pieces, last_piece}
use Rattle.judge_coded.specs.declared.Seen.{Seen}
use Rattle.judge_coded.specs.Coded.{coded}
use Rattle.read_tally.specs.declared.Tally.{Tally}
use Rattle.read_tally.specs.Tally.{tally_after}
use Rattle.read_answer.specs.Judged.{judged_from, field_by, refused_by, finish_by, left_from}
use Rattle.read_answer.specs.JudgedLaws.{judged_last, judged_bad, judged_next, line_some}

-- r is what is read at a place of s, with the line's number n, after what is seen and tallied
module _ (s : List ℕ) (at n : ℕ) (r : Step) (er : r ≡ step_at s at n) (t : Seen) (c : Tally) where
  -- what is left from there on
  abbrev here : List (List ℕ)
  here = pieces lf (drop at s)

  abbrev f : Fault
  f = fault_of coded t (said_item (line_at s at).said)

  -- the tests of code are those of the line
  ended_is : r.line.ended ≡ (line_at s at).ended
  unfolding step_at
  ended_is = ap (λ r. r.line.ended) er

  fault_is : fault_of coded t (said_item r.line.said) ≡ f
  unfolding step_at
  fault_is = ap (λ r. fault_of coded t (said_item r.line.said)) er

  -- the next line begins later, and within the input
  pub read_fits : r.line.ended ≡ true → (at < r.at) × (r.at ≤ length s)
  unfolding step_at
  read_fits h = rw er (next_later s at (sym ended_is ∙ h))

  -- no line is shorter than a byte and its LF
  pub read_few :
      (g : Fault) → r.line.ended ≡ true → g ≡ fault_of coded t (said_item r.line.said) → is_ok g ≡ true → n + n ≤ at + 2 → r.number + r.number ≤ r.at + 2
  unfolding step_at
  read_few g h eg q few =
      let e : (line_at s at).ended ≡ true = sym ended_is ∙ h in
      let o : 1 ≤ length (line_in s at) = line_some t (line_in s at) (rw (← line_said s at) (ap is_ok (sym fault_is) ∙ ap is_ok (sym eg) ∙ q)) in
      rw er (omega (arith, next_is s at e, o, few))

  -- what is answered at the end, by a line with a fault, and by the lines after one with none
  pub read_end :
      (b : Bool) (a : Result PlanRecord Complaint) → r.line.ended ≡ false → b ≡ coded.ready t → a ≡ finish_by (b && r.line.empty) c n → a ≡ judged_from t c n here
  unfolding step_at
  read_end b a h eb ea = ea ∙ rw (eb, er) (sym (judged_last s at t c n (sym ended_is ∙ h)))

  module _ (g : Fault) (h : r.line.ended ≡ true) (eg : g ≡ fault_of coded t (said_item r.line.said)) where
    pub read_bad : (k : ℕ) (a : Result PlanRecord Complaint) → is_ok g ≡ false → k ≡ field_by t (said_item r.line.said) g → a ≡ refused_by g n k → a ≡ judged_from t c n here
    unfolding step_at
    read_bad k a q ek ea =
        let e : g ≡ f = eg ∙ fault_is in
        ea ∙ ap (refused_by g n) (ek ∙ ap (λ r. field_by t (said_item r.line.said) g) er) ∙ ap (λ f. refused_by f n (field_by t (said_item (line_at s at).said) f)) e
        ∙ sym (judged_bad s at t c n (sym ended_is ∙ h) (ap is_ok (sym e) ∙ q))

    pub read_next :
        (u : Seen) (v : Tally) → is_ok g ≡ true → u ≡ next_of coded t (said_item r.line.said) → v ≡ tally_after c r.line.said →
        judged_from t c n here ≡ judged_from u v r.number (pieces lf (drop r.at s))
    unfolding step_at
    read_next u v q eu ev = judged_next s at t c n (sym ended_is ∙ h) (ap is_ok (sym (eg ∙ fault_is)) ∙ q) ∙ rw (eu, ev, er) refl

  -- and what is left in a table d
  module _ (put : Tally → Said → List ℕ → List ℕ) (d : List ℕ) where
    pub left_end : r.line.ended ≡ false → d ≡ left_from put t c d here
    unfolding left_from
    left_end h = rw (last_piece s at (sym ended_is ∙ h)) refl

    module _ (g : Fault) (h : r.line.ended ≡ true) (eg : g ≡ fault_of coded t (said_item r.line.said)) where
      abbrev clear : Bool → List ℕ
      clear b = cond b (left_from put (next_of coded t (said_item (line_at s at).said)) (tally_after c (line_at s at).said) (put c (line_at s at).said d) (pieces lf (drop (line_at s at).next s))) d

      left_step : left_from put t c d here ≡ clear (is_ok g)
      unfolding left_from
      left_step =
          rw (ended_pieces s at (sym ended_is ∙ h)) (simp (pieces_some lf (drop (line_at s at).next s)) (rw (← line_said s at) (ap (λ f. clear (is_ok f)) (sym (eg ∙ fault_is)))))

      pub left_bad : is_ok g ≡ false → d ≡ left_from put t c d here
      left_bad q = sym (left_step ∙ ap clear q)

      pub left_next :
          (u : Seen) (v : Tally) (e : List ℕ) → is_ok g ≡ true → u ≡ next_of coded t (said_item r.line.said) → v ≡ tally_after c r.line.said →
          e ≡ put c r.line.said d → left_from put t c d here ≡ left_from put u v e (pieces lf (drop r.at s))
      unfolding step_at
      left_next u v e q eu ev ee = left_step ∙ ap clear q ∙ rw (eu, ev, ee, er) refl
