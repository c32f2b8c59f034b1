-- Laws of the loops over event lines: one turn, the end, and what is written so far.
use Rattle.std.specs.Prelude.{ℕ, suc, ◌+◌, ◌-◌, ◌≤◌, ◌≡◌, refl, List, [], ◌∷◌, ◌++◌, false, length, take, drop}
use Rattle.std.proofs.Common.{ap, sym, ◌∙◌, append_assoc, append-nil, true≢false, arith, length-append, length-take, length-drop, take-append-drop, take_at, drop_at, drop-drop, length-take-le}
use Rattle.laws.specs.Bytes.{pieces, is_nil}
use Rattle.laws.specs.BytesLaws.{pieces_some}
use Rattle.laws.specs.Fields.{before}
use Rattle.laws.specs.Steps.{before_le, pieces_next, pieces_end}
use Rattle.laws.specs.Sums.{flat}
use Rattle.plan.specs.Limits.{lf}
use Rattle.plan.specs.declared.Refusal.TheVariants.{Shape}
use Rattle.listing.specs.Listing.{line}
use Rattle.text_letters.specs.Wrote.{Wrote}
use Rattle.text_letters.specs.WroteLaws.{wrote_as, wrote_long}
use Rattle.board_rules.specs.Facts.{Facts}
use Rattle.board_rules.specs.declared.Board.{Board}
use Rattle.board_rules.specs.declared.BoardAnswer.{BoardAnswer}
use Rattle.board_rules.specs.declared.BoardAnswer.TheVariants.{Refused}
use Rattle.board_rules.specs.declared.Outcome.{Outcome}
use Rattle.board_events.specs.Events.{on_line, at_end, line_answers, answer_fields, answers_text, replies_to}
use Rattle.log_replies.specs.Parts.{end_text}
use Rattle.log_replies.specs.PartsLaws.{end_none, end_some}

pub end_text_law : (l : List ℕ) → answers_text (at_end l) ≡ end_text (length l)
unfolding answers_text flat
end_text_law [] = sym (end_none 0 refl)
end_text_law (x ∷ l) =
    append-nil (line (answer_fields (Refused Shape))) ∙ sym (end_some (suc (length l)) (λ e. omega arith) (Refused Shape) refl)

pub lines_last : (F : Facts) (b : Board) (l : List ℕ) → line_answers F b (l ∷ []) ≡ at_end l
unfolding line_answers
lines_last F b l = refl

pub lines_more :
    (F : Facts) (b : Board) (l : List ℕ) (ls : List (List ℕ)) → is_nil ls ≡ false →
    line_answers F b (l ∷ ls) ≡ (on_line F b l).answer ∷ line_answers F (on_line F b l).board ls
unfolding line_answers
lines_more F b l [] h = absurd (true≢false h)
lines_more F b l (m ∷ ls) h = refl

pub text_more : (a : BoardAnswer) (more : List BoardAnswer) → answers_text (a ∷ more) ≡ line (answer_fields a) ++ answers_text more
unfolding answers_text flat
text_more a more = refl

-- ONE LINE: r is what is left of s from `at` on, and k its bytes before the next LF
module _ (s : List ℕ) (at k : ℕ) (r : List ℕ) (er : r ≡ drop at s) (ek : k ≡ length (before lf r)) where
  cut_at : k ≡ length (before lf (drop at s))
  cut_at = ek ∙ ap (λ x. length (before lf x)) er

  rest_long : length r ≡ length s - at
  rest_long = ap length er ∙ length-drop at s

  pub line_fits : (k ≡ length r → ⊥) → at + k + 1 ≤ length s
  line_fits h = omega (arith, before_le lf r, ek, rest_long, h)

  module _ (F : Facts) (b : Board) where
    pub replies_last : at ≤ length s → k ≡ length r → replies_to F b (drop at s) ≡ end_text k ++ []
    replies_last l h =
        ap (λ ls. answers_text (line_answers F b ls)) (pieces_end lf s at k cut_at (omega (arith, rest_long)))
        ∙ ap answers_text (lines_last F b (drop at s))
        ∙ end_text_law (drop at s)
        ∙ ap end_text (sym (h ∙ ap length er))
        ∙ sym (append-nil (end_text k))

    -- u is the board after the line
    pub replies_next :
        (k ≡ length r → ⊥) → (o : Outcome) → o ≡ on_line F b (take k r) → (u : Board) → o.board ≡ u →
        replies_to F b (drop at s) ≡ line (answer_fields o.answer) ++ replies_to F u (drop (at + k + 1) s)
    replies_next h o eo u eu =
        ap (λ ls. answers_text (line_answers F b ls)) (pieces_next lf s at k cut_at (omega (arith, line_fits h)))
        ∙ ap answers_text (lines_more F b (take k (drop at s)) (pieces lf (drop (at + k + 1) s)) (pieces_some lf (drop (at + k + 1) s)))
        ∙ text_more _ _
        ∙ ap (λ p. line (answer_fields p.answer) ++ replies_to F p.board (drop (at + k + 1) s)) (sym (eo ∙ ap (λ x. on_line F b (take k x)) er))
        ∙ ap (λ u. line (answer_fields o.answer) ++ replies_to F u (drop (at + k + 1) s)) eu

-- WHAT IS WRITTEN SO FAR: n bytes, of which with those that are left the whole is made
pub record Put (whole o₀ o left : List ℕ) (n : ℕ) : Type 0 where
  pub text : List ℕ
  pub wrote : Wrote text o₀ o n
  pub is : whole ≡ text ++ left

pub put_none : {whole : List ℕ} (o left : List ℕ) → whole ≡ left → Put whole o o left 0
put_none o left e = record { text = []; wrote = record { count = refl; bytes = refl }; is = e }

-- the first n bytes as they are
pub wrote_start : (o : List ℕ) (n : ℕ) → n ≤ length o → Wrote (take n o) o o n
wrote_start o n h =
    let e : length (take n o) ≡ n = length-take-le n o h in
    record { count = sym e; bytes = sym (ap (λ m. take n o ++ drop m o) e ∙ take-append-drop n o) }

pub start_fits : (o t : List ℕ) (n : ℕ) → n + length t ≤ length o → length (take n o ++ t) ≤ length o
start_fits o t n h = rw (length-append, length-take) (omega arith)

-- nothing more is written
pub wrote_nothing : (o t : List ℕ) (n : ℕ) → n + length t ≤ length o → t ≡ [] → Wrote (take n o ++ t) o o n
wrote_nothing o t n h e = wrote_as (ap (λ t. take n o ++ t) e ∙ append-nil (take n o)) (wrote_start o n (omega arith))

-- a text behind the first n bytes, where these are written
wrote_more : {o₀ o p text : List ℕ} {n m : ℕ} (t : List ℕ) → Wrote text o₀ o n → Wrote (take n o ++ t) o p m → Wrote (text ++ t) o₀ p m
wrote_more {o₀} {o} {p} {text} {n} {m} t w x =
    let e : take n o ≡ text = ap (take n) w.bytes ∙ take_at text (drop (length text) o₀) n (sym w.count) in
    let d : drop (length text) o ≡ drop (length text) o₀ =
    ap (drop (length text)) w.bytes ∙ drop_at text (drop (length text) o₀) (length text) refl in
    let f : drop (length text + length t) o ≡ drop (length text + length t) o₀ =
    sym (drop-drop (length t) (length text) o) ∙ ap (drop (length t)) d ∙ drop-drop (length t) (length text) o₀ in
    record {
      count = x.count ∙ ap (λ y. length (y ++ t)) e;
      bytes =
          x.bytes
          ∙ ap (λ y. (y ++ t) ++ drop (length (y ++ t)) o) e
          ∙ ap (λ l. (text ++ t) ++ drop l o) (length-append text t)
          ∙ ap (λ y. (text ++ t) ++ y) f
          ∙ ap (λ l. (text ++ t) ++ drop l o₀) (sym (length-append text t));
    }

module _ {whole o₀ o left : List ℕ} {n : ℕ} (h : length whole ≤ length o₀) (p : Put whole o₀ o left n) where
  same_room : length o ≡ length o₀
  same_room =
      let e : length whole ≡ length p.text + length left = ap length p.is ∙ length-append p.text left in
      wrote_long (omega arith) p.wrote

  module _ (t u : List ℕ) (e : left ≡ t ++ u) where
    -- what comes next has room
    pub put_room : n + length t ≤ length o
    put_room =
        let a : length whole ≡ length p.text + length left = ap length p.is ∙ length-append p.text left in
        let b : length left ≡ length t + length u = ap length e ∙ length-append t u in
        let c = p.wrote.count in
        let d = same_room in omega arith

    pub put_more : {q : List ℕ} {m : ℕ} → Wrote (take n o ++ t) o q m → Put whole o₀ q u m
    put_more w =
        record { text = p.text ++ t; wrote = wrote_more t p.wrote w; is = p.is ∙ ap (λ y. p.text ++ y) e ∙ sym (append_assoc p.text t u) }

-- nothing is left to write
pub put_all : {whole o₀ o : List ℕ} {n : ℕ} → Put whole o₀ o [] n → Wrote whole o₀ o n
put_all p = wrote_as (p.is ∙ append-nil p.text) p.wrote
