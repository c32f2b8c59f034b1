-- A buffer of the programs' size has room for every text that they print.
use Rattle.std.specs.Prelude.{ℕ, ◌+◌, ◌≤◌, ◌≡◌, refl, List, Bool, true, false, ◌||◌, ltb, length, drop, Result}
use Rattle.std.proofs.Common.{sym, ap, ◌∙◌, arith, le-leb, ltb-false, length-append, length-take-le}
use Rattle.plan.specs.Limits.{max_input}
use Rattle.plan.specs.Refusals.{no_room}
use Rattle.plan.specs.Reading.{Reading, Accepts, Refuses, reading}
use Rattle.plan.proofs.Accepted.{read_text_law}
use Rattle.plan.specs.declared.Refusal.{Refusal}
use Rattle.plan_fields.specs.Few.{field_few}
use Rattle.listing.specs.Listing.{refused_line, verdict_text}
use Rattle.listing_order.specs.Bound.{refused_bound, refused_line_law, verdict_bound}
use Rattle.board_events.specs.Events.{events_text, board_text}
use Rattle.text_letters.specs.Wrote.{Wrote}
use Rattle.listing_lines.specs.Into.{text_answer, text_after, bytes_in}
use Rattle.desk_rooms.specs.Boarded.{answers_for, plan_bound}
use Rattle.desk_rooms.specs.Whole.{Counted, verdict_bytes, board_bytes}

-- with room for the text, it is written
pub whole_wrote : (t o : List ℕ) {a : Result ℕ Refusal} {p : List ℕ} {n : ℕ} → length t ≤ length o → n ≡ bytes_in a → (a ≡ text_answer t o) × (p ≡ text_after t o) → Wrote t o p n
unfolding text_answer text_after
whole_wrote t o h e w =
    let k = le-leb (length t) (length o) h in
    record { count = e ∙ ap bytes_in w.0 ∙ rw (k, text_answer); bytes = w.1 ∙ rw (k, text_after) }

pub wrote_counted : {t o p : List ℕ} {n : ℕ} → Wrote t o p n → Counted n p
wrote_counted {t} {o} {p} {n} w =
    let k : length p ≡ length t + length (drop (length t) o) = ap length w.bytes ∙ length-append t (drop (length t) o) in
    let h : n ≤ length p = omega (arith, w.count, k) in
    (h, sym (length-take-le n p h))

pub verdict_fits : (s : List ℕ) {m : ℕ} → verdict_bytes ≤ m → length (verdict_text s) ≤ m
verdict_fits s h = let k = verdict_bound s in omega arith

read_fits : (s es : List ℕ) → length s ≤ max_input → length es ≤ max_input → (x : Reading) → reading s ≡ x → length (events_text x es) ≤ board_bytes
unfolding answers_for
read_fits s es h k (Accepts p) e = let b = plan_bound p es (read_text_law s p e).0 in omega arith
read_fits s es h k (Refuses c) e = let z = refused_line_law s c e in let b = refused_bound c (omega arith) (field_few s c e) in omega arith

pub board_fits : (s es : List ℕ) {m : ℕ} → board_bytes ≤ m → length (board_text s es) ≤ m
unfolding board_text
board_fits s es {m} h = go (ltb max_input (length s)) (ltb max_input (length es)) refl refl
  where
    large : length (refused_line no_room) ≤ m
    large = let b = refused_bound no_room (omega arith) (omega arith) in omega arith

    go : (x y : Bool) → ltb max_input (length s) ≡ x → ltb max_input (length es) ≡ y →
        length {A = ℕ} (elim (x || y) [ true ↦ refused_line no_room | false ↦ events_text (reading s) es ]) ≤ m
    go true y a b = large
    go false true a b = large
    go false false a b = let k = read_fits s es (ltb-false max_input (length s) a) (ltb-false max_input (length es) b) (reading s) refl in omega arith
