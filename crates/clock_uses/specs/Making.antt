-- Events made one after the other, and told one behind the other.
use Rattle.std.specs.Prelude.{ℕ, ◌≡◌, refl, List, [], ◌∷◌, ◌++◌, Bool, false, length, Ok, Err}
use Rattle.std.proofs.Math.Path.{ap, sym}
use Rattle.std.proofs.Common.{subst, subst₂, ◌∙◌, append-nil, true≢false}
use Rattle.plan.specs.Refusals.{Fault}
use Rattle.board_rules.specs.Facts.{Facts}
use Rattle.board_rules.specs.declared.Board.{Board}
use Rattle.board_rules.specs.declared.Event.{Event}
use Rattle.board_rules.specs.declared.Outcome.{Outcome}
use Rattle.board_rules.specs.declared.BoardAnswer.{BoardAnswer}
use Rattle.board_rules.specs.Board.{answered, step}
use Rattle.board_events.specs.Events.{board_by, board_after}
use Rattle.clock_rules.specs.Clock.{Run}
use Rattle.clock_rules.specs.Trace.{event_line, lines_at}
use Rattle.clock_steps.specs.Accepted.{is_refusal, Accepted, board_append}
use Rattle.clock_lines.specs.Told.{told_at, told_to, RoomAt, told_none, told_to_none, told_two, told_to_two, told_length, room_first, room_rest}
use Rattle.clock_going.specs.Going.{Made}
use Rattle.clock_going.specs.Lines.{lines_append}

-- an event that is not refused has no fault
pub no_fault : (b : Board) (o : Outcome) (x : Fault) → is_refusal (answered b x o).answer ≡ false → x ≡ Ok tt
no_fault b o (Ok tt) h = refl
no_fault b o (Err r) h = absurd (true≢false h)

-- where none of two lists of events is refused, none of the second is
pub accepted_rest : (F : Facts) (b : Board) (xs ys : List Event) → Accepted F b (xs ++ ys) → Accepted F (board_after F b xs) ys
unfolding board_by
accepted_rest F b [] ys h = h
accepted_rest F b (e ∷ xs) ys h = accepted_rest F (step F b e).board xs ys h.1

-- the lines of one event
pub lines_one : (F : Facts) (i : ℕ) (b : Board) (e : Event) → lines_at F i b (e ∷ []) ≡ event_line i e (step F b e).answer
unfolding lines_at
lines_one F i b e = append-nil (event_line i e (step F b e).answer)

-- no event
pub made_none : (F : Facts) (on : Bool) (i : ℕ) (r r' : Run) (a : List ℕ) (at : ℕ) → r'.board ≡ r.board → Made F on i r r' [] a at a at
unfolding board_by lines_at
made_none F on i r r' a at e = record { board = e; text = sym (told_none on a at); size = sym (told_to_none on at) }

-- the buffer keeps its length
pub made_length : {F : Facts} {on : Bool} {i : ℕ} {r r' : Run} {es : List Event} {a : List ℕ} {at : ℕ} {o : List ℕ} {w : ℕ} → Made F on i r r' es a at o w →
    RoomAt on (lines_at F i r.board es) a at → length o ≡ length a
made_length {F} {on} {i} {r} {r'} {es} {a} {at} m h = ap length m.text ∙ told_length on (lines_at F i r.board es) a at h

-- one event, with its answer x
module _ (F : Facts) (on : Bool) (i : ℕ) (r r' : Run) (e : Event) {x : BoardAnswer} {b : Board} (is : record { answer = x; board = b } ≡ step F r.board e) where
  pub room_one : (a : List ℕ) (at : ℕ) → RoomAt on (lines_at F i r.board (e ∷ [])) a at → RoomAt on (event_line i e x) a at
  room_one a at h = subst (λ l. RoomAt on l a at) (lines_one F i r.board e ∙ ap (λ (o : Outcome). event_line i e o.answer) (sym is)) h

  -- it is made and told
  pub made_one : {a : List ℕ} {at : ℕ} {o : List ℕ} {w : ℕ} → r'.board ≡ b → o ≡ told_at on (event_line i e x) a at → w ≡ told_to on (event_line i e x) at →
      Made F on i r r' (e ∷ []) a at o w
  unfolding board_by
  made_one {a} {at} q s t =
      let l = ap (λ (y : Outcome). event_line i e y.answer) is ∙ sym (lines_one F i r.board e) in
      record {
        board = q ∙ ap (λ (y : Outcome). y.board) is;
        text = s ∙ ap (λ y. told_at on y a at) l;
        size = t ∙ ap (λ y. told_to on y at) l;
      }

-- two lists of events: there is room for the first, and then for the second
module _ (F : Facts) (on : Bool) (i : ℕ) (r : Run) (xs ys : List Event) (a : List ℕ) (at : ℕ) (h : RoomAt on (lines_at F i r.board (xs ++ ys)) a at) where
  -- as two texts
  both_room : RoomAt on (lines_at F i r.board xs ++ lines_at F i (board_after F r.board xs) ys) a at
  both_room = subst (λ l. RoomAt on l a at) (lines_append F i r.board xs ys) h

  -- the first
  pub room_begin : RoomAt on (lines_at F i r.board xs) a at
  room_begin = room_first on (lines_at F i r.board xs) (lines_at F i (board_after F r.board xs) ys) a at both_room

  module _ {r₁ : Run} {o : List ℕ} {w : ℕ} (m : Made F on i r r₁ xs a at o w) where
    pub room_then : RoomAt on (lines_at F i r₁.board ys) o w
    room_then =
        subst (λ b. RoomAt on (lines_at F i b ys) o w) (sym m.board)
        (subst₂ (λ x y. RoomAt on (lines_at F i (board_after F r.board xs) ys) x y) (sym m.text) (sym m.size)
        (room_rest on (lines_at F i r.board xs) (lines_at F i (board_after F r.board xs) ys) a at both_room))

    -- both are made
    pub made_then : {r₂ : Run} {o' : List ℕ} {w' : ℕ} → Made F on i r₁ r₂ ys o w o' w' → Made F on i r r₂ (xs ++ ys) a at o' w'
    made_then {r₂} {o'} {w'} k =
        let L = lines_at F i r.board xs in
        let M = lines_at F i (board_after F r.board xs) ys in
        let e = ap (λ b. lines_at F i b ys) m.board in
        record {
          board = k.board ∙ ap (λ b. board_after F b ys) m.board ∙ sym (board_append F r.board xs ys);
          text = k.text ∙ ap (λ l. told_at on l o w) e ∙ ap (λ x. told_at on M x w) m.text ∙ ap (told_at on M (told_at on L a at)) m.size
              ∙ sym (told_two on L M a at both_room) ∙ ap (λ l. told_at on l a at) (sym (lines_append F i r.board xs ys));
          size = k.size ∙ ap (λ l. told_to on l w) e ∙ ap (told_to on M) m.size ∙ sym (told_to_two on L M at)
              ∙ ap (λ l. told_to on l at) (sym (lines_append F i r.board xs ys));
        }
