-- What is left of some asks, on the way: from board b on the asks a are to be made and told behind the first n bytes of the buffer o; those made and told, the
-- asks a' are left, from board b' on and behind the first n' bytes of o'.
use Rattle.std.specs.Prelude.{ℕ, ◌≡◌, refl, Bool, List}
use Rattle.std.proofs.Math.Path.{sym}
use Rattle.std.proofs.Common.{subst, ◌∙◌}
use Rattle.board_rules.specs.Facts.{Facts}
use Rattle.board_rules.specs.declared.Board.{Board}
use Rattle.board_rules.specs.declared.Event.{Event}
use Rattle.board_rules.specs.declared.Next.{Next}
use Rattle.board_rules.specs.Board.{step}
use Rattle.board_events.specs.Events.{board_by, board_after}
use Rattle.clock_rules.specs.Clock.{Asks, no_ask, after}
use Rattle.clock_rules.specs.Trace.{event_line, lines_at}
use Rattle.clock_lines.specs.Told.{told_at, told_to, RoomAt, told_none, told_to_none, told_two, told_to_two, room_first, room_rest}

pub record Coming (F : Facts) (on : Bool) (i : ℕ) (b : Board) (a : Asks) (o : List ℕ) (n : ℕ) (b' : Board) (a' : Asks) (o' : List ℕ) (n' : ℕ) : Type 0 where
  pub board : board_after F b a.events ≡ board_after F b' a'.events
  pub pick : a.pick ≡ a'.pick
  pub text : told_at on (lines_at F i b a.events) o n ≡ told_at on (lines_at F i b' a'.events) o' n'
  pub size : told_to on (lines_at F i b a.events) n ≡ told_to on (lines_at F i b' a'.events) n'
  pub room : RoomAt on (lines_at F i b' a'.events) o' n'

-- the asks a are made and told
pub record Come (F : Facts) (on : Bool) (i : ℕ) (b : Board) (a : Asks) (o : List ℕ) (n : ℕ) (b' : Board) (x : Next) (o' : List ℕ) (n' : ℕ) : Type 0 where
  pub board : b' ≡ board_after F b a.events
  pub pick : x ≡ a.pick
  pub text : o' ≡ told_at on (lines_at F i b a.events) o n
  pub size : n' ≡ told_to on (lines_at F i b a.events) n

module _ {F : Facts} {on : Bool} {i : ℕ} {b : Board} {a : Asks} {o : List ℕ} {n : ℕ} where
  -- at first
  pub coming_first : RoomAt on (lines_at F i b a.events) o n → Coming F on i b a o n b a o n
  coming_first r = record { board = refl; pick = refl; text = refl; size = refl; room = r }

  module _ {b' : Board} {a' : Asks} {o' : List ℕ} {n' : ℕ} (g : Coming F on i b a o n b' a' o' n') where
    -- as what is left is known to be
    pub coming_as : {x : Asks} → a' ≡ x → Coming F on i b a o n b' x o' n'
    coming_as e = subst (λ x. Coming F on i b a o n b' x o' n') e g

  module _ {b' : Board} {o' : List ℕ} {n' : ℕ} where
    module _ {e : Event} {a' : Asks} (g : Coming F on i b a o n b' (after e a') o' n') where
      -- there is room for the line of the event that is to come
      pub coming_room : RoomAt on (event_line i e (step F b' e).answer) o' n'
      unfolding lines_at
      coming_room = room_first on (event_line i e (step F b' e).answer) (lines_at F i (step F b' e).board a'.events) o' n' g.room

      coming_steps : Coming F on i b a o n (step F b' e).board a' (told_at on (event_line i e (step F b' e).answer) o' n') (told_to on (event_line i e (step F b' e).answer) n')
      unfolding lines_at board_by
      coming_steps =
          let x = event_line i e (step F b' e).answer in
          let y = lines_at F i (step F b' e).board a'.events in
          record {
            board = g.board;
            pick = g.pick;
            text = g.text ∙ told_two on x y o' n' g.room;
            size = g.size ∙ told_to_two on x y n';
            room = room_rest on x y o' n' g.room;
          }

      -- the event is made and told
      pub coming_more : {b'' : Board} {o'' : List ℕ} {n'' : ℕ} → b'' ≡ (step F b' e).board → o'' ≡ told_at on (event_line i e (step F b' e).answer) o' n' →
          n'' ≡ told_to on (event_line i e (step F b' e).answer) n' → Coming F on i b a o n b'' a' o'' n''
      coming_more {b''} {o''} {n''} p q r =
          subst (λ z. Coming F on i b a o n z a' o'' n'') (sym p)
          (subst (λ z. Coming F on i b a o n (step F b' e).board a' z n'') (sym q)
          (subst (λ z. Coming F on i b a o n (step F b' e).board a' (told_at on (event_line i e (step F b' e).answer) o' n') z) (sym r) coming_steps))

    -- no event is left
    pub coming_last : {x : Next} → Coming F on i b a o n b' (no_ask x) o' n' → Come F on i b a o n b' x o' n'
    unfolding lines_at board_by
    coming_last g = record {
      board = sym g.board;
      pick = sym g.pick;
      text = sym (g.text ∙ told_none on o' n');
      size = sym (g.size ∙ told_to_none on n');
    }
