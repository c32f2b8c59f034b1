-- The turns of all cores, from core 0 up: those of the cores below some number are made, and those of the rest are to come.
use Rattle.std.specs.Prelude.{ℕ, zero, suc, ◌+◌, ◌<◌, ◌≤◌, ◌≡◌, refl, List, [], ◌∷◌, ◌++◌, Bool, length, drop}
use Rattle.std.proofs.Math.Path.{sym, ap, subst}
use Rattle.std.proofs.Common.{◌∙◌, arith}
use Rattle.plan.specs.declared.Policy.{Policy}
use Rattle.plan.specs.declared.OverrunChoice.{OverrunChoice}
use Rattle.board_rules.specs.View.{facts_in}
use Rattle.clock_rules.specs.Clock.{Run, turn, after_turn, cores, turns, after_turns}
use Rattle.clock_rules.specs.Trace.{lines_at}
use Rattle.clock_marks.specs.Marks.{board_of, run_in, done_in}
use Rattle.clock_lines.specs.Told.{RoomAt}
use Rattle.clock_going.specs.Going.{timing_by, Going, Made}
use Rattle.clock_takes.specs.Asked.{KnownPick}
use Rattle.clock_uses.specs.Making.{made_none, made_then, made_length, room_begin, room_then}
use Rattle.clock_turns.specs.Turned.{Turned}

-- the cores from number c on
abbrev pub from : ℕ → List ℕ
from c = drop c cores

from_more : (c : ℕ) → c < 4 → from c ≡ c ∷ from (c + 1)
from_more zero l = refl
from_more (suc zero) l = refl
from_more (suc (suc zero)) l = refl
from_more (suc (suc (suc zero))) l = refl
from_more (suc (suc (suc (suc c)))) l = absurd (omega arith)

from_none : (c : ℕ) → c ≡ 4 → from c ≡ []
from_none c e = ap from e

-- the turns of the cores below c are made, from the state r on
pub record Rest (p : Policy) (a : OverrunChoice) (t x : List ℕ) (on : Bool) (i : ℕ) (r : Run) (o : List ℕ) (at : ℕ) (c : ℕ) (ls os : List ℕ) (ss : List Bool) (hs ws k o' : List ℕ) (w : ℕ) : Type 0 where
  pub going : Going p a t x ls os ss hs ws k
  pub to_core : c ≤ 4
  pub out_same : length o' ≡ length o
  pub after : after_turns (timing_by p a t x) (from c) (run_in ls os ss hs ws k) ≡ after_turns (timing_by p a t x) cores r
  pub room : RoomAt on (lines_at (facts_in p a t) i (run_in ls os ss hs ws k).board (turns (timing_by p a t x) (from c) (run_in ls os ss hs ws k))) o' w
  -- what makes the others makes them all
  pub makes : {r'' : Run} {o'' : List ℕ} {w'' : ℕ} → Made (facts_in p a t) on i (run_in ls os ss hs ws k) r'' (turns (timing_by p a t x) (from c) (run_in ls os ss hs ws k)) o' w o'' w'' →
      Made (facts_in p a t) on i r r'' (turns (timing_by p a t x) cores r) o at o'' w''

module _ {p : Policy} {a : OverrunChoice} {t x : List ℕ} {on : Bool} {i : ℕ} where
  -- none is made
  pub rest_first : {ls os : List ℕ} {ss : List Bool} {hs ws k o : List ℕ} {at : ℕ} → Going p a t x ls os ss hs ws k →
      RoomAt on (lines_at (facts_in p a t) i (run_in ls os ss hs ws k).board (turns (timing_by p a t x) cores (run_in ls os ss hs ws k))) o at →
      Rest p a t x on i (run_in ls os ss hs ws k) o at 0 ls os ss hs ws k o at
  rest_first g h = record { going = g; to_core = omega arith; out_same = refl; after = refl; room = h; makes = λ m. m }

  module _ {r : Run} {o : List ℕ} {at c : ℕ} {ls os : List ℕ} {ss : List Bool} {hs ws k o' : List ℕ} {w : ℕ} (g : Rest p a t x on i r o at c ls os ss hs ws k o' w) where
    -- all are made
    pub rest_last : c ≡ 4 → Turned p a t x on i r (after_turns (timing_by p a t x) cores r) (turns (timing_by p a t x) cores r) ls os ss hs ws k o at o' w
    unfolding turns after_turns
    rest_last e =
        let T = timing_by p a t x in
        let r' = run_in ls os ss hs ws k in
        record {
          going = g.going;
          after = sym (ap (λ cs. after_turns T cs r') (from_none c e)) ∙ g.after;
          made = g.makes (subst (λ cs. Made (facts_in p a t) on i r' r' (turns T cs r') o' w o' w) (sym (from_none c e)) (made_none (facts_in p a t) on i r' r' o' w refl));
        }

    -- core c's turn is next
    module _ (l : c < 4) where
      next_is : turns (timing_by p a t x) (from c) (run_in ls os ss hs ws k) ≡
          turn (timing_by p a t x) c (run_in ls os ss hs ws k) ++ turns (timing_by p a t x) (from (c + 1)) (after_turn (timing_by p a t x) c (run_in ls os ss hs ws k))
      unfolding turns
      next_is = ap (λ cs. turns (timing_by p a t x) cs (run_in ls os ss hs ws k)) (from_more c l)

      next_fits : RoomAt on (lines_at (facts_in p a t) i (run_in ls os ss hs ws k).board
          (turn (timing_by p a t x) c (run_in ls os ss hs ws k) ++ turns (timing_by p a t x) (from (c + 1)) (after_turn (timing_by p a t x) c (run_in ls os ss hs ws k)))) o' w
      next_fits = subst (λ es. RoomAt on (lines_at (facts_in p a t) i (run_in ls os ss hs ws k).board es) o' w) next_is g.room

      -- there is room for it
      pub turn_room : RoomAt on (lines_at (facts_in p a t) i (run_in ls os ss hs ws k).board (turn (timing_by p a t x) c (run_in ls os ss hs ws k))) o' w
      turn_room =
          let T = timing_by p a t x in
          let r' = run_in ls os ss hs ws k in
          room_begin (facts_in p a t) on i r' (turn T c r') (turns T (from (c + 1)) (after_turn T c r')) o' w next_fits

      -- what it requires: nobody is known to be picked
      pub turn_may : (Going p a t x ls os ss hs ws k × (c ≤ 3))
          × (RoomAt on (lines_at (facts_in p a t) i (board_of ls os ss hs ws) (turn (timing_by p a t x) c (run_in ls os ss hs ws k))) o' w × KnownPick (timing_by p a t x) c (board_of ls os ss hs ws) (done_in k) 0 0)
      turn_may = ((g.going, omega arith), (turn_room, λ z. absurd (omega arith)))

      -- it is made
      pub rest_more : {ls₁ os₁ : List ℕ} {ss₁ : List Bool} {hs₁ ws₁ k₁ o₁ : List ℕ} {w₁ : ℕ} →
          Turned p a t x on i (run_in ls os ss hs ws k) (after_turn (timing_by p a t x) c (run_in ls os ss hs ws k)) (turn (timing_by p a t x) c (run_in ls os ss hs ws k)) ls₁ os₁ ss₁ hs₁ ws₁ k₁ o' w o₁ w₁ →
          Rest p a t x on i r o at (c + 1) ls₁ os₁ ss₁ hs₁ ws₁ k₁ o₁ w₁
      unfolding after_turns
      rest_more {ls₁} {os₁} {ss₁} {hs₁} {ws₁} {k₁} {o₁} {w₁} u =
          let T = timing_by p a t x in
          let F = facts_in p a t in
          let r' = run_in ls os ss hs ws k in
          let r₁ = run_in ls₁ os₁ ss₁ hs₁ ws₁ k₁ in
          let cs = from (c + 1) in
          record {
            going = u.going;
            to_core = omega arith;
            out_same = made_length u.made turn_room ∙ g.out_same;
            after = ap (after_turns T cs) u.after ∙ sym (ap (λ z. after_turns T z r') (from_more c l)) ∙ g.after;
            room =
                subst (λ z. RoomAt on (lines_at F i r₁.board (turns T cs z)) o₁ w₁) (sym u.after)
                (room_then F on i r' (turn T c r') (turns T cs (after_turn T c r')) o' w next_fits u.made);
            makes = λ {r''} {o''} {w''} m.
                g.makes (subst (λ es. Made F on i r' r'' es o' w o'' w'') (sym next_is)
                (made_then F on i r' (turn T c r') (turns T cs (after_turn T c r')) o' w next_fits u.made
                (subst (λ z. Made F on i r₁ r'' (turns T cs z) o₁ w₁ o'' w'') u.after m)));
          }
