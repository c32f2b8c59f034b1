-- What holds while the asks of core q's turn are made: r picks are left.
use Rattle.std.specs.Prelude.{ℕ, ◌-◌, ◌<◌, ◌≤◌, ◌≡◌, refl, List, Bool}
use Rattle.std.proofs.Math.Path.{sym, ap}
use Rattle.std.proofs.Common.{subst, ◌∙◌, arith}
use Rattle.std.proofs.Math.Bool.{true, false}
use Rattle.std.proofs.Math.ListN.{length}
use Rattle.std.specs.Prelude.{if◌then◌else◌}
use Rattle.plan.specs.declared.Policy.{Policy}
use Rattle.plan.specs.declared.OverrunChoice.{OverrunChoice}
use Rattle.board_rules.specs.View.{facts_in}
use Rattle.board_rules.specs.declared.Event.TheVariants.{Ask}
use Rattle.board_rules.specs.declared.Next.TheVariants.{Nobody, To}
use Rattle.board_rules.specs.Board.{next_of, step}
use Rattle.clock_rules.specs.Clock.{Asks, is_wait, no_ask, after, asks, asks_at, most_picks}
use Rattle.clock_rules.specs.Trace.{event_line, lines_at}
use Rattle.clock_times.specs.Times.{timing_in}
use Rattle.clock_marks.specs.Marks.{board_of, run_in, done_in}
use Rattle.clock_lines.specs.Told.{RoomAt, told_length}
use Rattle.clock_going.specs.Going.{timing_by, Going}
use Rattle.clock_takes.specs.AskCases.{asks_none, asks_one}
use Rattle.clock_asks.specs.Coming.{Coming, Come, coming_first, coming_as, coming_room, coming_more, coming_last}
use Rattle.clock_takes.specs.Asked.{PickIs, MayAsk, AskKept, AskMade, Asked}
use Rattle.clock_takes.specs.AskLaws.{may_ask, ask_made}
use Rattle.board_rules.specs.BoardLaws.{next_some}
use Rattle.clock_asks.specs.Chosen.{asker_picked, asker, asker_task}

pub record Rest (p : Policy) (c : OverrunChoice) (t x ls os : List ℕ) (ss : List Bool) (on : Bool) (q i : ℕ) (hs ws k o : List ℕ) (at : ℕ) (r : ℕ) (hs' ws' k' o' : List ℕ) (at' : ℕ) : Type 0 where
  pub going : Going p c t x ls os ss hs' ws' k'
  pub done_same : done_in k' ≡ done_in k
  pub holder_same : length hs' ≡ length hs
  pub waits_same : length ws' ≡ length ws
  pub marks_same : length k' ≡ length k
  pub out_same : length o' ≡ length o
  pub coming : Coming (facts_in p c t) on i (board_of ls os ss hs ws) (asks_at (timing_by p c t x) q (run_in ls os ss hs ws k)) o at (board_of ls os ss hs' ws') (asks (timing_by p c t x) r q (board_of ls os ss hs' ws') (done_in k')) o' at'

module _ {p : Policy} {c : OverrunChoice} {t x ls os : List ℕ} {ss : List Bool} {on : Bool} {q i : ℕ} {hs ws k o : List ℕ} {at : ℕ} where
  -- at first
  pub rest_first : Going p c t x ls os ss hs ws k → RoomAt on (lines_at (facts_in p c t) i (board_of ls os ss hs ws) (asks_at (timing_by p c t x) q (run_in ls os ss hs ws k)).events) o at →
      Rest p c t x ls os ss on q i hs ws k o at most_picks hs ws k o at
  rest_first g r = record { going = g; done_same = refl; holder_same = refl; waits_same = refl; marks_same = refl; out_same = refl; coming = coming_first r }

  module _ {r : ℕ} {hs' ws' k' o' : List ℕ} {at' : ℕ} (g : Rest p c t x ls os ss on q i hs ws k o at r hs' ws' k' o' at') where
    -- nothing is left to come
    come_asked : {v n : ℕ} → Come (facts_in p c t) on i (board_of ls os ss hs ws) (asks_at (timing_by p c t x) q (run_in ls os ss hs ws k)) o at (board_of ls os ss hs' ws') (next_of v n) o' at' →
        v ≤ 16 → n ≤ 8 → (v ≡ 0 → n ≡ 0) → (0 < v → 0 < n) → Asked p c t x ls os ss on q i hs ws k o at hs' ws' k' o' v n at'
    come_asked e a b y z = record {
      going = g.going;
      done_same = g.done_same;
      made = record { board = e.board; text = e.text; size = e.size };
      pick = e.pick;
      v_to = a;
      n_to = b;
      nobody = y;
      somebody = z;
    }

    -- no pick is left
    pub rest_spent : r ≡ 0 → Asked p c t x ls os ss on q i hs ws k o at hs' ws' k' o' 0 0 at'
    unfolding asks
    rest_spent z =
        let T = timing_by p c t x in
        let e : asks T r q (board_of ls os ss hs' ws') (done_in k') ≡ no_ask Nobody = ap (λ y. asks T y q (board_of ls os ss hs' ws') (done_in k')) z in
        come_asked (coming_last (coming_as g.coming e)) (omega arith) (omega arith) (λ y. refl) (λ y. absurd (omega arith))

    module _ {v n m : ℕ} (l : 0 < r) (h : PickIs (timing_by p c t x) q (board_of ls os ss hs' ws') (done_in k') v n m) where
      -- nothing is due to whoever is picked
      pub rest_none : m ≡ 0 → Asked p c t x ls os ss on q i hs ws k o at hs' ws' k' o' v n at'
      rest_none z =
          come_asked (coming_last (coming_as g.coming (asks_none (timing_by p c t x) q (board_of ls os ss hs' ws') (done_in k') r (next_of v n) l h.is_pick (sym h.is_due_law ∙ z))))
          h.v_to h.n_to h.nobody h.somebody

      module _ (nz : m ≡ 0 → ⊥) where
        -- what the ask leaves to come
        leaves : Bool → Asks
        leaves w = if w then asks (timing_by p c t x) (r - 1) q (step (facts_in p c t) (board_of ls os ss hs' ws') (Ask v n m)).board (done_in k') else no_ask (To v n)

        asks_first : Coming (facts_in p c t) on i (board_of ls os ss hs ws) (asks_at (timing_by p c t x) q (run_in ls os ss hs ws k)) o at (board_of ls os ss hs' ws')
            (after (Ask v n m) (leaves (is_wait (step (facts_in p c t) (board_of ls os ss hs' ws') (Ask v n m)).answer))) o' at'
        unfolding leaves timing_in
        asks_first =
            coming_as g.coming (asks_one (timing_by p c t x) q (board_of ls os ss hs' ws') (done_in k') r v n m l (asker_picked h nz) (asker h nz).is_due_law nz)

        -- there is room for the ask's line
        pub rest_room : RoomAt on (event_line i (Ask v n m) (step (facts_in p c t) (board_of ls os ss hs' ws') (Ask v n m)).answer) o' at'
        rest_room = coming_room asks_first

        -- what the ask requires
        pub rest_may : MayAsk p c t ls os ss hs' ws' k' v n m × RoomAt on (event_line i (Ask v n m) (step (facts_in p c t) (board_of ls os ss hs' ws') (Ask v n m)).answer) o' at'
        rest_may = (may_ask g.going (asker h nz), rest_room)

        module _ {w : Bool} {hs'' ws'' k'' o'' : List ℕ} {at'' : ℕ} (e : AskMade p c t x ls os ss on i v n m hs' ws' k' o' at' hs'' ws'' k'' o'' w at'') where
          asks_then : (y : Bool) → w ≡ y → Coming (facts_in p c t) on i (board_of ls os ss hs ws) (asks_at (timing_by p c t x) q (run_in ls os ss hs ws k)) o at (board_of ls os ss hs'' ws'') (leaves y) o'' at''
          asks_then y z = coming_more (subst (λ a. Coming (facts_in p c t) on i (board_of ls os ss hs ws) (asks_at (timing_by p c t x) q (run_in ls os ss hs ws k)) o at (board_of ls os ss hs' ws') (after (Ask v n m) (leaves a)) o' at') (sym e.is_wait_law ∙ z) asks_first) e.board e.text e.size

          -- it waits, and the core picks again
          pub rest_waits : w ≡ true → Rest p c t x ls os ss on q i hs ws k o at (r - 1) hs'' ws'' k'' o'' at''
          unfolding leaves
          rest_waits z =
              let T = timing_by p c t x in record {
                going = e.going;
                done_same = e.done_same ∙ g.done_same;
                holder_same = e.going.running.shaped.holder_long ∙ sym g.going.running.shaped.holder_long ∙ g.holder_same;
                waits_same = e.going.running.shaped.waits_long ∙ sym g.going.running.shaped.waits_long ∙ g.waits_same;
                marks_same = e.going.mirrors.sized.long ∙ sym g.going.mirrors.sized.long ∙ g.marks_same;
                out_same =
                    ap length e.text ∙ told_length on (event_line i (Ask v n m) (step (facts_in p c t) (board_of ls os ss hs' ws') (Ask v n m)).answer) o' at' rest_room ∙ g.out_same;
                coming =
                    coming_as (asks_then true z)
                    (ap (λ b. asks T (r - 1) q b (done_in k')) (sym e.board) ∙ ap (asks T (r - 1) q (board_of ls os ss hs'' ws'')) (sym e.done_same));
              }

          -- it does not wait, and uses the tick
          pub rest_granted : w ≡ false → Asked p c t x ls os ss on q i hs ws k o at hs'' ws'' k'' o'' v n at''
          unfolding leaves
          rest_granted z =
              let f = coming_last (coming_as (asks_then false z) (ap no_ask (sym (next_some v n (asker_task h nz))))) in record {
                going = e.going;
                done_same = e.done_same ∙ g.done_same;
                made = record { board = f.board; text = f.text; size = f.size };
                pick = f.pick;
                v_to = h.v_to;
                n_to = h.n_to;
                nobody = h.nobody;
                somebody = h.somebody;
              }

        -- by the code
        module _ {w : Bool} {hs'' ws'' k'' o'' : List ℕ} {at'' : ℕ} (e : AskKept p c t ls os ss on i v n m hs' ws' k' o' at' hs'' ws'' k'' o'' w at'') where
          pub kept_waits : w ≡ true → Rest p c t x ls os ss on q i hs ws k o at (r - 1) hs'' ws'' k'' o'' at''
          kept_waits z = rest_waits (ask_made g.going (asker h nz) e) z

          pub kept_granted : w ≡ false → Asked p c t x ls os ss on q i hs ws k o at hs'' ws'' k'' o'' v n at''
          kept_granted z = rest_granted (ask_made g.going (asker h nz) e) z
