-- What is known of a core's turn when it is picked anew, and when it is forgotten.
use Rattle.std.specs.Prelude.{ℕ, zero, suc, ◌+◌, ◌-◌, ◌<◌, ◌≤◌, ◌≡◌, Bool, true, List, [], ◌∷◌, length, get_or, set}
use Rattle.std.proofs.Math.Path.{refl}
use Rattle.std.proofs.Common.{sym, ap, ◌∙◌, true≢false, inl, inr, ⊎_elim, arith, length-set, get_or-set_same, get_or-set_other}
use Rattle.laws.specs.BoolLaws.{same_or_not}
use Rattle.plan.specs.declared.Policy.{Policy}
use Rattle.plan.specs.declared.OverrunChoice.{OverrunChoice}
use Rattle.board_rules.specs.View.{facts_in}
use Rattle.board_rules.specs.BoardLaws.{next_some}
use Rattle.board_rules.specs.declared.Board.{Board}
use Rattle.board_keeps.specs.Fair.{InV, InN}
use Rattle.clock_rules.specs.Clock.{Timing, pick_v, pick_n, due_of}
use Rattle.clock_times.specs.Times.{timing_in, lengths_cell, Ordered}
use Rattle.clock_marks.specs.Marks.{board_of, done_in, done_cell, place_cell, Ended}
use Rattle.clock_steps.specs.Picked.{Chosen}
use Rattle.clock_dues.specs.Picking.{PicksV, PicksN}
use Rattle.clock_going.specs.Going.{timing_by, Going}
use Rattle.clock_asks.specs.PickLaws.{pick_none, pick_chosen, pick_some, unfinished_cells}
use Rattle.clock_reaches.specs.Stretches.{plain_length, Stretch, Idles, Within}
use Rattle.clock_reaches.specs.Reaches.{place_is, goes_for, stretch_less}
use Rattle.clock_spends.specs.Spends.{Counted, PutAt, Put, Forgot}

-- three cells
pub put_at_law : {pl : List ℕ} {c i k v n : ℕ} → length pl ≡ plain_length → c ≤ 3 → i ≡ c → PutAt pl c k v n (set (set (set pl i k) (4 + i) v) (8 + i) n)
put_at_law {pl} {c} {i} {k} {v} {n} long l e =
    let q₁ = set pl i k in
    let q₂ = set q₁ (4 + i) v in
    let e₁ = length-set pl i k in
    let e₂ = length-set q₁ (4 + i) v in
    let cell : (a : ℕ) → (a ≡ i → ⊥) → (a ≡ 4 + i → ⊥) → (a ≡ 8 + i → ⊥) → get_or (set q₂ (8 + i) n) a 0 ≡ get_or pl a 0 =
    λ a x y z. get_or-set_other q₂ (8 + i) a n 0 z ∙ get_or-set_other q₁ (4 + i) a v 0 y ∙ get_or-set_other pl i a k 0 x in
    record {
      long = length-set q₂ (8 + i) n ∙ e₂ ∙ e₁;
      ticks = ap (λ a. get_or (set q₂ (8 + i) n) a 0) (sym e) ∙ get_or-set_other q₂ (8 + i) i n 0 (λ z. omega arith) ∙ get_or-set_other q₁ (4 + i) i v 0 (λ z. omega arith) ∙ get_or-set_same pl i k 0 (omega arith);
      vcpu = ap (λ a. get_or (set q₂ (8 + i) n) (4 + a) 0) (sym e) ∙ get_or-set_other q₂ (8 + i) (4 + i) n 0 (λ z. omega arith) ∙ get_or-set_same q₁ (4 + i) v 0 (omega arith);
      task = ap (λ a. get_or (set q₂ (8 + i) n) (8 + a) 0) (sym e) ∙ get_or-set_same q₂ (8 + i) n 0 (omega arith);
      others = λ a m ne. (cell a (λ z. ne (z ∙ e)) (λ z. omega arith) (λ z. omega arith), cell (4 + a) (λ z. omega arith) (λ z. ne (omega arith)) (λ z. omega arith), cell (8 + a) (λ z. omega arith) (λ z. omega arith) (λ z. ne (omega arith)));
    }

-- WHO IS PICKED
module _ {p : Policy} {o : OverrunChoice} {t x ls os : List ℕ} {ss : List Bool} {hs ws k : List ℕ} (g : Going p o t x ls os ss hs ws k) (c : ℕ) {v : ℕ} (a : PicksV k c v) where
  -- is a VCPU
  picks_v : v ≡ pick_v (timing_by p o t x) c (board_of ls os ss hs ws) (done_in k)
  picks_v = a (timing_by p o t x) x (board_of ls os ss hs ws) g.mirrors

  module _ (nz : v ≡ 0 → ⊥) {n : ℕ} (f : PicksN t ws k v n) where
    picks_n : n ≡ pick_n (timing_by p o t x) (board_of ls os ss hs ws) (done_in k) v
    picks_n = f p o x (board_of ls os ss hs ws) refl g.mirrors

    chosen : Chosen (timing_by p o t x) c (board_of ls os ss hs ws) (done_in k) v n
    chosen = pick_chosen (timing_by p o t x) c (board_of ls os ss hs ws) (done_in k) v n picks_v nz picks_n

    short : done_cell k v n < lengths_cell x v n
    short = unfinished_cells (facts_in p o t) x k chosen

    -- its reach may be asked
    pub reach_needs : InV v × InN n × Ordered x × (done_cell k v n < lengths_cell x v n) × Ended x v n (done_cell k v n) (place_cell k v n)
    reach_needs = (chosen.v_in, chosen.n_in, g.ordered, short, place_is (facts_in p o t) chosen.v_in chosen.n_in g.ordered g.mirrors short)

  module _ {s : ℕ} (i : Idles p k c s) {pl : List ℕ} where
    -- nobody is picked
    pub put_none : {r : ℕ} → v ≡ 0 → Within ls s r → {pl' : List ℕ} → PutAt pl c r 0 0 pl' → Put (timing_by p o t x) (board_of ls os ss hs ws) (done_in k) pl c pl'
    unfolding timing_in facts_in
    put_none {r} z w {pl'} q =
        let T = timing_by p o t x in
        let b = board_of ls os ss hs ws in
        let h = pick_none T c b (done_in k) (sym z ∙ picks_v) in
        record {
          long = q.long;
          own = λ l.
              let l' : 0 < r = omega (arith, q.ticks) in
              rw (q.ticks, q.vcpu, q.task)
              (record {
                who = h.is_pick;
                nobody = λ y. refl;
                somebody = λ y. absurd (omega arith);
                goes = λ y. absurd (omega arith);
                idling = λ y j e. w y j (i.are T x b refl g.mirrors y j ∙ e) l';
              });
          own_pick = λ l. absurd (let e = q.vcpu in omega arith);
          others = q.others;
        }

    -- (v, n) is
    pub put_some : {n r₀ r : ℕ} → (v ≡ 0 → ⊥) → PicksN t ws k v n → v ≤ 16 → n ≤ 8 → Stretch x hs k v n r₀ × (0 < r₀ → r₀ < get_or ls (v - 1) 0) → r ≤ r₀ → Within ls s r → {pl' : List ℕ} → PutAt pl c r v n pl' →
        Put (timing_by p o t x) (board_of ls os ss hs ws) (done_in k) pl c pl'
    unfolding timing_in facts_in
    put_some {n} {r₀} {r} nz f v_to n_to m few w {pl'} q =
        let T = timing_by p o t x in
        let b = board_of ls os ss hs ws in
        let h = pick_some T c b (done_in k) v n picks_v nz (picks_n nz f) v_to n_to (due_of T b (done_in k) v n) refl in
        let y = chosen nz f in
        record {
          long = q.long;
          own = λ l.
              let l' : 0 < r = omega (arith, q.ticks) in
              rw (q.ticks, q.vcpu, q.task)
              (record {
                who = h.is_pick;
                nobody = h.nobody;
                somebody = h.somebody;
                goes = λ _. goes_for (facts_in p o t) y.v_in y.n_in g.ordered g.mirrors (stretch_less m.0 few) (let u = m.1 (omega arith) in omega arith);
                idling = λ u j e. w u j (i.are T x b refl g.mirrors u j ∙ e) l';
              });
          own_pick = λ l. rw (q.vcpu, q.task) (h.is_pick ∙ next_some v n (λ z. let a = y.n_in.from in omega arith));
          others = q.others;
        }

-- NOTHING IS KNOWN: a cell that is cleared
cleared_cell : (l : List ℕ) (i : ℕ) → get_or (set l i 0) i 0 ≡ 0
cleared_cell [] i = refl
cleared_cell (a ∷ l) zero = refl
cleared_cell (a ∷ l) (suc i) = cleared_cell l i

-- and those below it that were
cleared_to : (l : List ℕ) (j i : ℕ) → (i < j → get_or l i 0 ≡ 0) → i < suc j → get_or (set l j 0) i 0 ≡ 0
cleared_to l j i f m = ⊎_elim (λ e. ap (λ a. get_or (set l a 0) i 0) (sym e) ∙ cleared_cell l i) (λ ne. get_or-set_other l j i 0 0 ne ∙ f (omega arith)) (same_or_not i j)

-- the cells before i are cleared
pub record Clearing (pl : List ℕ) (i : ℕ) (pl' : List ℕ) : Type 0 where
  pub to : i ≤ 8
  pub long : length pl' ≡ length pl
  pub zeros : (j : ℕ) → j < i → get_or pl' j 0 ≡ 0

pub clearing_first : (pl : List ℕ) → Clearing pl 0 pl
clearing_first pl = record { to = omega arith; long = refl; zeros = λ j m. absurd (omega arith) }

pub clearing_more : {pl pl' : List ℕ} {i : ℕ} → Clearing pl i pl' → i < 8 → Clearing pl (i + 1) (set pl' i 0)
clearing_more {pl} {pl'} {i} g l = record { to = omega arith; long = length-set pl' i 0 ∙ g.long; zeros = λ j m. cleared_to pl' i j (g.zeros j) (omega arith) }

pub forgot_all : {handed : Bool} {pl pl' : List ℕ} {i : ℕ} → Clearing pl i pl' → 8 ≤ i → Forgot handed pl pl'
forgot_all g l = record {
  long = g.long;
  kept = λ j m s. absurd (⊎_elim (λ a. let e = g.zeros j (omega arith) in omega arith) (λ a. let e = g.zeros (4 + j) (omega arith) in omega arith) s);
}

-- what is forgotten is right
pub forgot_counted : {T : Timing} {b : Board} {d pl pl' : List ℕ} → length pl ≡ plain_length → Forgot true pl pl' → Counted T b d pl'
forgot_counted l f = record { long = f.long ∙ l; core = λ i m s. absurd (true≢false (f.kept i m (inl s)).0); pick = λ i m s. absurd (true≢false (f.kept i m (inr s)).0) }
