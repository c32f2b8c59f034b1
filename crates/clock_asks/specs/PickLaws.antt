-- Whom a core picks, by the VCPU that it picks and the task in it.
use Rattle.std.specs.Prelude.{ℕ, ◌<◌, ◌≤◌, ◌≡◌, refl, Bool, true, ◌&&◌, not, List}
use Rattle.std.proofs.Math.Path.{sym, subst}
use Rattle.std.proofs.Common.{ap, ◌∙◌}
use native.Mathlib.Omega.{arith}
use borrow.Author.Tests.{ne_eqb, le-leb}
use Rattle.laws.specs.Choice.{when}
use Rattle.laws.specs.Range.{any_to}
use Rattle.laws.specs.BoolLaws.{both_right, clash}
use Rattle.laws_picks.specs.PickLaws.{top_passes, top_zero}
use Rattle.plan.specs.Limits.{max_v, most_n}
use Rattle.plan.specs.declared.Policy.{Policy}
use Rattle.plan.specs.declared.OverrunChoice.{OverrunChoice}
use Rattle.board_rules.specs.Facts.{Facts}
use Rattle.board_rules.specs.declared.Board.{Board}
use Rattle.board_rules.specs.declared.Next.TheVariants.{Nobody, To}
use Rattle.board_rules.specs.Board.{is_asleep, next_of, task_priority, vcpu_priority}
use Rattle.clock_rules.specs.Clock.{Timing, done_of, is_ready, is_on, may_run, pick_v, pick_n, picked, due_of}
use Rattle.clock_times.specs.Times.{timing_in, lengths_cell}
use Rattle.clock_marks.specs.Marks.{done_cell, done_in, board_of}
use Rattle.clock_steps.specs.Done.{by_seat_law}
use Rattle.clock_steps.specs.Picked.{Chosen, is_ready_law}
use Rattle.clock_takes.specs.AskCases.{due_to}
use Rattle.board_rules.specs.View.{facts_in}
use Rattle.clock_going.specs.Going.{timing_by, Going}
use Rattle.clock_dues.specs.Picking.{PicksV, PicksN, IsDue}
use Rattle.clock_takes.specs.Asked.{PickIs}
use Rattle.board_rules.specs.BoardLaws.{next_some}
use Rattle.clock_asks.specs.Chosen.{picked_chosen}

module _ (T : Timing) (c : ℕ) (b : Board) (d : List ℕ) where
  -- no VCPU is picked
  picked_none : 0 ≡ pick_v T c b d → picked T c b d ≡ Nobody
  unfolding picked
  picked_none e = rw (sym e)

  pub pick_none : 0 ≡ pick_v T c b d → PickIs T c b d 0 0 0
  pick_none e = record { is_pick = picked_none e; is_due_law = refl; v_to = omega arith; n_to = omega arith; nobody = λ z. refl; somebody = λ l. absurd (omega arith) }

  module _ (v n : ℕ) (e : v ≡ pick_v T c b d) (nz : v ≡ 0 → ⊥) (f : n ≡ pick_n T b d v) where
    -- VCPU v is picked, so it has a ready task
    has_task_law : any_to most_n (is_ready T b d v) ≡ true
    unfolding pick_v
    has_task_law =
        let m = subst (λ x. may_run T c b d x ≡ true) (sym e) (top_passes max_v (may_run T c b d) (vcpu_priority T.facts b) (omega arith)) in
        both_right (not (is_asleep T.facts b v)) (any_to most_n (is_ready T b d v)) (both_right (is_on T c v) (not (is_asleep T.facts b v) && any_to most_n (is_ready T b d v)) m)

    -- and one is picked in it
    pub task_some : 0 < n
    unfolding pick_n
    task_some = let h : n ≡ 0 → ⊥ = λ z. clash has_task_law ((top_zero most_n (is_ready T b d v) (task_priority T.facts b v)).1 (sym f ∙ z)) in omega arith

    picked_next : picked T c b d ≡ next_of v n
    unfolding picked
    picked_next = rw (sym e, sym f, ne_eqb v 0 nz)

    -- whom the core picks
    pub picked_to : picked T c b d ≡ To v n
    picked_to = picked_next ∙ next_some v n (λ z. let h = task_some in omega arith)

    -- it is the one that may be picked
    pub pick_chosen : Chosen T c b d v n
    pick_chosen = picked_chosen picked_to

    pub pick_some : v ≤ 16 → n ≤ 8 → (m : ℕ) → m ≡ due_of T b d v n → PickIs T c b d v n m
    pick_some a y m g = record {
      is_pick = picked_next;
      is_due_law = g ∙ ap (due_to T b d) (sym (next_some v n (λ z. let h = task_some in omega arith)));
      v_to = a;
      n_to = y;
      nobody = λ z. absurd (nz z);
      somebody = λ l. task_some;
    }

-- a task that is picked, with what is due to it
pub pick_to : {T : Timing} {c : ℕ} {b : Board} {d : List ℕ} {v n : ℕ} → picked T c b d ≡ To v n → {m : ℕ} → m ≡ due_of T b d v n → PickIs T c b d v n m
pick_to {T} {c} {b} {d} {v} {n} e {m} f =
    let h = picked_chosen e in
    let v-from = h.v_in.from in
    let n_from = h.n_in.from in
    let y : next_of v n ≡ To v n = next_some v n (λ z. omega arith) in record {
      is_pick = e ∙ sym y;
      is_due_law = f ∙ ap (due_to T b d) (sym y);
      v_to = h.v_in.to;
      n_to = h.n_in.to;
      nobody = λ z. absurd (omega arith);
      somebody = λ l. n_from;
    }

-- its job is unfinished, as the lists say it
pub unfinished_cells : (F : Facts) (x k : List ℕ) {c : ℕ} {b : Board} {v n : ℕ} → Chosen (timing_in F x) c b (done_in k) v n → done_cell k v n < lengths_cell x v n
unfolding timing_in when
unfinished_cells F x k {c} {b} {v} {n} g =
    let u = (is_ready_law (timing_in F x) b (done_in k) v n g.ready).unfinished in
    let e = by_seat_law (λ v n. done_cell k v n) v n g.v_in g.n_in in
    let l : done_of (done_in k) v n < lengths_cell x v n = rw (le-leb 1 v g.v_in.from, le-leb v 16 g.v_in.to, le-leb 1 n g.n_in.from, le-leb n 8 g.n_in.to) at u in
    omega arith

-- WHAT THE CODE FINDS, of lists that go together
module _ {p : Policy} {c : OverrunChoice} {t x ls os : List ℕ} {ss : List Bool} {hs ws k : List ℕ} (g : Going p c t x ls os ss hs ws k) (q : ℕ) where
  pub code_none : {v : ℕ} → PicksV k q v → v ≡ 0 → PickIs (timing_by p c t x) q (board_of ls os ss hs ws) (done_in k) 0 0 0
  code_none a z = pick_none (timing_by p c t x) q (board_of ls os ss hs ws) (done_in k) (sym z ∙ a (timing_by p c t x) x (board_of ls os ss hs ws) g.mirrors)

  -- the task that is found is picked
  pub code_picks : {v : ℕ} → PicksV k q v → (v ≡ 0 → ⊥) → {n : ℕ} → PicksN t ws k v n → picked (timing_by p c t x) q (board_of ls os ss hs ws) (done_in k) ≡ To v n
  code_picks {v} a nz {n} f =
      let T = timing_by p c t x in
      let b = board_of ls os ss hs ws in
      picked_to T q b (done_in k) v n (a T x b g.mirrors) nz (f p c x b refl g.mirrors)

  -- a task that is picked has its places
  pub code_in : {v n : ℕ} → picked (timing_by p c t x) q (board_of ls os ss hs ws) (done_in k) ≡ To v n → (0 < v) × (v ≤ 16) × (0 < n) × (n ≤ 8)
  code_in e = let h = picked_chosen e in (h.v_in.from, h.v_in.to, h.n_in.from, h.n_in.to)

  -- what is due to a task that is picked
  pub code_some : {v n : ℕ} → picked (timing_by p c t x) q (board_of ls os ss hs ws) (done_in k) ≡ To v n → {m : ℕ} → IsDue x hs k v n m → PickIs (timing_by p c t x) q (board_of ls os ss hs ws) (done_in k) v n m
  code_some e {m} f =
      let b = board_of ls os ss hs ws in
      let h = picked_chosen e in
      pick_to e (f (facts_in p c t) b refl g.ordered g.mirrors (unfinished_cells (facts_in p c t) x k h))
