-- Ticks of plain turns, spent on the clock's lists.
use Rattle.std.specs.Prelude.{ℕ, suc, ◌+◌, ◌-◌, ◌*◌, ◌<◌, ◌≤◌, ◌≡◌, Bool, List, ltb, length, get_or, set}
use Rattle.std.proofs.Math.Path.{refl}
use Rattle.std.proofs.Common.{sym, ap, ap₂, subst, subst₂, ◌∙◌, eq-zero-or-pos, arith, eq-eqb, ne_eqb, le-leb, length-set, get_or-set_same, get_or-set_other}
use Rattle.std.proofs.Math.Logic.{⊎_elim}
use Rattle.std.proofs.lemmas.Bool.{not-true}
use Rattle.laws.specs.Choice.{when}
use Rattle.laws.specs.RangeLaws.{any_hit}
use Rattle.laws.specs.BoolLaws.{both_right, is_false, clash, same_or_not}
use Rattle.plan.specs.Limits.{max_v, most_n}
use Rattle.plan.specs.declared.Policy.{Policy}
use Rattle.plan.specs.declared.OverrunChoice.{OverrunChoice}
use Rattle.board_seats.specs.Seats.{seat}
use Rattle.board_rules.specs.View.{facts_in}
use Rattle.board_rules.specs.declared.Board.{Board}
use Rattle.board_rules.specs.Board.{left_of, under_p}
use Rattle.board_keeps.specs.Fair.{InV, InN}
use Rattle.clock_rules.specs.Clock.{Timing, after_turn, is_ready, has_ready, is_on, idles}
use Rattle.clock_times.specs.Times.{timing_in, Paired}
use Rattle.clock_marks.specs.Marks.{board_of, run_in, done_in, done_cell, place_cell, Ended, Sized, Mirrors}
use Rattle.clock_steps.specs.Done.{by_seat_law}
use Rattle.clock_going.specs.Going.{timing_by, Going}
use Rattle.clock_plains.specs.Plains.{Plain, Spent}
use Rattle.clock_plains.specs.SpentLaws.{spent_done}
use Rattle.clock_plains.specs.PlainLaws.{plain_chosen, spent_alike, plain_later, plain_other}
use Rattle.clock_plains.specs.Alike.{picked_alike}
use Rattle.clock_plains.specs.PlainTurn.{plain_turn, spent_running}
use Rattle.clock_plains.specs.PlainMirrors.{kept_after, plain_mirrors, plain_done}
use Rattle.clock_reaches.specs.Stretches.{ticks_cell, vcpu_cell, task_cell, Idles}
use Rattle.clock_reaches.specs.Reaches.{goes_ended}
use Rattle.clock_spends.specs.Spends.{CountedAt, Counted, Lost, lost_own, Spending, Spendable}
use Rattle.clock_spends.specs.Losing.{lost_all}

-- fewer ticks
pub plain_less : {T : Timing} {c : ℕ} {b : Board} {d : List ℕ} {v n k j : ℕ} → Plain T c b d v n k → j ≤ k → Plain T c b d v n j
plain_less p l = record {
  who = p.who;
  nobody = p.nobody;
  somebody = p.somebody;
  goes = λ h.
      let g = p.goes h in
      record {
        v_in = g.v_in;
        n_in = g.n_in;
        budget = let u = g.budget in omega arith;
        unfinished = let u = g.unfinished in omega arith;
        no_ask_law = λ y m. g.no_ask_law y (omega arith);
        no_end = λ y m. g.no_end y (omega arith);
      };
  idling = λ w i e. let u = p.idling w i e in omega arith;
}

-- the job's ticks are few
lengths_few : (p : Policy) (o : OverrunChoice) {t x : List ℕ} → Paired t x → (v n : ℕ) → InV v → InN n → (timing_by p o t x).lengths v n ≤ 17000000
unfolding timing_in when
lengths_few p o g v n i j = rw (le-leb 1 v i.from, le-leb v 16 i.to, le-leb 1 n j.from, le-leb n 8 j.to) (g.lengths_to v n i j)

module _ {p : Policy} {o : OverrunChoice} {t x ls os : List ℕ} {ss : List Bool} {hs ws k pl : List ℕ} (g : Going p o t x ls os ss hs ws k)
    (h : Counted (timing_by p o t x) (board_of ls os ss hs ws) (done_in k) pl) {c j : ℕ} (c_to : c ≤ 3) (some : 0 < j) (to : j ≤ ticks_cell pl c) where
  -- core c's turn
  pub plain_all : Plain (timing_by p o t x) c (board_of ls os ss hs ws) (done_in k) (vcpu_cell pl c) (task_cell pl c) (ticks_cell pl c)
  plain_all = h.core c c_to (omega arith)

  pub plain_now : Plain (timing_by p o t x) c (board_of ls os ss hs ws) (done_in k) (vcpu_cell pl c) (task_cell pl c) j
  plain_now = plain_less plain_all to

  -- it may be spent
  pub spend_needs : Spendable p c j ls k pl
  unfolding timing_in facts_in
  spend_needs = record {
    left_long = g.running.shaped.left_long;
    sized = g.mirrors.sized;
    long = h.long;
    c_to = c_to;
    v_to = ⊎_elim (λ z. omega arith) (λ l. (plain_now.goes l).v_in.to) (eq-zero-or-pos (vcpu_cell pl c));
    n_to = ⊎_elim (λ z. let y = plain_now.nobody z in omega arith) (λ l. (plain_now.goes l).n_in.to) (eq-zero-or-pos (vcpu_cell pl c));
    busy = λ l r e.
        let q = plain_chosen plain_now l in
        let b = board_of ls os ss hs ws in
        let T = timing_by p o t x in
        let v = vcpu_cell pl c in
        e.are T x b refl g.mirrors v q.v_in
        ∙ is_false (idles T c b (done_in k) v)
        (λ i. clash (any_hit most_n (task_cell pl c) (is_ready T b (done_in k) v) q.n_in.from q.n_in.to q.ready)
        (not-true (has_ready T b (done_in k) v) (both_right (ltb 0 (left_of b v)) _ (both_right (is_on T c v) _ (both_right (under_p p) _ i)))));
    done_to = λ l.
        let q = plain_now.goes l in
        let e = by_seat_law (λ v n. done_cell k v n) (vcpu_cell pl c) (task_cell pl c) q.v_in q.n_in in
        let m = lengths_few p o g.paired (vcpu_cell pl c) (task_cell pl c) q.v_in q.n_in in
        let u = q.unfinished in
        omega arith;
  }

  -- no section ends
  still : 0 < vcpu_cell pl c → Ended x (vcpu_cell pl c) (task_cell pl c) (done_cell k (vcpu_cell pl c) (task_cell pl c) + j) (place_cell k (vcpu_cell pl c) (task_cell pl c))
  still l = let q = plain_now.goes l in goes_ended (facts_in p o t) q.v_in q.n_in g.ordered g.mirrors q

  -- WHEN IT IS SPENT
  module _ {ls' k' pl' : List ℕ} (s : Spending p c j ls k pl ls' k' pl') where
    spent_board : Spent (timing_by p o t x) c (board_of ls os ss hs ws) (done_in k) (vcpu_cell pl c) (task_cell pl c) j (board_of ls' os ss hs ws) (spent_done (done_in k) (vcpu_cell pl c) (task_cell pl c) j)
    unfolding timing_in facts_in
    spent_board =
        let T = timing_by p o t x in
        let b = board_of ls os ss hs ws in
        record {
          left_long = s.lost.long;
          left = s.lost.left T x b refl g.mirrors;
          over_same = refl;
          stopped_same = refl;
          holder_same = refl;
          waits_same = refl;
          done = refl;
        }

    done_is : done_in k' ≡ spent_done (done_in k) (vcpu_cell pl c) (task_cell pl c) j
    done_is = ap done_in s.marks ∙ plain_done g.mirrors plain_now spent_board still

    pub spent_is : Spent (timing_by p o t x) c (board_of ls os ss hs ws) (done_in k) (vcpu_cell pl c) (task_cell pl c) j (board_of ls' os ss hs ws) (done_in k')
    spent_is = subst (λ d. Spent (timing_by p o t x) c (board_of ls os ss hs ws) (done_in k) (vcpu_cell pl c) (task_cell pl c) j (board_of ls' os ss hs ws) d) (sym done_is) spent_board

    -- the run goes on
    pub spent_going : Going p o t x ls' os ss hs ws k'
    spent_going = record {
      paired = g.paired;
      ordered = g.ordered;
      paced = g.paced;
      running = spent_running g.paced j g.running plain_now spent_is;
      mirrors = subst (λ y. Mirrors (timing_by p o t x) x (board_of ls' os ss hs ws) y) (sym s.marks) (plain_mirrors g.mirrors plain_now spent_board still);
    }

    -- a cell of another core
    pub other_cell : (i : ℕ) → (i ≡ c → ⊥) → get_or pl' i 0 ≡ get_or pl i 0
    other_cell i ne = ap (λ y. get_or y i 0) s.plain ∙ get_or-set_other pl c i (ticks_cell pl c - j) 0 ne

    own_cell : ticks_cell pl' c ≡ ticks_cell pl c - j
    own_cell = let l = h.long in ap (λ y. get_or y c 0) s.plain ∙ get_or-set_same pl c (ticks_cell pl c - j) 0 (omega arith)

    -- and the others' turns stay plain
    pub spent_counted : Counted (timing_by p o t x) (board_of ls' os ss hs ws) (done_in k') pl'
    spent_counted = record {
      long = ap length s.plain ∙ length-set pl c (ticks_cell pl c - j) ∙ h.long;
      core = λ i l.
          ⊎_elim (λ z. subst (λ y. CountedAt T b' (done_in k') pl' y) (sym z) own) (λ ne. other i l ne) (same_or_not i c);
      pick = λ i l.
          let u : vcpu_cell pl' i ≡ vcpu_cell pl i = other_cell (4 + i) (λ z. omega arith) in
          let w : task_cell pl' i ≡ task_cell pl i = other_cell (8 + i) (λ z. omega arith) in
          λ m. rw (u, w) (picked_alike (spent_alike plain_now spent_is (omega arith) long) i ∙ h.pick i l (omega arith));
    }
      where
        T : Timing
        T = timing_by p o t x

        b' : Board
        b' = board_of ls' os ss hs ws

        long : length (done_in k) ≡ max_v * most_n
        long = g.running.done_long

        own : CountedAt T b' (done_in k') pl' c
        own l =
            let e : ticks_cell pl c ≡ j + (ticks_cell pl c - j) = omega arith in
            let q = plain_later long (subst (λ y. Plain T c (board_of ls os ss hs ws) (done_in k) (vcpu_cell pl c) (task_cell pl c) y) e plain_all) spent_is in
            let u : vcpu_cell pl' c ≡ vcpu_cell pl c = other_cell (4 + c) (λ z. omega arith) in
            let w : task_cell pl' c ≡ task_cell pl c = other_cell (8 + c) (λ z. omega arith) in
            rw (u, w, own_cell) q

        other : (i : ℕ) → i ≤ 3 → (i ≡ c → ⊥) → CountedAt T b' (done_in k') pl' i
        other i l ne =
            let y : ticks_cell pl' i ≡ ticks_cell pl i = other_cell i ne in
            let u : vcpu_cell pl' i ≡ vcpu_cell pl i = other_cell (4 + i) (λ z. omega arith) in
            let w : task_cell pl' i ≡ task_cell pl i = other_cell (8 + i) (λ z. omega arith) in
            λ m. rw (u, w, y) (plain_other ne long (h.core i l (omega arith)) plain_now (omega arith) spent_is)

-- ONE TICK of it is core c's turn
pub spent_turn : {p : Policy} {o : OverrunChoice} {t x ls os : List ℕ} {ss : List Bool} {hs ws k pl : List ℕ} (g : Going p o t x ls os ss hs ws k)
    (h : Counted (timing_by p o t x) (board_of ls os ss hs ws) (done_in k) pl) {c : ℕ} → c ≤ 3 → 0 < ticks_cell pl c → {ls' k' pl' : List ℕ} → Spending p c 1 ls k pl ls' k' pl' →
    run_in ls' os ss hs ws k' ≡ after_turn (timing_by p o t x) c (run_in ls os ss hs ws k)
spent_turn {p} {o} {t} {x} {ls} {os} {ss} {hs} {ws} {k} {pl} g h {c} l m s =
    sym (plain_turn g.paced g.running (subst (λ y. Plain (timing_by p o t x) c (board_of ls os ss hs ws) (done_in k) (vcpu_cell pl c) (task_cell pl c) y) {x = 1} {y = suc 0} (omega arith) (plain_now g h l (omega arith) (omega arith)))
    (spent_is g h l (omega arith) (omega arith) s))

-- THE CODE'S VALUES
pub more_none : (k : List ℕ) (v n j : ℕ) → v ≡ 0 → k ≡ kept_after k v n j
more_none k v n j z = rw (eq-eqb v 0 z)

pub more_some : (k : List ℕ) (v n j : ℕ) {i y s : ℕ} → (v ≡ 0 → ⊥) → s ≡ seat v n → i ≡ 163 + s → y ≡ get_or k i 0 + j → set k i y ≡ kept_after k v n j
more_some k v n j {i} {y} {s} nz e f h =
    let z : i ≡ 163 + seat v n = omega arith in
    ap₂ (λ a b. set k a b) z (h ∙ ap (λ a. get_or k a 0 + j) z) ∙ sym (rw (ne_eqb v 0 nz))

pub spending_is : {p : Policy} {c j v n r i y : ℕ} {ls k pl ls₁ ls' k' : List ℕ} → Spendable p c j ls k pl → v ≡ vcpu_cell pl c → n ≡ task_cell pl c → Idles p k c r → Lost ls r j ls₁ → ls' ≡ lost_own ls₁ v j →
    k' ≡ kept_after k v n j → i ≡ c → y ≡ get_or pl i 0 - j → Spending p c j ls k pl ls' k' (set pl i y)
spending_is {p} {c} {j} {v} {n} {r} {i} {y} {ls} {k} {pl} {ls₁} {ls'} {k'} s e f a b own m z w = record {
  lost = lost_all a b s.v_to s.left_long (λ l. s.busy l r a) (own ∙ ap (λ u. lost_own ls₁ u j) e);
  marks = m ∙ ap₂ (λ u q. kept_after k u q j) e f;
  plain = ap₂ (λ u q. set pl u q) z (w ∙ ap (λ u. get_or pl u 0 - j) z);
}

pub put_needs : {p : Policy} {c j v n : ℕ} {ls k pl : List ℕ} → Spendable p c j ls k pl → v ≡ vcpu_cell pl c → n ≡ task_cell pl c → Sized k × (v ≤ 16) × (n ≤ 8) × (0 < v → done_cell k v n + j ≤ 17000000)
put_needs {p} {c} {j} {v} {n} {ls} {k} {pl} s e f =
    let a = s.v_to in
    let b = s.n_to in
    (s.sized, omega arith, omega arith, λ l. subst₂ (λ u q. done_cell k u q + j ≤ 17000000) (sym e) (sym f) (s.done_to (omega arith)))
