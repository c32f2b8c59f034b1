-- After `free`: the task holds none, its VCPU's supply may have changed, and the next holder has what it waited for.
use Rattle.std.specs.Prelude.{ℕ, ◌-◌, ◌≡◌, refl, List, Bool, true, ◌&&◌, eqb, ltb, get_or}
use Rattle.std.proofs.Common.{sym, ap, subst, ◌∙◌, ⊎_elim, arith, eqb-true, lt-ltb, eq-eqb, ne_eqb}
use Rattle.std.proofs.Math.Bool.{and-true}
use Rattle.std.specs.Prelude.{if◌then◌else◌}
use Rattle.laws.specs.BoolLaws.{both, both_left, both_right, same_or_not}
use Rattle.board_rules.specs.Facts.{Facts}
use Rattle.board_rules.specs.declared.Board.{Board}
use Rattle.board_rules.specs.declared.Event.TheVariants.{Free}
use Rattle.board_rules.specs.declared.Next.{Next}
use Rattle.board_rules.specs.declared.Next.TheVariants.{Nobody, To}
use Rattle.board_rules.specs.declared.BoardAnswer.TheVariants.{Freed}
use Rattle.board_rules.specs.Board.{seat, left_of, over_of, is_stopped, wait_of, holds_global, step, good}
use Rattle.board_rules.specs.Names.{seat_one}
use Rattle.board_keeps.specs.Fair.{Fair, InV, InN, task_v}
use Rattle.board_keeps.specs.Shaped.{Shaped}
use Rattle.board_keeps.specs.Good.{good_sound}
use Rattle.board_keeps.specs.Faults.{free_clear}
use Rattle.board_keeps.proofs.Keeps.{step_keeps}
use Rattle.clock_rules.specs.Clock.{Timing, done_of, is_unfinished, is_ready}
use Rattle.clock_marks.specs.Marks.{at_holding, held_cell, done_cell, done_in, global_mark, spares, held_by, Mirrors}
use Rattle.clock_marks.specs.Changes.{PutIn, PutReady, PutHeld}
use Rattle.clock_paced.specs.Paced.{Paced}
use Rattle.clock_steps.specs.Done.{by_seat_law}
use Rattle.clock_steps.specs.Running.{Running}
use Rattle.clock_mirrors.specs.Tells.{Reading, Says, ready_with, read_on, tells_mirror, mirrors_tell, put, put_at, put_is, put_at_is}
use Rattle.clock_mirrors.specs.Writes.{with_budget, with_spare, with_holding, with_ready, with_held, tells_holding, tells_ready, tells_held}
use Rattle.clock_mirrors.specs.Holds.{held_same, held_none, held_some, holding_same}
use Rattle.clock_mirrors.specs.Supplies.{SupplyBut, PutSupplyOf, event_supply, tells_supply, says_budget, says_spare}
use Rattle.clock_mirrors.specs.FreeBoards.{Freeing, FreedTo, FreedFor, freed_clear, free_board}

-- TWO CHANGES, at v after w
put_two : {A : Type 0} (f g : ℕ → A) (w v : ℕ) (a c : A) → a ≡ g w → c ≡ g v → ((u : ℕ) → InV u → (u ≡ v → ⊥) → (u ≡ w → ⊥) → f u ≡ g u) → (u : ℕ) → InV u → put (put f w a) v c u ≡ g u
put_two f g w v a c ea ec rest =
    put_is (put f w a) g v c ec (λ u i ne. ⊎_elim (λ e. rw (eq-eqb u w e) (ea ∙ ap g (sym e))) (λ d. rw (ne_eqb u w d) (rest u i ne d)) (same_or_not u w))

-- at task (w, y) after (v, n)
put_at_two : {A : Type 0} (f g : ℕ → ℕ → A) (v n w y : ℕ) (a c : A) → a ≡ g v n → c ≡ g w y →
    ((u z : ℕ) → InV u → InN z → ((u ≡ v) × (z ≡ n) → ⊥) → ((u ≡ w) × (z ≡ y) → ⊥) → f u z ≡ g u z) → (u z : ℕ) → InV u → InN z → put_at (put_at f v n a) w y c u z ≡ g u z
put_at_two f g v n w y a c ea ec rest =
    put_at_is (put_at f v n a) g w y c ec (λ u z i j ne.
    ⊎_elim
    (λ e. ⊎_elim (λ q. rw (eq-eqb u v e, eq-eqb z n q) (ea ∙ ap (λ h. g h n) (sym e) ∙ ap (g u) (sym q))) (λ d. rw (eq-eqb u v e, ne_eqb z n d) (rest u z i j (λ r. d r.1) ne)) (same_or_not z n))
    (λ d. rw (ne_eqb u v d) (rest u z i j (λ r. d r.0) ne)) (same_or_not u v))

-- what is said of budgets and overruns where the board b' says it of v
abbrev with_supply : Timing → Board → Reading → ℕ → Reading
with_supply T b' r v = with_spare (with_budget r v (ltb 0 (left_of b' v))) v (spares T.facts.choice (is_stopped b' v) (over_of b' v))

module _ {T : Timing} {x : List ℕ} {b b' : Board} {k : List ℕ} (mir : Mirrors T x b k) (v n : ℕ) (i : InV v) (j : InN n) (but : SupplyBut v b b') where
  -- NOBODY IS NEXT
  module _ (r : Freeing b b' v n (λ u z. ⊥)) where
    -- what the others hold
    alone_held : (u z : ℕ) → InV u → InN z → ((u ≡ v) × (z ≡ n) → ⊥) → held_by T.facts b' u z ≡ held_by T.facts b u z
    alone_held u z a c ne = held_same T.facts b b' u z (r.others_hold u z a c (λ e. ne (seat_one u z v n a c i j e)) (λ y. y))

    -- what the board says
    alone_says : Says T x b' (with_supply T b' (with_holding (with_held (read_on T b k) v n 0) v (holds_global T.facts b' v)) v)
    alone_says = record {
      core = λ c u l a. refl;
      budget = says_budget T v but;
      spare = says_spare T v but;
      holding = put_is (λ u. holds_global T.facts b u) (λ u. holds_global T.facts b' u) v (holds_global T.facts b' v) refl
          (λ u a ne. sym (holding_same T.facts b b' u (λ z c. ap (λ h. eqb h global_mark) (alone_held u z a c (λ e. ne e.0)))));
      ready = λ u z a c. ap (λ h. (T.facts.has_task u z && ltb (done_cell k u z) (T.lengths u z)) && eqb h 0) (sym (r.others_wait u z a c (λ y. y)));
      held = put_at_is (λ u z. held_by T.facts b u z) (λ u z. held_by T.facts b' u z) v n 0 (sym (held_none T.facts b' v n r.own_free)) (λ u z a c ne. sym (alone_held u z a c ne));
      placed = mir.placed;
    }

    -- the list with it
    alone_mirrors : {k₁ k₂ k' : List ℕ} → PutHeld k k₁ v n 0 → PutIn k₁ k₂ at_holding v (holds_global T.facts b' v) → PutSupplyOf T b' v k₂ k' → Mirrors T x b' k'
    alone_mirrors p q s = tells_mirror (tells_supply (tells_holding (tells_held (mirrors_tell mir) i j p) q) s) alone_says

  -- (w, y) IS NEXT
  module _ (m w y : ℕ) (r : FreedTo T.facts b b' v n m w y) where
    -- what the others hold
    rest_held : (u z : ℕ) → InV u → InN z → ((u ≡ v) × (z ≡ n) → ⊥) → ((u ≡ w) × (z ≡ y) → ⊥) → held_by T.facts b' u z ≡ held_by T.facts b u z
    rest_held u z a c ne d =
        held_same T.facts b b' u z (r.freeing.others_hold u z a c (λ e. ne (seat_one u z v n a c i j e)) (λ e. d (seat_one u z w y a c r.v_in r.n_in e)))

    -- it waits no more, so that it is ready if its job is unfinished
    next_ready : is_unfinished T (done_in k) w y ≡ ready_with T b' w y (done_cell k w y)
    next_ready =
        ap (λ d. T.facts.has_task w y && ltb d (T.lengths w y)) (by_seat_law (λ u z. done_cell k u z) w y r.v_in r.n_in)
        ∙ sym (and-true (T.facts.has_task w y && ltb (done_cell k w y) (T.lengths w y)))
        ∙ ap (λ (t : Bool). (T.facts.has_task w y && ltb (done_cell k w y) (T.lengths w y)) && t) (sym (eq-eqb (wait_of b' w y) 0 r.waits_none))

    -- what the board says
    handed_says : Says T x b' (with_supply T b' (with_holding (with_holding (with_ready (with_held (with_held (read_on T b k) v n 0) w y (held_by T.facts b' w y)) w y (is_unfinished T (done_in k) w y))
        w (holds_global T.facts b' w)) v (holds_global T.facts b' v)) v)
    handed_says = record {
      core = λ c u l a. refl;
      budget = says_budget T v but;
      spare = says_spare T v but;
      holding = put_two (λ u. holds_global T.facts b u) (λ u. holds_global T.facts b' u) w v (holds_global T.facts b' w) (holds_global T.facts b' v) refl refl
          (λ u a ne d. sym (holding_same T.facts b b' u (λ z c. ap (λ h. eqb h global_mark) (rest_held u z a c (λ e. ne e.0) (λ e. d e.0)))));
      ready = put_at_is (λ u z. ready_with T b u z (done_cell k u z)) (λ u z. ready_with T b' u z (done_cell k u z)) w y (is_unfinished T (done_in k) w y) next_ready
          (λ u z a c ne. ap (λ h. (T.facts.has_task u z && ltb (done_cell k u z) (T.lengths u z)) && eqb h 0) (sym (r.freeing.others_wait u z a c (λ e. ne (seat_one u z w y a c r.v_in r.n_in e)))));
      held = put_at_two (λ u z. held_by T.facts b u z) (λ u z. held_by T.facts b' u z) v n w y 0 (held_by T.facts b' w y) (sym (held_none T.facts b' v n r.freeing.own_free)) refl
          (λ u z a c ne d. sym (rest_held u z a c ne d));
      placed = mir.placed;
    }

    -- the list with it
    handed_mirrors : {k₁ k₂ k₃ k₄ k₅ k' : List ℕ} → PutHeld k k₁ v n 0 → PutHeld k₁ k₂ w y (held_by T.facts b' w y) → PutReady k₂ k₃ w y (is_unfinished T (done_in k) w y) →
        PutIn k₃ k₄ at_holding w (holds_global T.facts b' w) → PutIn k₄ k₅ at_holding v (holds_global T.facts b' v) → PutSupplyOf T b' v k₅ k' → Mirrors T x b' k'
    handed_mirrors p₁ p₂ p₃ p₄ p₅ s =
        tells_mirror (tells_supply (tells_holding (tells_holding (tells_ready (tells_held (tells_held (mirrors_tell mir) i j p₁) r.v_in r.n_in p₂) r.v_in p₃) p₄) p₅) s) handed_says

-- what is written for the next holder of board b': what it holds, that it may be ready, that its VCPU may hold a global mutex
pub record PutNextHolder (T : Timing) (b' : Board) (d : List ℕ) (w y : ℕ) (k k' : List ℕ) : Type 0 where
  pub with_held_law : List ℕ
  pub with_ready_law : List ℕ
  pub held : PutHeld k with_held_law w y (held_by T.facts b' w y)
  pub ready : PutReady with_held_law with_ready_law w y (is_unfinished T d w y)
  pub holding : PutIn with_ready_law k' at_holding w (holds_global T.facts b' w)

-- nothing where there is none
abbrev pub PutNext : Timing → Board → List ℕ → Next → List ℕ → List ℕ → Type 0
PutNext T b' d Nobody k k' = k' ≡ k
PutNext T b' d (To w y) k k' = PutNextHolder T b' d w y k k'

-- the board after `free v n m`
abbrev pub freed_board : Timing → Board → ℕ → ℕ → ℕ → Board
freed_board T b v n m = (step T.facts b (Free v n m)).board

-- `free v n m`
module _ {T : Timing} {x : List ℕ} {b : Board} {k : List ℕ} (mir : Mirrors T x b k) (f : Fair T.facts) (s : Shaped b) (g : good T.facts b ≡ true) (v n m : ℕ) where
  -- the names are in range
  free_v : (next : Next) → (step T.facts b (Free v n m)).answer ≡ Freed next → InV v
  free_v next a = task_v f v n (free_clear T.facts b v n m (freed_clear f s g v n m next a)).task

  -- the task's
  free_n : (next : Next) → (step T.facts b (Free v n m)).answer ≡ Freed next → InN n
  free_n next a = f.task_in_law v n (free_clear T.facts b v n m (freed_clear f s g v n m next a)).task

  -- with nobody next: what the task held, then the mutexes and the supply of its VCPU
  pub free_nobody_mirrors : {k₁ k₂ k' : List ℕ} → (step T.facts b (Free v n m)).answer ≡ Freed Nobody → PutHeld k k₁ v n 0 → PutIn k₁ k₂ at_holding v (holds_global T.facts (freed_board T b v n m) v) →
      PutSupplyOf T (freed_board T b v n m) v k₂ k' → Mirrors T x (freed_board T b v n m) k'
  free_nobody_mirrors a p q r = alone_mirrors mir v n (free_v Nobody a) (free_n Nobody a) (event_supply f s g (Free v n m)) (free_board f s g v n m Nobody a) p q r

  -- with (w, y) next: what the task held; what (w, y) holds, that it may be ready, and the mutexes of its VCPU; the mutexes and the supply of the task's VCPU
  pub free_to_mirrors : {k₁ k₂ k₃ k₄ k₅ k' : List ℕ} (w y : ℕ) → (step T.facts b (Free v n m)).answer ≡ Freed (To w y) → PutHeld k k₁ v n 0 →
      PutHeld k₁ k₂ w y (held_by T.facts (freed_board T b v n m) w y) → PutReady k₂ k₃ w y (is_unfinished T (done_in k) w y) → PutIn k₃ k₄ at_holding w (holds_global T.facts (freed_board T b v n m) w) →
      PutIn k₄ k₅ at_holding v (holds_global T.facts (freed_board T b v n m) v) → PutSupplyOf T (freed_board T b v n m) v k₅ k' → Mirrors T x (freed_board T b v n m) k'
  free_to_mirrors w y a p₁ p₂ p₃ p₄ p₅ r =
      handed_mirrors mir v n (free_v (To w y) a) (free_n (To w y) a) (event_supply f s g (Free v n m)) m w y (free_board f s g v n m (To w y) a) p₁ p₂ p₃ p₄ p₅ r

  -- whoever is next
  pub free_mirrors : {k₁ k₂ k₃ k' : List ℕ} (next : Next) → (step T.facts b (Free v n m)).answer ≡ Freed next → PutHeld k k₁ v n 0 → PutNext T (freed_board T b v n m) (done_in k) next k₁ k₂ →
      PutIn k₂ k₃ at_holding v (holds_global T.facts (freed_board T b v n m) v) → PutSupplyOf T (freed_board T b v n m) v k₃ k' → Mirrors T x (freed_board T b v n m) k'
  free_mirrors {k₁} {k₂} {k₃} Nobody a p q r t = free_nobody_mirrors a p (subst (λ y. PutIn y k₃ at_holding v (holds_global T.facts (freed_board T b v n m) v)) q r) t
  free_mirrors (To w y) a p q r t = free_to_mirrors w y a p q.held q.ready q.holding r t

  -- what the next holder holds: what it waited for, global just where m is
  pub next_held : (w y : ℕ) → (step T.facts b (Free v n m)).answer ≡ Freed (To w y) → held_by T.facts (freed_board T b v n m) w y ≡ (if T.facts.global m then global_mark else wait_of b w y)
  next_held w y a =
      let b' = freed_board T b v n m in
      let r = free_board f s g v n m (To w y) a in
      held_some T.facts b' w y f (good_sound T.facts b' (step_keeps f s g (Free v n m))).holding (wait_of b w y) r.v_in r.n_in r.got_in r.got
      ∙ ap (λ (t : Bool). if t then global_mark else wait_of b w y) r.alike

  -- the cells of what each task holds are right when the task's own, and the next holder's, are written: they say whose VCPU holds a global mutex (`holding_read`)
  pub free_nobody_cells : {k₁ : List ℕ} → (step T.facts b (Free v n m)).answer ≡ Freed Nobody → PutHeld k k₁ v n 0 →
      (u z : ℕ) → InV u → InN z → held_cell k₁ u z ≡ held_by T.facts (freed_board T b v n m) u z
  free_nobody_cells a p u z c d =
      let i = free_v Nobody a in
      let j = free_n Nobody a in
      (tells_held (mirrors_tell mir) i j p).helds u z c d ∙ (alone_says mir v n i j (event_supply f s g (Free v n m)) (free_board f s g v n m Nobody a)).held u z c d

  -- with (w, y) next
  pub free_to_cells : {k₁ k₂ : List ℕ} (w y : ℕ) → (step T.facts b (Free v n m)).answer ≡ Freed (To w y) → PutHeld k k₁ v n 0 → PutHeld k₁ k₂ w y (held_by T.facts (freed_board T b v n m) w y) →
      (u z : ℕ) → InV u → InN z → held_cell k₂ u z ≡ held_by T.facts (freed_board T b v n m) u z
  free_to_cells w y a p q u z c d =
      let i = free_v (To w y) a in
      let j = free_n (To w y) a in
      let r = free_board f s g v n m (To w y) a in
      (tells_held (tells_held (mirrors_tell mir) i j p) r.v_in r.n_in q).helds u z c d ∙ (handed_says mir v n i j (event_supply f s g (Free v n m)) m w y r).held u z c d

-- who was ready is ready
module _ (T : Timing) {b : Board} (f : Fair T.facts) (s : Shaped b) (g : good T.facts b ≡ true) (v n m : ℕ) where
  -- waits of a task that waits for none
  free_waits : (u z : ℕ) → InV u → InN z → wait_of b u z ≡ 0 → (next : Next) → FreedFor T.facts b (freed_board T b v n m) v n m next → wait_of (freed_board T b v n m) u z ≡ 0
  free_waits u z a c e Nobody r = r.others_wait u z a c (λ y. y) ∙ e
  free_waits u z a c e (To w y) r =
      ⊎_elim (λ q. ap (λ h. get_or (freed_board T b v n m).waits (h - 1) 0) q ∙ r.waits_none) (λ ne. r.freeing.others_wait u z a c ne ∙ e) (same_or_not (seat u z) (seat w y))

  -- whoever is next
  pub free_still_ready : (d : List ℕ) (next : Next) → (step T.facts b (Free v n m)).answer ≡ Freed next → (u z : ℕ) → InV u → InN z → is_ready T b d u z ≡ true → is_ready T (freed_board T b v n m) d u z ≡ true
  free_still_ready d next a u z i j e =
      both (is_unfinished T d u z) (eqb (wait_of (freed_board T b v n m) u z) 0) (both_left (is_unfinished T d u z) (eqb (wait_of b u z) 0) e)
      (eq-eqb (wait_of (freed_board T b v n m) u z) 0 (free_waits u z i j (eqb-true (wait_of b u z) 0 (both_right (is_unfinished T d u z) (eqb (wait_of b u z) 0) e)) next (free_board f s g v n m next a)))

-- a task that waits has an unfinished job: so has the next holder
pub waiter_unfinished : {T : Timing} → Paced T → {b : Board} {d : List ℕ} → Running T b d → (w y : ℕ) → InV w → InN y → (wait_of b w y ≡ 0 → ⊥) → is_unfinished T d w y ≡ true
waiter_unfinished {T} p {b} {d} g w y i j nz =
    let e = (g.in_step w y i j).waits_at nz in
    let q = (p.begun w y (done_of d w y) (λ z. nz (sym e ∙ z))).section in
    let l = q.forward in
    let h = q.not_beyond in
    both (T.facts.has_task w y) (ltb (done_of d w y) (T.lengths w y)) (p.fair.sheet_task w y (T.begins w y (done_of d w y)) q.listed) (lt-ltb (done_of d w y) (T.lengths w y) (omega arith))

-- the next holder waited
pub next_waited : {F : Facts} {b : Board} → Fair F → Shaped b → good F b ≡ true → (v n m w y : ℕ) → (step F b (Free v n m)).answer ≡ Freed (To w y) →
    InV w × InN y × (wait_of b w y ≡ 0 → ⊥)
next_waited f s g v n m w y a = let r = free_board f s g v n m (To w y) a in (r.v_in, r.n_in, λ z. let h = r.got_in.from in omega arith)
