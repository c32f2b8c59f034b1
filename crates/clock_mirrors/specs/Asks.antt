-- After `ask`: the task waits, or holds the mutex.
use Rattle.std.specs.Prelude.{ℕ, List, Bool, true, ◌&&◌, Ok, Err}
use Rattle.std.proofs.Math.Path.{◌≡◌, refl, sym, ap}
use Rattle.std.proofs.Common.{subst, ◌∙◌, arith}
use Rattle.std.proofs.Math.Bool.{false}
use borrow.Author.Tests.{ne_eqb}
use Rattle.std.proofs.Math.Dec.{eqb, ltb}
use Rattle.std.specs.Prelude.{if◌then◌else◌}
use Rattle.laws.specs.BoolLaws.{miss_right, is_true, is_false}
use Rattle.plan.specs.Refusals.{Fault}
use Rattle.board_rules.specs.Facts.{Facts}
use Rattle.board_rules.specs.declared.Board.{Board}
use Rattle.board_rules.specs.declared.Event.TheVariants.{Ask}
use Rattle.board_rules.specs.declared.BoardAnswer.TheVariants.{Granted, Waits}
use Rattle.board_rules.specs.declared.Outcome.{Outcome}
use Rattle.board_rules.specs.Board.{seat, holder_of, wait_of, holds_global, held_global, held_local, with_holder, with_wait, settled, may_have, asked, answered, ask_fault, step, good}
use Rattle.board_rules.specs.Names.{seat_one, seat_some}
use Rattle.board_rules.specs.Change.{holder_else, wait_else}
use Rattle.board_rules.specs.Settle.{GlobalHold}
use Rattle.board_keeps.specs.Fair.{Fair, InV, InN, InM, sheet_v, sheet_n, sheet_m}
use Rattle.board_keeps.specs.Shaped.{Shaped}
use Rattle.board_keeps.specs.Change.{holder_new, wait_new}
use Rattle.board_keeps.specs.Good.{good_sound, good_marked}
use Rattle.board_keeps.specs.Faults.{ask_clear, may_free}
use Rattle.board_keeps.proofs.Keeps.{step_keeps}
use Rattle.clock_rules.specs.Clock.{Timing}
use Rattle.clock_marks.specs.Marks.{at_holding, done_cell, global_mark, held_by, Mirrors}
use Rattle.clock_marks.specs.Changes.{PutIn, PutReady, PutHeld}
use Rattle.clock_steps.specs.InStep.{holds_same, all_seats}
use Rattle.clock_steps.specs.Taken.{ask_granted, ask_waits}
use Rattle.clock_mirrors.specs.Tells.{Says, ready_with, read_on, tells_mirror, mirrors_tell, put, put_is, put_at_is}
use Rattle.clock_mirrors.specs.Writes.{with_ready, with_held, tells_holding, tells_ready, tells_held}
use Rattle.clock_mirrors.specs.Holds.{held_same, held_none, held_some, holding_same, holding_some, mark_same}
use Rattle.clock_mirrors.specs.Supplies.{spared_alike}

-- WHAT AN ANSWER SAYS
module _ (F : Facts) (b : Board) (v n m : ℕ) where
  -- one that is no refusal
  granted_clear : (step F b (Ask v n m)).answer ≡ Granted → ask_fault F b v n m ≡ Ok tt
  unfolding step
  granted_clear a = at_fault (ask_fault F b v n m) a
    where
      at_fault : (r : Fault) → (answered b r (asked F b v n m)).answer ≡ Granted → r ≡ Ok tt
      at_fault (Ok tt) a = refl
      at_fault (Err r) a = absurd (let z : ◌≡◌ {A = ℕ} 0 1 = cc in omega arith)

  -- the other one
  waits_clear : (step F b (Ask v n m)).answer ≡ Waits → ask_fault F b v n m ≡ Ok tt
  unfolding step
  waits_clear a = at_fault (ask_fault F b v n m) a
    where
      at_fault : (r : Fault) → (answered b r (asked F b v n m)).answer ≡ Waits → r ≡ Ok tt
      at_fault (Ok tt) a = refl
      at_fault (Err r) a = absurd (let z : ◌≡◌ {A = ℕ} 0 1 = cc in omega arith)

  -- the task may have m where it gets it
  pub granted_may : (step F b (Ask v n m)).answer ≡ Granted → may_have F b v n m ≡ true
  granted_may a =
      is_true (may_have F b v n m) (λ h.
      let e : Waits ≡ Granted = sym (ap (λ (o : Outcome). o.answer) (ask_waits F b v n m (granted_clear a) h)) ∙ a in let z : ◌≡◌ {A = ℕ} 0 1 = cc in omega arith)

  -- and may not where it waits
  pub waits_may : (step F b (Ask v n m)).answer ≡ Waits → may_have F b v n m ≡ false
  waits_may a =
      is_false (may_have F b v n m) (λ h.
      let e : Granted ≡ Waits = sym (ap (λ (o : Outcome). o.answer) (ask_granted F b v n m (waits_clear a) h)) ∙ a in let z : ◌≡◌ {A = ℕ} 0 1 = cc in omega arith)

-- v is put into the set at i, where t holds
abbrev pub PutWhere : Bool → List ℕ → List ℕ → ℕ → ℕ → Type 0
PutWhere true k k' i v = PutIn k k' i v true
PutWhere false k k' i v = k' ≡ k

module _ {T : Timing} {x : List ℕ} {b : Board} {k : List ℕ} (mir : Mirrors T x b k) (f : Fair T.facts) (s : Shaped b) (g : good T.facts b ≡ true) (v n m : ℕ) where
  -- THE TASK WAITS
  wait_says : InV v → InN n → (m ≡ 0 → ⊥) → Says T x (settled T.facts (with_wait b v n m)) (with_ready (read_on T b k) v n false)
  unfolding settled holds_global held_global held_local
  wait_says i j nz = record {
    core = λ c w a e. refl;
    budget = λ w e. refl;
    spare = λ w e. spared_alike T b (settled T.facts (with_wait b v n m)) w (mark_same T.facts b (with_wait b v n m) w e (good_marked T.facts b g) refl refl (λ r. r)) refl;
    holding = λ w e. refl;
    ready = put_at_is (λ w y. ready_with T b w y (done_cell k w y)) (λ w y. ready_with T (with_wait b v n m) w y (done_cell k w y)) v n false
        (sym (miss_right (T.facts.has_task v n && ltb (done_cell k v n) (T.lengths v n)) (eqb (wait_of (with_wait b v n m) v n) 0) (ap (λ z. eqb z 0) (wait_new s v n m i j) ∙ ne_eqb m 0 nz)))
        (λ w y a c ne. ap (λ z. (T.facts.has_task w y && ltb (done_cell k w y) (T.lengths w y)) && eqb z 0) (sym (wait_else b v n m w y i j a c (λ e. ne (seat_one w y v n a c i j e)))));
    held = λ w y a c. refl;
    placed = mir.placed;
  }

  -- the list with it
  pub wait_mirrors : {k' : List ℕ} → (step T.facts b (Ask v n m)).answer ≡ Waits → PutReady k k' v n false → Mirrors T x (step T.facts b (Ask v n m)).board k'
  wait_mirrors {k'} a p =
      let F = T.facts in
      let e = waits_clear F b v n m a in
      let l = (ask_clear F b v n m e).listed in
      let i = sheet_v f v n m l in
      subst (λ (o : Outcome). Mirrors T x o.board k') (sym (ask_waits F b v n m e (waits_may F b v n m a)))
      (tells_mirror (tells_ready (mirrors_tell mir) i p) (wait_says i (sheet_n f v n m l) (λ z. let q = (sheet_m f v n m l).from in omega arith)))

  -- THE TASK HOLDS m, which was free, and held none
  module _ (e : ask_fault T.facts b v n m ≡ Ok tt) (h : may_have T.facts b v n m ≡ true) where
    -- the board before it is settled
    abbrev given : Board
    given = with_holder b m (seat v n)

    -- and after
    abbrev after : Board
    after = settled T.facts given

    -- its sheet lists m
    listed : T.facts.lists v n m ≡ true
    listed = (ask_clear T.facts b v n m e).listed

    -- so the names are in range
    v_in : InV v
    v_in = sheet_v f v n m listed

    -- the task's
    n_in : InN n
    n_in = sheet_n f v n m listed

    -- the mutex's
    m_in : InM m
    m_in = sheet_m f v n m listed

    -- m was free
    was_free : holder_of b m ≡ 0
    was_free = may_free f b v n m listed m_in ((ask_clear T.facts b v n m e).no_hold m m_in) h

    -- the board stays good
    after_good : good T.facts after ≡ true
    after_good = subst (λ (o : Outcome). good T.facts o.board ≡ true) (ask_granted T.facts b v n m e h) (step_keeps f s g (Ask v n m))

    -- what it holds
    given_own : held_by T.facts after v n ≡ (if T.facts.global m then global_mark else m)
    given_own = held_some T.facts after v n f (good_sound T.facts after after_good).holding m v_in n_in m_in (unfold settled in holder_new s m (seat v n) m_in)

    -- what the others hold
    given_else : (w y : ℕ) → InV w → InN y → ((w ≡ v) × (y ≡ n) → ⊥) → held_by T.facts after w y ≡ held_by T.facts b w y
    unfolding settled
    given_else w y a c ne =
        held_same T.facts b after w y
        (holds_same {H = holder_of b} {H' = holder_of given} m w y (λ z d q. holder_else b m (seat v n) z m_in d q) (λ z. seat_some w y c (sym z ∙ was_free))
        (λ z. ne (seat_one w y v n a c v_in n_in (sym z ∙ holder_new s m (seat v n) m_in))))

    -- whose VCPU holds a global mutex
    given_holding : (w : ℕ) → InV w → (w ≡ v → ⊥) → holds_global T.facts after w ≡ holds_global T.facts b w
    given_holding w a ne = holding_same T.facts b after w (λ y c. ap (λ z. eqb z global_mark) (given_else w y a c (λ q. ne q.0)))

    -- with a local mutex nobody's changes
    local_holding : T.facts.global m ≡ false → (w : ℕ) → InV w → holds_global T.facts after w ≡ holds_global T.facts b w
    local_holding q w a = holding_same T.facts b after w (λ y c. all_seats (λ w y. eqb (held_by T.facts after w y) global_mark ≡ eqb (held_by T.facts b w y) global_mark) v n v_in n_in own (λ w y a c ne. ap (λ z. eqb z global_mark) (given_else w y a c (λ r. ne (ap (λ z. seat z y) r.0 ∙ ap (seat v) r.1)))) w y a c)
      where
        own : eqb (held_by T.facts after v n) global_mark ≡ eqb (held_by T.facts b v n) global_mark
        own =
            ap (λ z. eqb z global_mark) (given_own ∙ ap (λ (t : Bool). if t then global_mark else m) q) ∙ ne_eqb m global_mark (λ z. let y = m_in.to in omega arith)
            ∙ sym (ap (λ z. eqb z global_mark) (held_none T.facts b v n (ask_clear T.facts b v n m e).no_hold))

    -- a VCPU keeps the global mutexes that it held
    given_keeps : (w : ℕ) → GlobalHold T.facts (holder_of b) w → GlobalHold T.facts (holder_of given) w
    given_keeps w r = record {
      m = r.m;
      n = r.n;
      m_in = r.m_in;
      n_in = r.n_in;
      is_global_law = r.is_global_law;
      held = holder_else b m (seat v n) r.m m_in r.m_in (λ q. seat_some w r.n r.n_in (sym r.held ∙ ap (holder_of b) q ∙ was_free)) ∙ r.held;
    }

    -- what the board says, whoever is said to hold a global mutex
    given_says : (G : ℕ → Bool) → ((w : ℕ) → InV w → G w ≡ holds_global T.facts after w) →
        Says T x after (let r = with_held (read_on T b k) v n (if T.facts.global m then global_mark else m) in record { core = r.core; budget = r.budget; spare = r.spare; holding = G; ready = r.ready; held = r.held; done = r.done; place = r.place })
    unfolding settled
    given_says G hg = record {
      core = λ c w a q. refl;
      budget = λ w a. refl;
      spare = λ w a. spared_alike T b after w (mark_same T.facts b given w a (good_marked T.facts b g) refl refl (given_keeps w)) refl;
      holding = hg;
      ready = λ w y a c. refl;
      held = put_at_is (λ w y. held_by T.facts b w y) (λ w y. held_by T.facts after w y) v n (if T.facts.global m then global_mark else m) (sym given_own) (λ w y a c ne. sym (given_else w y a c ne));
      placed = mir.placed;
    }

    -- the list with it
    given_mirrors : {k₁ k' : List ℕ} (t : Bool) → T.facts.global m ≡ t → PutHeld k k₁ v n (if T.facts.global m then global_mark else m) → PutWhere t k₁ k' at_holding v → Mirrors T x after k'
    given_mirrors true q p r =
        tells_mirror (tells_holding (tells_held (mirrors_tell mir) v_in n_in p) r)
        (given_says (put (λ w. holds_global T.facts b w) v true) (put_is (λ w. holds_global T.facts b w) (λ w. holds_global T.facts after w) v true
        (sym (holding_some T.facts after v n n_in (given_own ∙ ap (λ (t : Bool). if t then global_mark else m) q))) (λ w a ne. sym (given_holding w a ne))))
    given_mirrors {k₁} {k'} false q p r =
        subst (λ y. Mirrors T x after y) (sym r)
        (tells_mirror (tells_held (mirrors_tell mir) v_in n_in p) (given_says (λ w. holds_global T.facts b w) (λ w a. sym (local_holding q w a))))

  -- `ask v n m` that is granted
  pub grant_mirrors : {k₁ k' : List ℕ} → (step T.facts b (Ask v n m)).answer ≡ Granted → PutHeld k k₁ v n (if T.facts.global m then global_mark else m) → PutWhere (T.facts.global m) k₁ k' at_holding v →
      Mirrors T x (step T.facts b (Ask v n m)).board k'
  grant_mirrors {k₁} {k'} a p r =
      let F = T.facts in
      let e = granted_clear F b v n m a in
      let h = granted_may F b v n m a in
      subst (λ (o : Outcome). Mirrors T x o.board k') (sym (ask_granted F b v n m e h)) (given_mirrors e h (F.global m) refl p r)
