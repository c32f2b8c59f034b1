-- What `free` changes of who holds and who waits: the task holds none, and one task may have got what it waited for.
use Rattle.std.specs.Prelude.{ℕ, true, false, Ok, Err}
use Rattle.std.proofs.Math.Path.{◌≡◌, refl}
use Rattle.std.proofs.Common.{sym, ap, subst, ◌∙◌, ⊎_elim, arith}
use Rattle.laws.specs.BoolLaws.{bool_cases, same_or_not}
use Rattle.plan.specs.Refusals.{Fault}
use Rattle.board_rules.specs.Facts.{Facts}
use Rattle.board_rules.specs.declared.Board.{Board}
use Rattle.board_rules.specs.declared.Event.TheVariants.{Free}
use Rattle.board_rules.specs.declared.Next.{Next}
use Rattle.board_rules.specs.declared.Next.TheVariants.{Nobody, To}
use Rattle.board_rules.specs.declared.BoardAnswer.TheVariants.{Freed}
use Rattle.board_rules.specs.declared.Outcome.{Outcome}
use Rattle.board_rules.specs.Board.{seat, holder_of, wait_of, with_holder, settled, handed_to, granted_local, freed, answered, free_fault, step, good}
use Rattle.board_rules.specs.Names.{seat_one, seat_some}
use Rattle.board_rules.specs.Change.{holder_else, wait_else}
use Rattle.board_rules.specs.LocalNext.{LocalNext, no_waiter, top_fails, top_passes, local_next}
use Rattle.board_keeps.specs.Fair.{Fair, InV, InN, InM, task_v, sheet_m}
use Rattle.board_keeps.specs.Shaped.{Shaped, holder_shaped}
use Rattle.board_keeps.specs.Change.{holder_new, wait_new}
use Rattle.board_keeps.specs.Good.{good_sound}
use Rattle.board_keeps.specs.Locks.{Holding}
use Rattle.board_keeps.specs.Moves.{HoldersBut, WaitsBut}
use Rattle.board_keeps.specs.Nexts.{GlobalNext, none_waits, top_waiter}
use Rattle.board_keeps.proofs.NextLaws.{global_next}
use Rattle.board_keeps.specs.Faults.{free_clear, passes_free}
use Rattle.clock_steps.specs.InStep.{holds_same}
use Rattle.clock_steps.specs.Taken.{free_global, free_local}
use Rattle.clock_mirrors.specs.Holds.{SameHolds}

-- from b to b' task (v, n) loses what it held; every other task holds what it held and waits as it did, but those that `next` names
pub record Freeing (b b' : Board) (v n : ℕ) (next : ℕ → ℕ → Type 0) : Type 0 where
  pub own_free : (m : ℕ) → InM m → holder_of b' m ≡ seat v n → ⊥
  pub others_hold : (u z : ℕ) → InV u → InN z → (seat u z ≡ seat v n → ⊥) → (next u z → ⊥) → SameHolds b b' u z
  pub others_wait : (u z : ℕ) → InV u → InN z → (next u z → ⊥) → wait_of b' u z ≡ wait_of b u z

-- (w, y) alone is named: it got what it waited for, global just where what was freed is, and waits no more
pub record FreedTo (F : Facts) (b b' : Board) (v n m w y : ℕ) : Type 0 where
  pub v_in : InV w
  pub n_in : InN y
  pub freeing : Freeing b b' v n (λ u z. seat u z ≡ seat w y)
  pub waits_none : wait_of b' w y ≡ 0
  pub got_in : InM (wait_of b w y)
  pub got : holder_of b' (wait_of b w y) ≡ seat w y
  pub alike : F.global (wait_of b w y) ≡ F.global m

-- whoever is next
abbrev pub FreedFor : Facts → Board → Board → ℕ → ℕ → ℕ → Next → Type 0
FreedFor F b b' v n m Nobody = Freeing b b' v n (λ u z. ⊥)
FreedFor F b b' v n m (To w y) = FreedTo F b b' v n m w y

-- THE MUTEX IS TAKEN from (v, n), the only one that it held
module _ {F : Facts} {b : Board} (s : Shaped b) (o : Holding F (holder_of b) (wait_of b)) (v n m : ℕ) (i : InV v) (j : InN n) (l : InM m) (h : holder_of b m ≡ seat v n) where
  -- it holds none
  taken_own : (k : ℕ) → InM k → holder_of (with_holder b m 0) k ≡ seat v n → ⊥
  taken_own k a e =
      ⊎_elim (λ z. seat_some v n j (sym e ∙ ap (holder_of (with_holder b m 0)) z ∙ holder_new s m 0 l))
      (λ ne. ne (o.held_alone v n m k i j l a h (sym (holder_else b m 0 k l a ne) ∙ e))) (same_or_not k m)

  -- the others hold what they held
  taken_else : (u z : ℕ) → InN z → (seat u z ≡ seat v n → ⊥) → SameHolds b (with_holder b m 0) u z
  taken_else u z c ne =
      holds_same {H = holder_of b} {H' = holder_of (with_holder b m 0)} m u z (λ k a d. holder_else b m 0 k l a d) (λ e. ne (sym e ∙ h)) (λ e. seat_some u z c (sym e ∙ holder_new s m 0 l))

  -- nobody is next
  taken_freeing : Freeing b (with_holder b m 0) v n (λ u z. ⊥)
  taken_freeing = record { own_free = taken_own; others_hold = λ u z a c ne no-next. taken_else u z c ne; others_wait = λ u z a c no-next. refl }

  -- WHAT (w, y) WAITED FOR, k, is free then, and given to it
  module _ (b' : Board) (w y : ℕ) (p : InV w) (q : InN y) (nz : wait_of b w y ≡ 0 → ⊥) (c : InM (wait_of b w y)) (is_free : holder_of (with_holder b m 0) (wait_of b w y) ≡ 0)
      (same : HoldersBut (wait_of b w y) (holder_of b') (holder_of (with_holder b m 0))) (new : holder_of b' (wait_of b w y) ≡ seat w y)
      (none : wait_of b' w y ≡ 0) (waits : WaitsBut w y (wait_of b') (wait_of b)) (alike : F.global (wait_of b w y) ≡ F.global m) where
    -- it is another task, for who holds waits for none
    other : seat w y ≡ seat v n → ⊥
    other e = let r = seat_one w y v n p q i j e in nz (ap (λ z. wait_of b z y) r.0 ∙ ap (wait_of b v) r.1 ∙ o.holder_idle v n m i j l h)

    -- who holds and waits then
    given_freed : FreedTo F b b' v n m w y
    given_freed = record {
      v_in = p;
      n_in = q;
      freeing = record {
        own_free = λ k a e.
            ⊎_elim (λ z. other (sym new ∙ ap (holder_of b') (sym z) ∙ e)) (λ ne. taken_own k a (sym (same k a ne) ∙ e)) (same_or_not k (wait_of b w y));
        others_hold = λ u z a d ne no-next k g.
            let t = taken_else u z d ne k g in
            let r = holds_same {H = holder_of (with_holder b m 0)} {H' = holder_of b'} (wait_of b w y) u z same (λ e. seat_some u z d (sym e ∙ is_free)) (λ e. no-next (sym e ∙ new)) k g in
            (λ e. t.0 (r.0 e), λ e. r.1 (t.1 e));
        others_wait = λ u z a d no-next. waits u z a d no-next;
      };
      waits_none = none;
      got_in = c;
      got = new;
      alike = alike;
    }

-- `free v n m`
module _ {F : Facts} {b : Board} (f : Fair F) (s : Shaped b) (g : good F b ≡ true) (v n m : ℕ) where
  -- that is in order
  module _ (e : free_fault F b v n m ≡ Ok tt) where
    -- the names are in range
    v_in : InV v
    v_in = task_v f v n (free_clear F b v n m e).task

    -- the task's
    n_in : InN n
    n_in = f.task_in_law v n (free_clear F b v n m e).task

    -- the mutex's
    m_in : InM m
    m_in = f.mutex_in m (free_clear F b v n m e).mutex

    -- the task holds m
    is_held : holder_of b m ≡ seat v n
    is_held = (free_clear F b v n m e).held

    -- a task holds one mutex
    holding : Holding F (holder_of b) (wait_of b)
    holding = (good_sound F b g).holding

    -- of a global mutex
    global_freed : {x : Next} → GlobalNext b m x → FreedFor F b (handed_to b m x) v n m x
    global_freed (none_waits no_one) = taken_freeing s holding v n m v_in n_in m_in is_held
    global_freed (top_waiter w y r) =
        let b₁ = with_holder b m (seat w y) in
        let nz : wait_of b w y ≡ 0 → ⊥ = λ z. (let a = r.waited in let c = m_in.from in omega arith) in
        let same : HoldersBut m (holder_of b₁) (holder_of (with_holder b m 0)) = λ k a ne. holder_else b m (seat w y) k m_in a ne ∙ sym (holder_else b m 0 k m_in a ne) in
        given_freed s holding v n m v_in n_in m_in is_held (handed_to b m (To w y)) w y r.v_in r.n_in nz (subst InM (sym r.waited) m_in) (ap (holder_of (with_holder b m 0)) r.waited ∙ holder_new s m 0 m_in)
        (subst (λ k. HoldersBut k (holder_of b₁) (holder_of (with_holder b m 0))) (sym r.waited) same) (ap (holder_of b₁) r.waited ∙ holder_new s m (seat w y) m_in)
        (wait_new (holder_shaped m (seat w y) s) w y 0 r.v_in r.n_in) (λ u z a c ne. wait_else b₁ w y 0 u z r.v_in r.n_in a c ne) (ap F.global r.waited)

    -- of a local mutex
    local_freed : F.global m ≡ false → {x : Next} → LocalNext F (with_holder b m 0) v x → FreedFor F b (granted_local (with_holder b m 0) x) v n m x
    local_freed loc (no_waiter no_one) = taken_freeing s holding v n m v_in n_in m_in is_held
    local_freed loc (top_fails t fails top) = taken_freeing s holding v n m v_in n_in m_in is_held
    local_freed loc (top_passes t q r pass top) =
        let k = wait_of b v t in
        let b₁ = with_holder b m 0 in
        let b₂ = with_holder b₁ k (seat v t) in
        let y = holding.wait_listed v t v_in q r.some_wait in
        let c = sheet_m f v t k y in
        let is_local_law = f.local_only v k r.is_local_law in
        given_freed s holding v n m v_in n_in m_in is_held (granted_local b₁ (To v t)) v t v_in q r.some_wait c
        (passes_free f b₁ v t k y is_local_law c
        (λ z. ⊎_elim (λ u. seat_some v t q (sym z ∙ ap (holder_of b₁) u ∙ holder_new s m 0 m_in)) (λ ne. r.some_wait (holding.holder_idle v t k v_in q c (sym (holder_else b m 0 k m_in c ne) ∙ z))) (same_or_not k m)) pass)
        (λ x d ne. holder_else b₁ k (seat v t) x c d ne) (holder_new (holder_shaped m 0 s) k (seat v t) c)
        (wait_new (holder_shaped k (seat v t) (holder_shaped m 0 s)) v t 0 v_in q) (λ u z a d ne. wait_else b₂ v t 0 u z v_in q a d ne) (is_local_law ∙ sym loc)

  -- settling changes marks alone
  settled_freed : (c : Board) (x : Next) → FreedFor F b c v n m x → FreedFor F b (settled F c) v n m x
  unfolding settled
  settled_freed c Nobody r = record { own_free = r.own_free; others_hold = r.others_hold; others_wait = r.others_wait }
  settled_freed c (To w y) r = record {
    v_in = r.v_in;
    n_in = r.n_in;
    freeing = record { own_free = r.freeing.own_free; others_hold = r.freeing.others_hold; others_wait = r.freeing.others_wait };
    waits_none = r.waits_none;
    got_in = r.got_in;
    got = r.got;
    alike = r.alike;
  }

  -- an answer that is no refusal
  pub freed_clear : (x : Next) → (step F b (Free v n m)).answer ≡ Freed x → free_fault F b v n m ≡ Ok tt
  unfolding step
  freed_clear x a = at_fault (free_fault F b v n m) a
    where
      at_fault : (r : Fault) → (answered b r (freed F b v m)).answer ≡ Freed x → r ≡ Ok tt
      at_fault (Ok tt) a = refl
      at_fault (Err r) a = absurd (let z : ◌≡◌ {A = ℕ} 0 1 = cc in omega arith)

  -- whoever is next
  pub free_board : (x : Next) → (step F b (Free v n m)).answer ≡ Freed x → FreedFor F b (step F b (Free v n m)).board v n m x
  free_board x a = ⊎_elim at_global at_local (bool_cases (F.global m))
    where
      e : free_fault F b v n m ≡ Ok tt
      e = freed_clear x a

      -- the board and the answer of an outcome
      from : (c : Board) (y : Next) (t : Outcome) → step F b (Free v n m) ≡ t → t.answer ≡ Freed y → t.board ≡ settled F c → FreedFor F b c v n m y → FreedFor F b (step F b (Free v n m)).board v n m x
      from c y t q ta tb r =
          let z : Freed y ≡ Freed x = sym ta ∙ sym (ap (λ (u : Outcome). u.answer) q) ∙ a in
          let ny : y ≡ x = cc in
          subst (λ u. FreedFor F b (step F b (Free v n m)).board v n m u) ny
          (subst (λ u. FreedFor F b u v n m y) (sym (ap (λ (u : Outcome). u.board) q ∙ tb)) (settled_freed c y r))

      at_global : F.global m ≡ true → FreedFor F b (step F b (Free v n m)).board v n m x
      at_global q = from _ _ _ (free_global F b v n m e q) refl refl (global_freed e (global_next b m))

      at_local : F.global m ≡ false → FreedFor F b (step F b (Free v n m)).board v n m x
      at_local q = from _ _ _ (free_local F b v n m e q) refl refl (local_freed e q (local_next F (with_holder b m 0) v))
