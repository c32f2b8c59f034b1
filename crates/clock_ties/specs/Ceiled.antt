-- Of two local mutexes of a VCPU that two tasks hold, one has its ceiling below the other's holder: every event keeps this.
use Rattle.std.specs.Prelude.{ℕ, ◌≤◌, ◌<◌, ◌≡◌, refl, Bool, true, false, List, [], ◌∷◌, ◌⊎◌, Ok, Err}
use Rattle.std.proofs.Common.{sym, ap, subst, ◌∙◌, inl, inr, arith}
use Rattle.std.proofs.Math.Logic.{⊎_elim}
use Rattle.std.proofs.Math.Decide.{dec_le}
use Rattle.std.specs.Prelude.{if◌then◌else◌}
use Rattle.laws.specs.BoolLaws.{clash, bool_cases, same_or_not}
use Rattle.plan.specs.Refusals.{Fault}
use Rattle.board_rules.specs.Facts.{Facts}
use Rattle.board_rules.specs.declared.Board.{Board}
use Rattle.board_rules.specs.declared.Event.{Event}
use Rattle.board_rules.specs.declared.Event.TheVariants.{Ask, Free, Use, Top, Show}
use Rattle.board_rules.specs.declared.Next.{Next}
use Rattle.board_rules.specs.declared.Next.TheVariants.{Nobody, To}
use Rattle.board_rules.specs.Board.{seat, holder_of, wait_of, passes, settled, with_holder, handed_to, granted_local, next_global, may_have, asked, freed, freed_global, freed_local, used, topped, shown, answered, ask_fault, free_fault, use_fault, top_fault, show_fault, fresh, step, good}
use Rattle.board_events.specs.Events.{board_after, board_by}
use Rattle.board_keeps.specs.Fair.{Fair, InV, InN, InM, task_v, sheet_v, sheet_n, sheet_m}
use Rattle.board_keeps.specs.Shaped.{Shaped, fresh_shaped, holder_shaped, step_shaped}
use Rattle.board_keeps.specs.Good.{barred_fails, good_sound}
use Rattle.board_keeps.specs.Change.{holder_new}
use Rattle.board_rules.specs.Names.{seat_one, seat_some}
use Rattle.board_rules.specs.Change.{holder_else}
use Rattle.board_keeps.specs.Moves.{HoldersBut}
use Rattle.board_rules.specs.LocalNext.{LocalNext, no_waiter, top_fails, top_passes, local_next}
use Rattle.board_keeps.specs.Faults.{AskClear, ask_clear, FreeClear, free_clear}
use Rattle.board_keeps.proofs.Keeps.{step_keeps}
use Rattle.board_keeps.proofs.Runs.{fresh_holder, fresh_good}

-- where two tasks a and c of v hold the local mutexes m and k, the ceiling of k is below a, or that of m below c (H says who holds)
pub record CeiledBy (F : Facts) (H : ℕ → ℕ) : Type 0 where
  pub one_below : (v m k a c : ℕ) → InV v → InM m → InM k → F.local_to v m ≡ true → F.local_to v k ≡ true → InN a → InN c → (a ≡ c → ⊥) →
      H m ≡ seat v a → H k ≡ seat v c → (F.ceiling k < a) ⊎ (F.ceiling m < c)

-- so of a board
abbrev pub Ceiled : Facts → Board → Type 0
Ceiled F b = CeiledBy F (holder_of b)

-- on a fresh board nobody holds
pub fresh_ceiled : (F : Facts) → Ceiled F (fresh F)
fresh_ceiled F = record { one_below = λ v m k a c i x y l q j o ne e z. absurd (seat_some v a j (sym e ∙ fresh_holder F m x)) }

-- HOW A CHANGE OF HOLDERS KEEPS IT

module _ {F : Facts} {H : ℕ → ℕ} (h : CeiledBy F H) where
  -- whoever holds a local mutex in H' holds it in H
  from_ceiled : (H' : ℕ → ℕ) → ((v x a : ℕ) → InM x → F.local_to v x ≡ true → InN a → H' x ≡ seat v a → H x ≡ seat v a) → CeiledBy F H'
  from_ceiled H' was = record {
    one_below = λ v m k a c i x y l q j o ne e z. h.one_below v m k a c i x y l q j o ne (was v m a x l j e) (was v k c y q o z);
  }

  -- a mutex is freed
  free_ceiled : (H' : ℕ → ℕ) (m : ℕ) → H' m ≡ 0 → HoldersBut m H' H → CeiledBy F H'
  free_ceiled H' m none same =
      from_ceiled H' (λ v x a i l j e.
      ⊎_elim (λ q. absurd (seat_some v a j (sym e ∙ ap H' q ∙ none))) (λ ne. sym (same x i ne) ∙ e) (same_or_not x m))

  -- a mutex that is global changes hands
  global_ceiled : Fair F → (H' : ℕ → ℕ) (m : ℕ) → F.global m ≡ true → HoldersBut m H' H → CeiledBy F H'
  global_ceiled f H' m g same =
      from_ceiled H' (λ v x a i l j e. sym (same x i (λ q. clash (ap F.global q ∙ g) (f.local_only v x l))) ∙ e)

  -- (v, n) gets a mutex, and is above the ceiling of every local mutex of v held by others
  grant_ceiled : (H' : ℕ → ℕ) (v n m : ℕ) → InV v → InN n → H' m ≡ seat v n → HoldersBut m H' H →
      ((k : ℕ) → InM k → F.local_to v k ≡ true → (H k ≡ 0 → ⊥) → (H k ≡ seat v n → ⊥) → F.ceiling k < n) → CeiledBy F H'
  grant_ceiled H' v n m iv in-n new same above = record {
    one_below = λ w x y a c i p q l r j o ne e z.
        ⊎_elim
        (λ s. ⊎_elim
        (λ t. absurd (ne (seat_one w a w c i j i o (sym e ∙ ap H' (s ∙ sym t) ∙ z)).1))
        (λ t. inl (other w y a c i q r j o ne (ap H' (sym s) ∙ e) (sym (same y q t) ∙ z))) (same_or_not y m))
        (λ s. ⊎_elim
        (λ t. inr (other w x c a i p l o j (λ u. ne (sym u)) (ap H' (sym t) ∙ z) (sym (same x p s) ∙ e)))
        (λ t. h.one_below w x y a c i p q l r j o ne (sym (same x p s) ∙ e) (sym (same y q t) ∙ z)) (same_or_not y m))
        (same_or_not x m);
  }
    where
      -- a is the new holder of m, and c holds y
      other : (w y a c : ℕ) → InV w → InM y → F.local_to w y ≡ true → InN a → InN c → (a ≡ c → ⊥) →
          H' m ≡ seat w a → H y ≡ seat w c → F.ceiling y < a
      other w y a c i q r j o ne e z =
          let u = seat_one w a v n i j iv in-n (sym e ∙ new) in
          let d = above y q (subst (λ t. F.local_to t y ≡ true) u.0 r) (λ t. seat_some w c o (sym z ∙ t))
          (λ t. ne (u.1 ∙ sym (seat_one w c v n i o iv in-n (sym z ∙ t)).1)) in
          let k = u.1 in omega arith

-- a task that passes the local test is above the ceiling of every local mutex held by others
pub passes_above : (F : Facts) (b : Board) (v n : ℕ) → passes F b v n ≡ true → (k : ℕ) → InM k → F.local_to v k ≡ true →
    (holder_of b k ≡ 0 → ⊥) → (holder_of b k ≡ seat v n → ⊥) → F.ceiling k < n
passes_above F b v n p k i l held other = at_test (dec_le n (F.ceiling k))
  where
    at_test : Dec (n ≤ F.ceiling k) → F.ceiling k < n
    at_test (yes h) =
        absurd (clash p (barred_fails F b v n (record { by = k; by_in = i; is_local_law = l; held = held; by_other = other; ceiling = h })))
    at_test (no h) = omega arith

-- EVERY EVENT

module _ {F : Facts} {b : Board} (f : Fair F) (s : Shaped b) (g : good F b ≡ true) (h : Ceiled F b) where
  -- a mutex is granted
  ask_ceiled : (v n m : ℕ) → AskClear F b v n m → may_have F b v n m ≡ true → Ceiled F (with_holder b m (seat v n))
  unfolding may_have
  ask_ceiled v n m c e =
      let i = sheet_v f v n m c.listed in
      let j = sheet_n f v n m c.listed in
      let k = sheet_m f v n m c.listed in
      let H' = holder_of (with_holder b m (seat v n)) in
      let same : HoldersBut m H' (holder_of b) = λ x a ne. holder_else b m (seat v n) x k a ne in
      ⊎_elim (λ q. global_ceiled h f H' m q same)
      (λ q. grant_ceiled h H' v n m i j (holder_new s m (seat v n) k) same (passes_above F b v n (rw q at e))) (bool_cases (F.global m))

  -- a global mutex is handed on or freed
  handed_ceiled : (m : ℕ) → InM m → F.global m ≡ true → (w : Next) → Ceiled F (handed_to b m w)
  handed_ceiled m k e Nobody = global_ceiled h f (holder_of (with_holder b m 0)) m e (λ x a ne. holder_else b m 0 x k a ne)
  handed_ceiled m k e (To v n) = global_ceiled h f (holder_of (with_holder b m (seat v n))) m e (λ x a ne. holder_else b m (seat v n) x k a ne)

  -- a local mutex is freed, and the highest local waiter gets its own where it passes the test
  local_ceiled : (v m : ℕ) → InV v → InM m → {w : Next} → LocalNext F (with_holder b m 0) v w → Ceiled F (granted_local (with_holder b m 0) w)
  local_ceiled v m i k next = served next
    where
      freed_one : Ceiled F (with_holder b m 0)
      freed_one = free_ceiled h (holder_of (with_holder b m 0)) m (holder_new s m 0 k) (λ x a ne. holder_else b m 0 x k a ne)

      served : {w : Next} → LocalNext F (with_holder b m 0) v w → Ceiled F (granted_local (with_holder b m 0) w)
      served (no_waiter q) = freed_one
      served (top_fails t e q) = freed_one
      served (top_passes t j r e q) =
          let b₁ = with_holder b m 0 in
          let a = wait_of b v t in
          let ka = sheet_m f v t a ((good_sound F b g).holding.wait_listed v t i j r.some_wait) in
          grant_ceiled freed_one (holder_of (with_holder b₁ a (seat v t))) v t a i j (holder_new (holder_shaped m 0 s) a (seat v t) ka)
          (λ x c ne. holder_else b₁ a (seat v t) x ka c ne) (passes_above F b₁ v t e)

-- every event keeps it
pub step_ceiled : {F : Facts} {b : Board} → Fair F → Shaped b → good F b ≡ true → Ceiled F b → (e : Event) → Ceiled F (step F b e).board
unfolding step asked freed freed_global freed_local used topped settled
step_ceiled {F} {b} f s g h (Ask v n m) = at_fault (ask_fault F b v n m) refl
  where
    at_test : AskClear F b v n m → (t : Bool) → may_have F b v n m ≡ t → Ceiled F (asked F b v n m).board
    at_test c true e = rw e (ask_ceiled f s g h v n m c e)
    at_test c false e = rw e h

    at_fault : (x : Fault) → ask_fault F b v n m ≡ x → Ceiled F (answered b x (asked F b v n m)).board
    at_fault (Ok tt) e = at_test (ask_clear F b v n m e) (may_have F b v n m) refl
    at_fault (Err r) e = h
step_ceiled {F} {b} f s g h (Free v n m) = at_fault (free_fault F b v n m) refl
  where
    at_kind : FreeClear F b v n m → (t : Bool) → F.global m ≡ t → Ceiled F (if t then freed_global F b m else freed_local F b v m).board
    at_kind c true e = handed_ceiled f s g h m (f.mutex_in m c.mutex) e (next_global b m)
    at_kind c false e = local_ceiled f s g h v m (task_v f v n c.task) (f.mutex_in m c.mutex) (local_next F (with_holder b m 0) v)

    at_fault : (x : Fault) → free_fault F b v n m ≡ x → Ceiled F (answered b x (freed F b v m)).board
    at_fault (Ok tt) e = at_kind (free_clear F b v n m e) (F.global m) refl
    at_fault (Err r) e = h
step_ceiled {F} {b} f s g h (Use v t) = at_fault (use_fault F b v t)
  where
    at_fault : (x : Fault) → Ceiled F (answered b x (used F b v t)).board
    at_fault (Ok tt) = h
    at_fault (Err r) = h
step_ceiled {F} {b} f s g h (Top v) = at_fault (top_fault F v)
  where
    at_fault : (x : Fault) → Ceiled F (answered b x (topped F b v)).board
    at_fault (Ok tt) = h
    at_fault (Err r) = h
step_ceiled {F} {b} f s g h (Show v n) = at_fault (show_fault F v n)
  where
    at_fault : (x : Fault) → Ceiled F (answered b x (shown F b v n)).board
    at_fault (Ok tt) = h
    at_fault (Err r) = h

-- RUNS

-- event after event
pub after_ceiled : {F : Facts} {b : Board} → Fair F → Shaped b → good F b ≡ true → Ceiled F b → (es : List Event) → Ceiled F (board_after F b es)
unfolding board_by
after_ceiled f s g h [] = h
after_ceiled {F = F} {b = b} f s g h (e ∷ es) = after_ceiled {b = (step F b e).board} f (step_shaped F e s) (step_keeps f s g e) (step_ceiled f s g h e) es

-- every board of a run from a fresh board has it
pub run_ceiled : {F : Facts} → Fair F → (es : List Event) → Ceiled F (board_after F (fresh F) es)
run_ceiled {F} f es = after_ceiled f (fresh_shaped F) (fresh_good f) (fresh_ceiled F) es
