-- The asks of a core's turn, one after the other: who is picked, what is due, and what comes of it.
use Prim.Native.Nat.{ℕ, zero, suc}
use Rattle.std.specs.Prelude.{◌≡◌, Bool, true, false, List, [], ◌∷◌, ◌++◌, ◌⊎◌, eqb}
use Rattle.std.proofs.Math.Path.{refl}
use Rattle.std.proofs.Common.{sym, ap, ◌∙◌, inl, inr, ⊎_elim, eqb-true}
use Rattle.std.proofs.lemmas.Bool.{eqb-false}
use Rattle.std.specs.Prelude.{if◌then◌else◌}
use Rattle.board_rules.specs.declared.Board.{Board}
use Rattle.board_rules.specs.declared.Event.{Event}
use Rattle.board_rules.specs.declared.Event.TheVariants.{Ask}
use Rattle.board_rules.specs.declared.Next.{Next}
use Rattle.board_rules.specs.declared.Next.TheVariants.{Nobody, To}
use Rattle.board_rules.specs.Board.{seat, holder_of, holds, step}
use Rattle.board_events.specs.Events.{board_by, board_after}
use Rattle.clock_rules.specs.Clock.{Timing, done_of, picked, due_of, Asks, is_wait, no_ask, after, asks_of, asks}
use Rattle.clock_steps.specs.InStep.{Served}
use Rattle.clock_steps.specs.Picked.{next_v, next_n, nobody_picks, Chosen, Picked, nobody, somebody, picks}

-- what k picks at most come to from board b on
pub data Asking (T : Timing) (c : ℕ) (d : List ℕ) : ℕ → Board → Asks → Type 0 where
  -- no pick is left
  spent : {b : Board} → Asking T c d zero b (no_ask Nobody)
  -- nobody is picked
  none_picked : {k : ℕ} {b : Board} → picked T c b d ≡ Nobody → Asking T c d (suc k) b (no_ask Nobody)
  -- nothing is due to the task that is picked
  none_due : {k : ℕ} {b : Board} (v n : ℕ) → picked T c b d ≡ To v n → Chosen T c b d v n → due_of T b d v n ≡ 0 → Asking T c d (suc k) b (no_ask (To v n))
  -- it asks, and does not wait
  has_asked : {k : ℕ} {b : Board} (v n m : ℕ) → picked T c b d ≡ To v n → Chosen T c b d v n → due_of T b d v n ≡ m → (m ≡ 0 → ⊥) → is_wait (step T.facts b (Ask v n m)).answer ≡ false →
      Asking T c d (suc k) b (after (Ask v n m) (no_ask (To v n)))
  -- it asks and waits, and the core picks again
  has_waited : {k : ℕ} {b : Board} {a : Asks} (v n m : ℕ) → picked T c b d ≡ To v n → Chosen T c b d v n → due_of T b d v n ≡ m → (m ≡ 0 → ⊥) → is_wait (step T.facts b (Ask v n m)).answer ≡ true →
      Asking T c d k (step T.facts b (Ask v n m)).board a → Asking T c d (suc k) b (after (Ask v n m) a)

module _ (T : Timing) (c : ℕ) (d : List ℕ) where
  -- by who is picked
  asked_of : (k : ℕ) (b : Board) → ((x : Board) → Asking T c d k x (asks T k c x d)) → {x : Next} → picked T c b d ≡ x → Picked T c b d x →
      Asking T c d (suc k) b (asks_of T b d (λ y. asks T k c y d) x)
  asked_of k b ih e nobody = none_picked e
  asked_of k b ih e (somebody v n q) = at (eqb (due_of T b d v n) 0) refl (is_wait (step T.facts b (Ask v n (due_of T b d v n))).answer) refl
    where
      at : (x : Bool) → eqb (due_of T b d v n) 0 ≡ x → (y : Bool) → is_wait (step T.facts b (Ask v n (due_of T b d v n))).answer ≡ y →
          Asking T c d (suc k) b
          (if x then no_ask (To v n)
          else (if y then after (Ask v n (due_of T b d v n)) (asks T k c (step T.facts b (Ask v n (due_of T b d v n))).board d) else after (Ask v n (due_of T b d v n)) (no_ask (To v n))))
      at true z y w = none_due v n e q (eqb-true (due_of T b d v n) 0 z)
      at false z true w = has_waited v n (due_of T b d v n) e q refl (eqb-false (due_of T b d v n) 0 z) w (ih (step T.facts b (Ask v n (due_of T b d v n))).board)
      at false z false w = has_asked v n (due_of T b d v n) e q refl (eqb-false (due_of T b d v n) 0 z) w

  -- the asks of a turn are such
  pub asking : (k : ℕ) (b : Board) → Asking T c d k b (asks T k c b d)
  unfolding asks
  asking zero b = spent
  asking (suc k) b = asked_of k b (asking k) refl (picks T c b d)

-- WHO USES THE TICK

-- after the events `before` the core picks (v, n), and after them comes at most one ask, its own
pub record LastPick (T : Timing) (c : ℕ) (d : List ℕ) (b : Board) (es : List Event) (v n : ℕ) : Type 0 where
  pub before : List Event
  pub is_picked : picked T c (board_after T.facts b before) d ≡ To v n
  pub own_ask : (es ≡ before) ⊎ ((m : ℕ) × (es ≡ before ++ (Ask v n m ∷ [])))

-- only a task that the core picks uses its tick
pub last_pick : {T : Timing} {c : ℕ} {d : List ℕ} {k : ℕ} {b : Board} {a : Asks} → Asking T c d k b a → (v n : ℕ) → a.pick ≡ To v n → LastPick T c d b a.events v n
unfolding board_by
last_pick spent v n e = absurd (nobody_picks e)
last_pick (none_picked h) v n e = absurd (nobody_picks e)
last_pick (none_due x y h q z) v n e = record { before = []; is_picked = h ∙ e; own_ask = inl refl }
last_pick (has_asked x y m h q z nz w) v n e =
    record { before = []; is_picked = h ∙ e; own_ask = inr (m, ap (λ i. Ask i y m ∷ []) (ap next_v e) ∙ ap (λ i. Ask v i m ∷ []) (ap next_n e)) }
last_pick (has_waited x y m h q z nz w rest) v n e =
    let r = last_pick rest v n e in
    record {
      before = Ask x y m ∷ r.before;
      is_picked = r.is_picked;
      own_ask = ⊎_elim (λ u. inl (ap (λ l. Ask x y m ∷ l) u)) (λ u. inr (u.0, ap (λ l. Ask x y m ∷ l) u.1)) r.own_ask;
    }

-- WHAT IS DUE

-- the mutex of the section that begins, which the task does not hold
pub record Due (T : Timing) (b : Board) (d : List ℕ) (v n m : ℕ) : Type 0 where
  pub begins : T.begins v n (done_of d v n) ≡ m
  pub some : m ≡ 0 → ⊥
  pub not_held : holder_of b m ≡ seat v n → ⊥

module _ (T : Timing) (b : Board) (d : List ℕ) (v n : ℕ) where
  -- where something is due, it is such
  pub is_due_law : (m : ℕ) → due_of T b d v n ≡ m → (m ≡ 0 → ⊥) → Due T b d v n m
  is_due_law m e nz = at (holds b v n (T.begins v n (done_of d v n))) refl e
    where
      at : (x : Bool) → holds b v n (T.begins v n (done_of d v n)) ≡ x → (if x then 0 else T.begins v n (done_of d v n)) ≡ m → Due T b d v n m
      at true h q = absurd (nz (sym q))
      at false h q = record { begins = q; some = nz; not_held = λ z. eqb-false _ _ h (ap (holder_of b) q ∙ z) }

  -- nothing is due to a task that holds what begins
  pub is_served : due_of T b d v n ≡ 0 → Served T (holder_of b) v n (done_of d v n)
  is_served e nz = at (holds b v n (T.begins v n (done_of d v n))) refl e
    where
      at : (x : Bool) → holds b v n (T.begins v n (done_of d v n)) ≡ x → (if x then 0 else T.begins v n (done_of d v n)) ≡ 0 → holder_of b (T.begins v n (done_of d v n)) ≡ seat v n
      at true h q = eqb-true _ _ h
      at false h q = absurd (nz q)
