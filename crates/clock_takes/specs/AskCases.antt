-- The asks of a turn by their first: nothing is due to whoever is picked, or it asks, and then it waits or not.
use Prim.Native.Nat.{ℕ, zero, suc, ◌-◌, ◌<◌}
use Rattle.std.specs.Prelude.{◌≡◌, refl, Bool, true, false, List}
use native.Mathlib.Omega.{arith}
use Rattle.std.proofs.Common.{ne_eqb}
use Rattle.std.specs.Prelude.{if◌then◌else◌}
use Rattle.board_rules.specs.declared.Board.{Board}
use Rattle.board_rules.specs.declared.Event.TheVariants.{Ask}
use Rattle.board_rules.specs.declared.Next.{Next}
use Rattle.board_rules.specs.declared.Next.TheVariants.{Nobody, To}
use Rattle.board_rules.specs.Board.{step}
use Rattle.clock_rules.specs.Clock.{Timing, picked, due_of, Asks, is_wait, no_ask, after, asks_of, asks}

-- the mutex for which whoever is picked is to ask, 0 for none
abbrev pub due_to : Timing → Board → List ℕ → Next → ℕ
due_to T b d Nobody = 0
due_to T b d (To v n) = due_of T b d v n

module _ (T : Timing) (c : ℕ) (b : Board) (d : List ℕ) where
  none_of : (again : Board → Asks) (x : Next) → due_to T b d x ≡ 0 → asks_of T b d again x ≡ no_ask x
  none_of again Nobody e = refl
  none_of again (To v n) e = rw e

  -- nothing is due
  pub asks_none : (k : ℕ) (x : Next) → 0 < k → picked T c b d ≡ x → due_to T b d x ≡ 0 → asks T k c b d ≡ no_ask x
  unfolding asks
  asks_none zero x l e z = absurd (omega arith)
  asks_none (suc k) x l e z = rw e (none_of (λ y. asks T k c y d) x z)

  one_of : (again : Board → Asks) (v n m : ℕ) → due_of T b d v n ≡ m → (m ≡ 0 → ⊥) →
      asks_of T b d again (To v n) ≡ after (Ask v n m) (if is_wait (step T.facts b (Ask v n m)).answer then again (step T.facts b (Ask v n m)).board else no_ask (To v n))
  one_of again v n m e nz = rw (e, ne_eqb m 0 nz) (at (is_wait (step T.facts b (Ask v n m)).answer))
    where
      at : (w : Bool) →
          (if w then after (Ask v n m) (again (step T.facts b (Ask v n m)).board) else after (Ask v n m) (no_ask (To v n)))
          ≡ after (Ask v n m) (if w then again (step T.facts b (Ask v n m)).board else no_ask (To v n))
      at true = refl
      at false = refl

  -- an ask is due: the first event; and after a wait the core picks again
  pub asks_one : (k v n m : ℕ) → 0 < k → picked T c b d ≡ To v n → due_of T b d v n ≡ m → (m ≡ 0 → ⊥) →
      asks T k c b d
      ≡ after (Ask v n m) (if is_wait (step T.facts b (Ask v n m)).answer then asks T (k - 1) c (step T.facts b (Ask v n m)).board d else no_ask (To v n))
  unfolding asks
  asks_one zero v n m l e f nz = absurd (omega arith)
  asks_one (suc k) v n m l e f nz = let z : suc k - 1 ≡ k = omega arith in rw (e, z) (one_of (λ y. asks T k c y d) v n m f nz)
