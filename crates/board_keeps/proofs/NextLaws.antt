-- The next holder of a global mutex is its highest waiter.
use Rattle.std.specs.Prelude.{ℕ, ◌<◌, ◌≡◌, Bool, true}
use Rattle.std.proofs.Math.Path.{refl}
use Rattle.std.proofs.Math.Logic.{inl, inr, ⊎_elim}
use native.Mathlib.Omega.{arith}
use Rattle.std.proofs.Common.{eq-zero-or-pos, eq-or-lt_of_le}
use borrow.Author.Tests.{eqb-true, eq-eqb, ne_eqb}
use Rattle.std.proofs.Math.Dec.{eqb}
use Rattle.std.specs.Prelude.{if◌then◌else◌}
use Rattle.laws.specs.Range.{any_to, highest}
use Rattle.laws.specs.RangeLaws.{any_hit, highest_le, highest_passes, highest_least, any_at}
use Rattle.plan.specs.Limits.{max_v, most_n}
use Rattle.board_rules.specs.declared.Board.{Board}
use Rattle.board_rules.specs.declared.Next.TheVariants.{Nobody}
use Rattle.board_rules.specs.Board.{wait_of, next_of, waiter_v, waiter_n, next_global}
use Rattle.board_keeps.specs.Fair.{InN}
use Rattle.board_keeps.specs.Nexts.{GlobalNext, none_waits, top_waiter}

module _ (b : Board) (m : ℕ) where
  -- some task of v waits for m
  abbrev waits : ℕ → Bool
  waits v = any_to most_n (λ n. eqb (wait_of b v n) m)

  waits_hit : (x j : ℕ) → InN j → wait_of b x j ≡ m → waits x ≡ true
  waits_hit x j i e = any_hit most_n j (λ n. eqb (wait_of b x n) m) i.from i.to (eq-eqb (wait_of b x j) m e)

  next_of_law : (w k : ℕ) → waiter_v b m ≡ w → waiter_n b m w ≡ k → next_global b m ≡ (if eqb w 0 then Nobody else next_of w k)
  unfolding next_global
  next_of_law w k e f = rw (e, f)

  nobody_next : waiter_v b m ≡ 0 → GlobalNext b m (next_global b m)
  unfolding waiter_v
  nobody_next e =
      rw (next_of_law 0 _ e refl)
      (none_waits (λ x j i l q. let h = highest_least max_v x waits i.to (waits_hit x j l q) in omega arith))

  somebody_next : 0 < waiter_v b m → GlobalNext b m (next_global b m)
  unfolding waiter_v waiter_n
  somebody_next h =
      let w = highest max_v waits in
      let f = any_at most_n (λ n. eqb (wait_of b w n) m) (highest_passes max_v waits h) in
      let k = highest most_n (λ n. eqb (wait_of b w n) m) in
      let pos : 0 < k = let z = highest_least most_n f.at (λ n. eqb (wait_of b w n) m) f.within.to f.is in omega arith in
      rw (next_of_law w k refl refl, ne_eqb w 0 (λ z. omega arith), ne_eqb k 0 (λ z. omega arith))
      (top_waiter w k (record {
        v_in = record { from = h; to = highest_le max_v waits };
        n_in = record { from = pos; to = highest_le most_n (λ n. eqb (wait_of b w n) m) };
        waited = eqb-true (wait_of b w k) m (highest_passes most_n (λ n. eqb (wait_of b w n) m) pos);
        others_lower = λ x j i l q ne.
            ⊎_elim
            (λ e. inr (
              e,
              ⊎_elim (λ d. absurd (ne (e, d))) (λ d. d)
                  (eq-or-lt_of_le (highest_least most_n j (λ n. eqb (wait_of b w n) m) l.to (rw e at (eq-eqb (wait_of b x j) m q)))),
            ))
            (λ lt. inl lt) (eq-or-lt_of_le (highest_least max_v x waits i.to (waits_hit x j l q)));
      }))

  pub global_next : GlobalNext b m (next_global b m)
  global_next = ⊎_elim nobody_next somebody_next (eq-zero-or-pos (waiter_v b m))
