-- Sums over the numbers from 1 to n.
use Rattle.std.specs.Prelude.{ℕ, zero, suc, ◌+◌, ◌*◌, ◌≤◌, ◌<◌}
use Rattle.std.proofs.Common.{subst, ⊎_elim, eq-or-lt_of_le, arith}
use Rattle.laws.specs.Range.{OneTo}

-- f 1 + f 2 + .. + f n
unfoldable pub sum_to : ℕ → (ℕ → ℕ) → ℕ
sum_to zero f = 0
sum_to (suc n) f = sum_to n f + f (suc n)

-- no number gives more than m
pub sum_to_bound : (n m : ℕ) (f : ℕ → ℕ) → ((k : ℕ) → f k ≤ m) → sum_to n f ≤ n * m
unfolding sum_to
sum_to_bound zero m f h = omega arith
sum_to_bound (suc n) m f h = omega (arith, h (suc n), sum_to_bound n m f h)

-- no number gives more than before
pub sum_to_le : (n : ℕ) (f g : ℕ → ℕ) → ((k : ℕ) → OneTo n k → f k ≤ g k) → sum_to n f ≤ sum_to n g
unfolding sum_to
sum_to_le zero f g h = omega arith
sum_to_le (suc n) f g h =
    omega (arith, h (suc n) (record { from = omega arith; to = omega arith }), sum_to_le n f g (λ k i. h k (record { from = i.from; to = omega arith })))

-- and one of them gives less
pub sum_to_less : (n x : ℕ) (f g : ℕ → ℕ) → OneTo n x → f x < g x → ((k : ℕ) → OneTo n k → f k ≤ g k) → sum_to n f < sum_to n g
unfolding sum_to
sum_to_less zero x f g i l h = absurd (omega arith)
sum_to_less (suc n) x f g i l h =
    let lower : (k : ℕ) → OneTo n k → f k ≤ g k = λ k j. h k (record { from = j.from; to = omega arith }) in
    let ih = sum_to_less n x f g in
    ⊎_elim
    (λ e. let q = sum_to_le n f g lower in let r : f (suc n) < g (suc n) = subst (λ y. f y < g y) e l in omega arith)
    (λ e. let q = ih (record { from = i.from; to = omega arith }) l lower in omega (arith, h (suc n) (record { from = omega arith; to = omega arith })))
    (eq-or-lt_of_le i.to)
