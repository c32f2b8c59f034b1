-- Laws of Ends, over the bits by which code holds a number with a sign.
use Rattle.std.specs.Prelude.{ℕ, ◌-◌, ◌^◌, ◌≤◌, ◌<◌, suc, ◌≡◌, refl, true, false, ℤ, pos, negsuc, nat_abs, T, eqb}
use Rattle.std.proofs.Common.{arith, subst, SFits, to_z, of_z, to_z-of_z, ltb-false, ne_eqb}
use Rattle.std.proofs.lemmas.Bool.{false≢true}
use Rattle.std.specs.Int.Signed.{lt_z, non_neg}
use Rattle.std.specs.Int.{w32, w64}
use Rattle.program_ends.specs.Ends.{more_bytes, is_error}

-- the bits of an error are a number's exactly when it is that error
pub error_bits : (n : ℕ) → n < 2 ^ 31 → (e : ℤ) → SFits w32 e → eqb (of_z w32 e) n ≡ is_error n e
error_bits n h (pos k) f = refl
error_bits n h (negsuc k) f = ne_eqb (2 ^ 32 - suc k) n (λ (e : 2 ^ 32 - suc k ≡ n). let s : k < 2 ^ 31 = f.sfits in omega arith)

-- what holds of an answer, read back from its bits, holds of the answer
pub as_said : (P : ℤ → Type 0) (z : ℤ) → SFits w64 z → P (to_z w64 (of_z w64 z)) → P z
as_said P z f p = subst P (to_z-of_z f) p

pub above_counts : (z : ℤ) → lt_z (pos 0) z ≡ true → T (non_neg z)
above_counts (pos k) e = tt
above_counts (negsuc k) e = absurd (false≢true e)

pub more_above : (z : ℤ) → lt_z (pos 0) z ≡ true → nat_abs z ≡ more_bytes z
more_above (pos k) e = refl
more_above (negsuc k) e = absurd (false≢true e)

pub more_others : (z : ℤ) → lt_z (pos 0) z ≡ false → 0 ≡ more_bytes z
more_others (pos k) e = let l : k ≤ 0 = ltb-false 0 k e in omega arith
more_others (negsuc k) e = refl
