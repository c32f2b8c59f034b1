-- Laws of Told, over the bits by which code holds a number with a sign.
use Rattle.std.specs.Prelude.{ℕ, ◌+◌, ◌-◌, ◌≤◌, ◌<◌, ◌≡◌, refl, true, false, List, ℤ, pos, negsuc, length, take, drop, Option, None, Some}
use Rattle.std.proofs.Common.{zero-le, arith, sym, ap, subst, ◌∙◌, true≢false, length-take, length-drop, length-take-le, SFits, to_z, of_z, to_z-of_z, ltb-true}
use Rattle.std.specs.Int.Signed.{lt_z}
use Rattle.std.specs.Int.{w64}
use Rattle.program_ends.specs.Ends.{more_bytes}
use Rattle.program.specs.Told.{input_after, Handed, Moved, Counts}

pub after_below : (n : ℕ) (z : ℤ) → lt_z z (pos 0) ≡ true → None ≡ input_after z n
after_below n (pos k) e = absurd (let l : k < 0 = ltb-true k 0 e in omega arith)
after_below n (negsuc k) e = refl

pub after_others : (n : ℕ) (z : ℤ) → lt_z z (pos 0) ≡ false → Some n ≡ input_after z n
after_others n (pos k) e = refl
after_others n (negsuc k) e = absurd (true≢false e)

pub counted : (n : ℕ) (xs : List ℕ) → n ≤ length xs → Counts n xs
counted n xs h = (h, sym (length-take-le n xs h))

more_moved : (n : ℕ) (z : ℤ) → Moved n z → more_bytes z ≤ n
more_moved n (pos k) h = h
more_moved n (negsuc k) h = zero-le

-- a read behind d bytes of n puts no more than there is room for
pub more_room : (d n : ℕ) (z : ℤ) {k : ℕ} → d ≤ n → SFits w64 z → Moved (n - d) z → k ≡ more_bytes (to_z w64 (of_z w64 z)) → d + k ≤ n
more_room d n z l f h e = omega (arith, l, e ∙ ap more_bytes (to_z-of_z f), more_moved (n - d) z h)

-- a read behind what was read has the rest for its room
pub moved_rest : (d : ℕ) (xs : List ℕ) (z : ℤ) → SFits w64 z → Moved (length (take (length xs - d) (drop d xs))) z → Moved (length xs - d) (to_z w64 (of_z w64 z))
moved_rest d xs z f h = subst (Moved (length xs - d)) (sym (to_z-of_z f)) (subst (λ k. Moved k z) (simp (length-take, length-drop) (omega arith)) h)

-- whatever the last read answered, what was read before it is handed on or nothing is
pub handed_after : (n : ℕ) (xs : List ℕ) (z : ℤ) → n ≤ length xs → Handed (input_after z n) xs
handed_after n xs (pos k) h = counted n xs h
handed_after n xs (negsuc k) h = tt

-- an input of n bytes hands on the first n of its buffer
pub handed_bytes : (n : ℕ) (xs : List ℕ) {i : Option ℕ} → i ≡ Some n → Handed i xs → Counts n xs
handed_bytes n xs e h = subst (λ x. Handed x xs) e h
