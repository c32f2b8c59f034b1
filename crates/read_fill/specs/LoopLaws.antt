-- Laws of the loop over cells: one turn, and the end.
use Rattle.std.specs.Prelude.{ℕ, ◌+◌, ◌≤◌, ◌≡◌, List, true, set}
use Rattle.std.proofs.Common.{ap, ◌∙◌, add-one, le_antisymm}
use Rattle.read_fill.specs.Fill.{put_if, wiped}

-- zeros, one more and all
pub wiped_more : (d₀ d e : List ℕ) (k i : ℕ) → d ≡ wiped d₀ k i → e ≡ put_if true d (k + i) 0 → e ≡ wiped d₀ k (i + 1)
unfolding wiped put_if
wiped_more d₀ d e k i h p = let n = add-one i in rw n (p ∙ ap (λ d. set d (k + i) 0) h)

pub wiped_all : (d₀ d : List ℕ) (k i n : ℕ) → d ≡ wiped d₀ k i → i ≤ n → n ≤ i → d ≡ wiped d₀ k n
wiped_all d₀ d k i n h l m = h ∙ ap (wiped d₀ k) (le_antisymm l m)
