-- Laws of a loop that writes texts: before the first, one text more, after the last.
use Rattle.std.specs.Prelude.{ℕ, ◌+◌, ◌-◌, ◌≤◌, ◌<◌, ◌≡◌, List, [], ◌++◌, length, take, drop}
use Rattle.std.proofs.Math.Path.{refl}
use Rattle.std.proofs.Common.{le_antisymm, arith}
use Rattle.laws.specs.Sums.{flat}
use Rattle.laws.specs.Rows.{rows}
use Rattle.search.specs.TableLaws.{flat_next, sum_prefix}
use Rattle.text_letters.specs.Wrote.{Wrote, Joins}
use Rattle.text_letters.specs.WroteLaws.{ends, rest_fits, both_wrote, both_fit, wrote_long}
use Rattle.listing_order.specs.RisingLaws.{length_flat}
use Rattle.listing_waits.specs.Filled.{Filled}

pub wrote_none : {t : List ℕ} (o : List ℕ) → t ≡ [] → Wrote t o o 0
wrote_none o e = rw e (record { count = refl; bytes = refl })

module _ {A : Type 0} (f : A → List ℕ) (row : ℕ → A) where
  next_joins : (i : ℕ) → Joins (flat f (rows (i + 1) row)) (flat f (rows i row)) (f (row i))
  next_joins i = record { is = flat_next f row i }

  next_room : {i n m : ℕ} → i < n → length (flat f (rows n row)) ≤ m → length (flat f (rows (i + 1) row)) ≤ m
  next_room {i} {n} l h =
      omega (arith, length_flat f (rows (i + 1) row), length_flat f (rows n row), sum_prefix (λ x. length (f x)) row i n l)

  pub filled_none : {n : ℕ} {t : List ℕ} (o : List ℕ) → t ≡ flat f (rows n row) → length t ≤ length o → Filled f row n o o 0 0
  unfolding rows flat
  filled_none o e h = record { within = omega arith; room = rw e at h; same = refl; wrote = wrote_none o refl }

  module _ {n i at : ℕ} {a b : List ℕ} (h : Filled f row n a b i at) where
    -- after the last
    pub filled_all : {t : List ℕ} → n ≤ i → t ≡ flat f (rows n row) → Wrote t a b at
    filled_all l e = rw (e, le_antisymm l h.within) h.wrote

    module _ (l : i < n) where
      roomy : length (flat f (rows (i + 1) row)) ≤ length a
      roomy = next_room l h.room

      pub filled_ends : at ≤ length b
      filled_ends = ends (next_joins i) roomy h.wrote

      -- the next text fits what is left
      pub filled_fits : length (f (row i)) ≤ length (take (length b - at) (drop at b))
      filled_fits = rest_fits (next_joins i) roomy h.wrote

      module _ {c : List ℕ} {m : ℕ} (w : Wrote (f (row i)) (take (length b - at) (drop at b)) c m) where
        pub filled_sum : at + m ≤ length a
        filled_sum = both_fit (next_joins i) roomy h.wrote w

        pub filled_more : Filled f row n a (take at b ++ (c ++ drop (length b - at) (drop at b))) (i + 1) (at + m)
        filled_more =
            let z = both_wrote (next_joins i) roomy h.wrote w in
            record { within = omega arith; room = h.room; same = wrote_long roomy z; wrote = z }
