-- Laws of a loop over the rows of a table: before the first row, one row more, after the last; and what its sums and tests say of each row.
use Rattle.std.specs.Prelude.{ℕ, zero, suc, ◌+◌, ◌*◌, ◌≤◌, ◌<◌, min, max, ◌≡◌, Bool, true, false, ◌&&◌, ◌||◌, not, List, [], ◌∷◌, ◌++◌, length, get_or}
use Rattle.std.proofs.Math.Path.{refl}
use Rattle.std.proofs.Common.{ap₂, sym, ◌∙◌, le_antisymm, mul-le-mul_right, add-one, length-append, ext_get_or}
use Rattle.std.proofs.Math.Bool.{or-false, and-true}
use Rattle.std.proofs.Math.Decide.{le_ind}
use native.Mathlib.Omega.{arith}
use Rattle.std.proofs.lemmas.Bool.{not-true, not-false}
use Rattle.std.proofs.Math.ListN.{get_or-append}
use Rattle.std.proofs.lemmas.List.{get_or_at}
use Rattle.laws.specs.BoolLaws.{both, miss_left, miss_right, either_left, either_right, neither}
use Rattle.laws.specs.Sums.{sum, greatest, any, all, Each}
use Rattle.laws.specs.SumLaws.{sum_append, sum_one, greatest_append, greatest_one, any_append, all_append, all_each, each_append, each_at_law}
use Rattle.laws.specs.Rows.{rows, Is, Summed, Capped, Greatest, Lacking, Passed}

-- THE ROWS

pub rows_length : {A : Type 0} (n : ℕ) (row : ℕ → A) → length (rows n row) ≡ n
unfolding rows
rows_length zero row = refl
rows_length (suc n) row = rw (length-append, rows_length n row) (omega arith)

pub rows_at : {A : Type 0} (n i : ℕ) (row : ℕ → A) (d : A) → i < n → get_or (rows n row) i d ≡ row i
unfolding rows
rows_at n i row d h =
    le_ind (λ m. get_or (rows m row) i d ≡ row i)
    (get_or_at (rows i row) (row i) [] d i (rows_length i row))
    (λ m l e. get_or-append (rows m row) (row m ∷ []) d i (rw (rows_length m row) l) ∙ e)
    n
    h

pub rows_same : {A : Type 0} (n : ℕ) {f g : ℕ → A} → ((i : ℕ) → i < n → f i ≡ g i) → rows n f ≡ rows n g
unfolding rows
rows_same zero h = refl
rows_same (suc n) h = ap₂ (λ l x. l ++ (x ∷ [])) (rows_same n (λ i l. h i (omega arith))) (h n (omega arith))

-- a list is the list of its rows
pub rows_get_d : {A : Type 0} (xs : List A) (d : A) → rows (length xs) (λ i. get_or xs i d) ≡ xs
rows_get_d xs d =
    let e = rows_length (length xs) (λ i. get_or xs i d) in
    ext_get_or d (rows (length xs) (λ i. get_or xs i d)) xs e (λ i l. rows_at (length xs) i (λ j. get_or xs j d) d (rw e at l))

-- what holds of every row, by its number
module _ {A : Type 0} (P : A → Type 0) (n : ℕ) (row : ℕ → A) where
  pub each_row : (i : ℕ) → Each P (rows n row) → i < n → P (row i)
  each_row i h l = rw (rows_at n i row (row 0) l) at (each_at_law P (rows n row) i (row 0) h (rw (rows_length n row) l))

pub each_rows : {A : Type 0} (P : A → Type 0) (n : ℕ) (row : ℕ → A) → ((i : ℕ) → i < n → P (row i)) → Each P (rows n row)
unfolding rows
each_rows P zero row h = tt
each_rows P (suc n) row h = each_append P (rows n row) (row n ∷ []) (each_rows P n row (λ i l. h i (omega arith))) (h n (omega arith), tt)

-- SUMS AND MAXIMA

module _ {A : Type 0} (f : A → ℕ) (row : ℕ → A) where
  pub sum_next : (i : ℕ) → sum f (rows (i + 1) row) ≡ sum f (rows i row) + f (row i)
  unfolding rows
  sum_next i = rw (add-one, sum_append, sum_one)

  pub greatest_next : (i : ℕ) → greatest f (rows (i + 1) row) ≡ max (greatest f (rows i row)) (f (row i))
  unfolding rows
  greatest_next i = rw (add-one, greatest_append, greatest_one)

module _ {A : Type 0} {f : A → ℕ} {row : ℕ → A} {b n : ℕ} where
  pub summed_none : Summed f row b n 0 0
  unfolding sum rows
  summed_none = record { within = omega arith; is = refl; small = omega arith }

  pub summed_more : {s x i : ℕ} → Summed f row b n s i → i < n → Is x (f (row i)) b → Summed f row b n (s + x) (i + 1)
  summed_more {i} h l e = record { within = omega arith; is = omega (arith, sum_next f row i); small = omega arith }

  -- after the last of at most m rows
  pub summed_all : {s i : ℕ} (m : ℕ) → n ≤ m → Summed f row b n s i → n ≤ i → Is s (sum f (rows n row)) (m * b)
  summed_all m h t l =
      record { is = rw (le_antisymm l t.within) t.is; small = omega (arith, mul-le-mul_right b h, mul-le-mul_right b t.within) }

  pub greatest_none : Greatest f row b n 0 0
  unfolding greatest rows
  greatest_none = record { within = omega arith; is = refl; small = omega arith }

  pub greatest_more : {s x r i : ℕ} → Greatest f row b n s i → i < n → Is x (f (row i)) b → r ≡ max s x → Greatest f row b n r (i + 1)
  greatest_more {i} h l e m = record { within = omega arith; is = omega (arith, greatest_next f row i); small = omega arith }

  pub greatest_all : {s i : ℕ} → Greatest f row b n s i → n ≤ i → Is s (greatest f (rows n row)) b
  greatest_all t l = record { is = rw (le_antisymm l t.within) t.is; small = t.small }

module _ {A : Type 0} {f : A → ℕ} {row : ℕ → A} {base c n : ℕ} where
  pub capped_none : {s : ℕ} → s ≡ min base c → Capped f row base c n s 0
  unfolding sum rows
  capped_none h = record { within = omega arith; is = omega arith }

  pub capped_more : {s x r i : ℕ} → Capped f row base c n s i → i < n → x ≡ min (f (row i)) c → r ≡ min (s + x) c → Capped f row base c n r (i + 1)
  capped_more {i} h l e m = record { within = omega arith; is = omega (arith, sum_next f row i) }

  pub capped_all : {s i : ℕ} → Capped f row base c n s i → n ≤ i → s ≡ min (base + sum f (rows n row)) c
  capped_all t l = rw (le_antisymm l t.within) t.is

-- TESTS

module _ {A : Type 0} (q : A → Bool) (row : ℕ → A) where
  pub any_next : (i : ℕ) → any q (rows (suc i) row) ≡ (any q (rows i row) || q (row i))
  unfolding rows any
  any_next i = rw (any_append, or-false)

  pub all_next : (i : ℕ) → all q (rows (suc i) row) ≡ (all q (rows i row) && q (row i))
  unfolding rows all
  all_next i = rw (all_append, and-true)

  -- a row that passes
  pub any_found : (n i : ℕ) → i < n → q (row i) ≡ true → any q (rows n row) ≡ true
  any_found n i h e =
      le_ind (λ m. any q (rows m row) ≡ true) (any_next i ∙ either_right (any q (rows i row)) (q (row i)) e)
      (λ m _ t. any_next m ∙ either_left (any q (rows m row)) (q (row m)) t) n h

  -- a row that fails
  pub all_lost : (n i : ℕ) → i < n → q (row i) ≡ false → all q (rows n row) ≡ false
  all_lost n i h e =
      le_ind (λ m. all q (rows m row) ≡ false) (all_next i ∙ miss_right (all q (rows i row)) (q (row i)) e)
      (λ m _ t. all_next m ∙ miss_left (all q (rows m row)) (q (row m)) t) n h

  -- the test of all says it of each
  pub all_found : (n i : ℕ) → i < n → all q (rows n row) ≡ true → q (row i) ≡ true
  all_found n i h e = each_row (λ x. q x ≡ true) n row i (all_each q (rows n row) e) h

module _ {A : Type 0} {q : A → Bool} {row : ℕ → A} {n : ℕ} where
  pub lacking_none : Lacking q row n 0
  unfolding any rows
  lacking_none = record { within = omega arith; is = refl }

  -- the flag of the test of row i is b
  pub lacking_more : {b : Bool} {i : ℕ} → Lacking q row n i → i < n → b ≡ q (row i) → b ≡ false → Lacking q row n (i + 1)
  lacking_more {i} h l e k =
      record { within = omega arith; is = rw add-one (any_next q row i ∙ neither (any q (rows i row)) (q (row i)) h.is (sym e ∙ k)) }

  pub lacking_out : {b : Bool} {i : ℕ} → Lacking q row n i → i < n → b ≡ q (row i) → b ≡ true → true ≡ any q (rows n row)
  lacking_out {i} h l e k = sym (any_found q row n i l (sym e ∙ k))

  pub lacking_all : {i : ℕ} → Lacking q row n i → n ≤ i → false ≡ any q (rows n row)
  lacking_all h l = rw (le_antisymm l h.within) (sym h.is)

  pub passed_none : Passed q row n 0
  unfolding all rows
  passed_none = record { within = omega arith; is = refl }

  pub passed_more : {b : Bool} {i : ℕ} → Passed q row n i → i < n → b ≡ q (row i) → not b ≡ false → Passed q row n (i + 1)
  passed_more {i} h l e k =
      record { within = omega arith; is = rw add-one (all_next q row i ∙ both (all q (rows i row)) (q (row i)) h.is (sym e ∙ not-false _ k)) }

  pub passed_out : {b : Bool} {i : ℕ} → Passed q row n i → i < n → b ≡ q (row i) → not b ≡ true → false ≡ all q (rows n row)
  passed_out {i} h l e k = sym (all_lost q row n i l (sym e ∙ not-true _ k))

  pub passed_all : {i : ℕ} → Passed q row n i → n ≤ i → true ≡ all q (rows n row)
  passed_all h l = rw (le_antisymm l h.within) (sym h.is)
