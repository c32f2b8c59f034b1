-- Laws of rows of one width that stand one after the other: the cells of each, and the rows that cells make up.
use Prim.Native.Nat.{ℕ, zero, suc, ◌+◌, ◌*◌, ◌≤◌, ◌<◌}
use Rattle.std.specs.Prelude.{◌≡◌, take, drop, get_or}
use Rattle.std.proofs.Math.Path.{refl, ap, ap₂, sym}
use Rattle.std.proofs.Common.{◌∙◌, arith, take-append-drop, take-suc, get_or-append-add, length-take-le}
use mathlib.Core.List.{List, [], ◌∷◌, ◌++◌, append_assoc, append-nil}
use Rattle.std.proofs.Math.Nat.{suc-mul, zero-mul}
use Rattle.std.proofs.Math.ListN.{length, length-append, get_or-append}
use Rattle.laws.specs.Sums.{flat, Each}
use Rattle.laws.specs.SumLaws.{each_at_law, each_map, flat_append, each_flat}
use Rattle.laws.specs.Rows.{rows}
use Rattle.laws.specs.RowLaws.{rows_same, rows_get_d}
use Rattle.plan_tables.specs.Layout.{over}

-- ROWS

pub rows_add : {A : Type 0} (m n : ℕ) (f : ℕ → A) → rows (m + n) f ≡ rows m f ++ rows n (λ j. f (m + j))
unfolding rows
rows_add m zero f = let e : m + 0 ≡ m = omega arith in rw e (sym (append-nil (rows m f)))
rows_add m (suc n) f =
    let e : m + suc n ≡ suc (m + n) = omega arith in
    rw e (ap (λ l. l ++ (f (m + n) ∷ [])) (rows_add m n f) ∙ append_assoc (rows m f) (rows n (λ j. f (m + j))) (f (m + n) ∷ []))

-- the first n of a list, as rows
pub rows_take : (n : ℕ) (t : List ℕ) → n ≤ length t → rows n (λ k. get_or t k 0) ≡ take n t
unfolding rows
rows_take zero t h = refl
rows_take (suc n) t h =
    let l : n < length t = h in
    ap (λ u. u ++ (get_or t n 0 ∷ [])) (rows_take n t (omega arith)) ∙ sym (take-suc t n 0 l)

-- ROWS ONE AFTER THE OTHER

-- what holds of every row
pub each_of : {A : Type 0} {P : A → Type 0} (xs : List A) → ((x : A) → P x) → Each P xs
each_of [] h = tt
each_of (x ∷ xs) h = (h x, each_of xs h)

module _ {A : Type 0} (cells : A → List ℕ) (w : ℕ) where
  pub flat_length : (xs : List A) → Each (λ x. length (cells x) ≡ w) xs → length (flat cells xs) ≡ length xs * w
  unfolding flat
  flat_length [] h = sym (zero-mul w)
  flat_length (x ∷ xs) h =
      omega (arith, length-append (cells x) (flat cells xs), flat_length xs h.1, h.0, suc-mul (length xs) w)

  -- place i * w + j has cell j of row i
  pub flat_cell :
      (xs : List A) (t : List ℕ) (d : A) → Each (λ x. length (cells x) ≡ w) xs → (i j : ℕ) → i < length xs → j < w →
      get_or (flat cells xs ++ t) (i * w + j) 0 ≡ get_or (cells (get_or xs i d)) j 0
  unfolding flat
  flat_cell [] t d h i j l k = absurd (omega arith)
  flat_cell (x ∷ xs) t d h zero j l k =
      let e : 0 * w + j ≡ j = omega (arith, zero-mul w) in
      rw (e, append_assoc) (get_or-append (cells x) (flat cells xs ++ t) 0 j (omega (arith, h.0)))
  flat_cell (x ∷ xs) t d h (suc i) j l k =
      let e : suc i * w + j ≡ length (cells x) + (i * w + j) = omega (arith, h.0, suc-mul i w) in
      rw (e, append_assoc, get_or-append-add) (flat_cell xs t d h.1 i j (omega arith) k)

  -- rows whose cells are those of a list in turn
  pub flat_rows :
      (n : ℕ) (row : ℕ → A) (f : ℕ → ℕ) → ((i : ℕ) → i < n → cells (row i) ≡ rows w (λ j. f (i * w + j))) →
      flat cells (rows n row) ≡ rows (n * w) f
  unfolding rows flat
  flat_rows zero row f h = let e : 0 * w ≡ 0 = zero-mul w in rw e
  flat_rows (suc n) row f h =
      flat_append cells (rows n row) (row n ∷ [])
      ∙ ap₂ ◌++◌ (flat_rows n row f (λ i l. h i (omega arith))) (append-nil (cells (row n)) ∙ h n (omega arith))
      ∙ sym (rows_add (n * w) w f)
      ∙ ap (λ k. rows k f) (sym (suc-mul n w))

  -- READING BACK. The reader of row i looks at places i * w to i * w + w - 1 only: where they have the cells of x, it reads x
  pub rows_back :
      (Ok : A → Type 0) (row : List ℕ → ℕ → A) →
      ((x : A) → Ok x → length (cells x) ≡ w) →
      ((t : List ℕ) (i : ℕ) (x : A) → Ok x → ((j : ℕ) → j < w → get_or t (i * w + j) 0 ≡ get_or (cells x) j 0) → row t i ≡ x) →
      (xs : List A) (t : List ℕ) → Each Ok xs → rows (length xs) (row (over (flat cells xs) t)) ≡ xs
  rows_back Ok row wide reads [] t h = unfold rows in refl
  rows_back Ok row wide reads (x ∷ xs) t h =
      rows_same (length (x ∷ xs))
      (λ i l. reads _ i (get_or (x ∷ xs) i x) (each_at_law Ok (x ∷ xs) i x h l)
      (λ j k. flat_cell (x ∷ xs) _ x (each_map (x ∷ xs) wide h) i j l k))
      ∙ rows_get_d (x ∷ xs) x

  -- THE OTHER WAY. The rows that a list holds, written over its front, change nothing
  pub over_rows :
      (n : ℕ) (row : ℕ → A) (t : List ℕ) → ((i : ℕ) → i < n → cells (row i) ≡ rows w (λ j. get_or t (i * w + j) 0)) → n * w ≤ length t →
      over (flat cells (rows n row)) t ≡ t
  over_rows n row t h l =
      ap (λ u. over u t) (flat_rows n row (λ k. get_or t k 0) h ∙ rows_take (n * w) t l)
      ∙ ap (λ k. take (n * w) t ++ drop k t) (length-take-le (n * w) t l)
      ∙ take-append-drop (n * w) t

-- TABLES THAT HOLD ROWS

-- a table holds these n rows at its front
pub record Holds {A : Type 0} (cells : A → List ℕ) (xs : List A) (n : ℕ) (t : List ℕ) : Type 0 where
  pub count : n ≡ length xs
  pub front : t ≡ over (flat cells xs) t

module _ {A : Type 0} {cells : A → List ℕ} {xs : List A} {n : ℕ} {t : List ℕ} (h : Holds cells xs n t) where
  -- what is read back of the rows is read in the table
  pub held_back : (row : List ℕ → ℕ → A) → rows (length xs) (row (over (flat cells xs) t)) ≡ xs → rows n (row t) ≡ xs
  held_back row e = ap₂ (λ m u. rows m (row u)) h.count h.front ∙ e

  module _ (w : ℕ) (wide : Each (λ x. length (cells x) ≡ w) xs) where
    held_length : length (flat cells xs) ≡ n * w
    held_length = flat_length cells w xs wide ∙ ap (λ m. m * w) (sym h.count)

    pub held_room : n * w ≤ length t
    held_room =
        let e : length t ≡ length (flat cells xs) + length (drop (length (flat cells xs)) t) = ap length h.front ∙ length-append (flat cells xs) _ in
        omega (arith, held_length)

    -- what holds of each cell of the rows holds of each place
    pub held_each : (P : ℕ → Type 0) → Each (λ x. Each P (cells x)) xs → (k : ℕ) → k < n * w → P (get_or t k 0)
    held_each P e k l =
        let u : List ℕ = flat cells xs in
        let b : k < length u = omega (arith, held_length) in
        let f : get_or t k 0 ≡ get_or u k 0 = ap (λ v. get_or v k 0) h.front ∙ get_or-append u (drop (length u) t) 0 k b in
        rw f (each_at_law P u k 0 (each_flat P cells xs e) b)
