-- Loops over the numbers from 1 to n: before the first, one more, a way out, after the last. And the seats of a VCPU.
use Rattle.std.specs.Prelude.{ℕ, zero, suc, ◌+◌, ◌-◌, ◌*◌, ◌<◌, ◌≤◌, ◌≡◌, refl, Bool, true, false, ◌&&◌, not, List, [], eqb, ltb, leb, length, get_or, set}
use Rattle.std.proofs.Common.{sym, ◌∙◌, ap, le_antisymm, add-one, arith, eq-eqb, ne_eqb, lt-ltb, le-ltb, le-leb, ltb-true, leb-true, below_more, length-set, ext_get_or, get_or-set_same, get_or-set_other}
use Rattle.std.proofs.Math.Bool.{and-true}
use Rattle.std.proofs.lemmas.Bool.{not-true, not-false}
use Rattle.laws.specs.BoolLaws.{both_left, both_right, both}
use Rattle.laws.specs.Range.{any_to, all_to, highest, list_to}
use Rattle.laws.specs.RangeLaws.{any_none, any_more, any_hit, none_of, all_none, all_more, all_miss, highest_zero, highest_same, highest_passes, highest_le, list_length, list_at}
use Rattle.board_seats.specs.Limits.{max_v, most_n}
use Rattle.board_seats.specs.Seats.{seat, wait_at}
use Rattle.board_walks.specs.Walks.{row_of, rows_of, column_of, row_with}

-- none of 1 to i, of 1 to n, passes
pub record Lack (n : ℕ) (f : ℕ → Bool) (i : ℕ) : Type 0 where
  pub within : i ≤ n
  pub is : any_to i f ≡ false

-- each of 1 to i, of 1 to n, passes
pub record Pass (n : ℕ) (f : ℕ → Bool) (i : ℕ) : Type 0 where
  pub within : i ≤ n
  pub is : all_to i f ≡ true

-- the places of 1 to i, of 1 to n, are filled
pub record Filled {A : Type 0} (d : A) (n : ℕ) (f : ℕ → A) (xs : List A) (i : ℕ) : Type 0 where
  pub within : i ≤ n
  pub size : length xs ≡ n
  pub is : (k : ℕ) → k < i → get_or xs k d ≡ f (suc k)

module _ {n : ℕ} {f : ℕ → Bool} where
  pub lack_none : Lack n f 0
  lack_none = record { within = omega arith; is = any_none f }

  pub lack_more : {b : Bool} {i : ℕ} → Lack n f i → i < n → b ≡ f (i + 1) → b ≡ false → Lack n f (i + 1)
  lack_more {i} h l e k = record { within = omega arith; is = any_more i f h.is (sym e ∙ k) }

  pub lack_out : {b : Bool} {i : ℕ} → Lack n f i → i < n → b ≡ f (i + 1) → b ≡ true → true ≡ any_to n f
  lack_out {i} h l e k = sym (any_hit n (i + 1) f (omega arith) (omega arith) (sym e ∙ k))

  pub lack_all : {i : ℕ} → Lack n f i → n ≤ i → false ≡ any_to n f
  lack_all h l = rw (le_antisymm l h.within) (sym h.is)

  -- the same of a loop whose next number is m
  pub lack_next : {b : Bool} {m : ℕ} → Lack n f (m - 1) → 1 ≤ m → m ≤ n → b ≡ f m → b ≡ false → Lack n f (m + 1 - 1)
  lack_next {b} {m} h l t e k =
      let z : m ≡ m - 1 + 1 = omega arith in
      let y : m + 1 - 1 ≡ m - 1 + 1 = omega arith in
      rw y (lack_more {i = m - 1} h (omega arith) (e ∙ ap f z) k)

  pub lack_here : {b : Bool} {m : ℕ} → Lack n f (m - 1) → 1 ≤ m → m ≤ n → b ≡ f m → b ≡ true → true ≡ any_to n f
  lack_here {b} {m} h l t e k =
      let z : m ≡ m - 1 + 1 = omega arith in
      lack_out {i = m - 1} h (omega arith) (e ∙ ap f z) k

  pub pass_none : Pass n f 0
  pass_none = record { within = omega arith; is = all_none f }

  pub pass_more : {b : Bool} {i : ℕ} → Pass n f i → i < n → b ≡ f (i + 1) → not b ≡ false → Pass n f (i + 1)
  pass_more {i} h l e k = record { within = omega arith; is = all_more i f h.is (sym e ∙ not-false _ k) }

  pub pass_out : {b : Bool} {i : ℕ} → Pass n f i → i < n → b ≡ f (i + 1) → not b ≡ true → false ≡ all_to n f
  pass_out {i} h l e k = sym (all_miss n (i + 1) f (omega arith) (omega arith) (sym e ∙ not-true _ k))

  pub pass_all : {i : ℕ} → Pass n f i → n ≤ i → true ≡ all_to n f
  pass_all h l = rw (le_antisymm l h.within) (sym h.is)

  -- the same of a loop whose next number is m
  pub pass_next : {b : Bool} {m : ℕ} → Pass n f (m - 1) → 1 ≤ m → m ≤ n → b ≡ f m → not b ≡ false → Pass n f (m + 1 - 1)
  pass_next {b} {m} h l t e k =
      let z : m ≡ m - 1 + 1 = omega arith in
      let y : m + 1 - 1 ≡ m - 1 + 1 = omega arith in
      rw y (pass_more {i = m - 1} h (omega arith) (e ∙ ap f z) k)

  pub pass_here : {b : Bool} {m : ℕ} → Pass n f (m - 1) → 1 ≤ m → m ≤ n → b ≡ f m → not b ≡ true → false ≡ all_to n f
  pass_here {b} {m} h l t e k =
      let z : m ≡ m - 1 + 1 = omega arith in
      pass_out {i = m - 1} h (omega arith) (e ∙ ap f z) k

module _ {A : Type 0} {d : A} {n : ℕ} {f : ℕ → A} where
  pub filled_none : {xs : List A} → length xs ≡ n → Filled d n f xs 0
  filled_none e = record { within = omega arith; size = e; is = λ k l. absurd (omega arith) }

  pub filled_more : {xs : List A} {x : A} {i : ℕ} → Filled d n f xs i → i < n → x ≡ f (i + 1) → Filled d n f (set xs i x) (i + 1)
  filled_more {xs} {x} {i} h l e =
      record {
        within = omega arith;
        size = simp length-set h.size;
        is = below_more (λ k. get_or (set xs i x) k d ≡ f (suc k)) i
            (λ k lt. get_or-set_other xs i k x d (λ q. omega arith) ∙ h.is k lt)
            (get_or-set_same xs i x d (rw h.size l) ∙ (e ∙ ap f (add-one i)));
      }

  pub filled_all : {xs : List A} {i : ℕ} → Filled d n f xs i → n ≤ i → xs ≡ list_to n f
  filled_all {xs} h l =
      let z = h.size in
      ext_get_or d xs (list_to n f) (z ∙ sym (list_length n f))
      (λ k lt. let q : k < n = rw z at lt in h.is k (omega arith) ∙ sym (list_at n k f d q))

-- some number passes just where the highest is not 0
pub any_highest : (n : ℕ) (f : ℕ → Bool) → any_to n f ≡ ltb 0 (highest n f)
any_highest n f = go (highest n f) refl
  where
    go : (k : ℕ) → highest n f ≡ k → any_to n f ≡ ltb 0 (highest n f)
    go zero q = (highest_zero n f).1 q ∙ sym (le-ltb 0 (highest n f) (omega arith))
    go (suc k) q =
        any_hit n (highest n f) f (omega arith) (highest_le n f) (highest_passes n f (omega arith)) ∙ sym (lt-ltb 0 (highest n f) (omega arith))

-- the seats of v
pub of_vcpu_law : (h v : ℕ) → (ltb ((v - 1) * most_n) h && leb h ((v - 1) * most_n + most_n)) ≡ any_to most_n (λ n. eqb h (seat v n))
of_vcpu_law h v = go (ltb ((v - 1) * most_n) h && leb h ((v - 1) * most_n + most_n)) refl
  where
    go : (t : Bool) → (ltb ((v - 1) * most_n) h && leb h ((v - 1) * most_n + most_n)) ≡ t → t ≡ any_to most_n (λ n. eqb h (seat v n))
    go true e =
        let a : (v - 1) * most_n < h = ltb-true ((v - 1) * most_n) h (both_left (ltb ((v - 1) * most_n) h) (leb h ((v - 1) * most_n + most_n)) e) in
        let b : h ≤ (v - 1) * most_n + most_n = leb-true h ((v - 1) * most_n + most_n) (both_right (ltb ((v - 1) * most_n) h) (leb h ((v - 1) * most_n + most_n)) e) in
        sym (any_hit most_n (h - (v - 1) * most_n) (λ n. eqb h (seat v n)) (omega arith) (omega arith) (eq-eqb h (seat v (h - (v - 1) * most_n)) (omega arith)))
    go false e =
        sym (none_of most_n (λ n. eqb h (seat v n)) (λ k g l. ne_eqb h (seat v k) (λ q.
        let a : ltb ((v - 1) * most_n) h ≡ true = lt-ltb ((v - 1) * most_n) h (omega arith) in
        let b : leb h ((v - 1) * most_n + most_n) ≡ true = le-leb h ((v - 1) * most_n + most_n) (omega arith) in
        let c = both (ltb ((v - 1) * most_n) h) (leb h ((v - 1) * most_n + most_n)) a b in
        let z : ◌≡◌ {A = ℕ} 0 1 = cc in omega arith)))

-- no cap on the waiters of a VCPU
pub under_all : (f : ℕ → Bool) → highest most_n (λ j. f j && leb j most_n) ≡ highest most_n f
under_all f = highest_same most_n (λ k a b. rw (le-leb k most_n b, and-true (f k)))

-- THE ROWS SAY WHAT THE FLAT FIELD SAYS

row_at : (ws : List ℕ) (v n : ℕ) → 0 < n → n ≤ most_n → get_or (row_of ws v) (n - 1) 0 ≡ wait_at ws v n
row_at ws v n a b =
    let e : suc (n - 1) ≡ n = omega arith in
    list_at most_n (n - 1) (λ k. wait_at ws v k) 0 (omega arith) ∙ ap (λ k. wait_at ws v k) e

rows_at : (ws : List ℕ) (v : ℕ) → 0 < v → v ≤ max_v → get_or (rows_of ws) (v - 1) [] ≡ row_of ws v
rows_at ws v a b =
    let e : suc (v - 1) ≡ v = omega arith in
    list_at max_v (v - 1) (λ k. row_of ws k) [] (omega arith) ∙ ap (λ k. row_of ws k) e

pub column_flat : (ws : List ℕ) (v w : ℕ) → column_of (row_of ws v) w ≡ highest most_n (λ n. eqb (wait_at ws v n) w)
column_flat ws v w = highest_same most_n (λ n a b. ap (λ x. eqb x w) (row_at ws v n a b))

-- the column of a row of the local
pub column_rows : (ws : List ℕ) (v w : ℕ) → 0 < v → v ≤ max_v → column_of (get_or (rows_of ws) (v - 1) []) w ≡ highest most_n (λ n. eqb (wait_at ws v n) w)
column_rows ws v w a b = ap (λ r. column_of r w) (rows_at ws v a b) ∙ column_flat ws v w

pub rows_flat : (ws : List ℕ) (w : ℕ) → row_with (rows_of ws) w ≡ highest max_v (λ v. any_to most_n (λ n. eqb (wait_at ws v n) w))
rows_flat ws w =
    highest_same max_v (λ v a b. ap (ltb 0) (column_rows ws v w a b) ∙ sym (any_highest most_n (λ n. eqb (wait_at ws v n) w)))
