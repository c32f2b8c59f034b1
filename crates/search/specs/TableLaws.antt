-- Laws of the table of rows: its sum may stop at the cap, a row pushed is one more row, and the sums over the rows that a loop builds are
-- those over the things they came from.
use Rattle.std.specs.Prelude.{ℕ, suc, ◌+◌, ◌*◌, ◌^◌, ◌≤◌, ◌<◌, min, ◌≡◌, Bool, ◌≢◌, get_or, set}
use Rattle.std.proofs.Math.Path.{refl}
use Rattle.std.proofs.Common.{ap, ap₂, sym, ◌∙◌, le_antisymm, le_refl, mul-le-mul, get_or-set_same}
use Rattle.std.proofs.Math.Bool.{true, false}
use mathlib.Core.List.{List, [], ◌∷◌, ◌++◌, append-nil, append_assoc, map}
use Rattle.std.proofs.Math.Decide.{le_ind}
use Rattle.std.proofs.Math.Numerals.{add-one}
use native.Mathlib.Omega.{arith}
use Rattle.std.proofs.Math.ListN.{length, length-set}
use Rattle.std.proofs.Math.Seq.{get_or-set_other}
use Rattle.laws.specs.Choice.{when}
use Rattle.laws.specs.Sums.{up, sum, flat, only, Each}
use Rattle.laws.specs.SumLaws.{up_le, cap_mul_right, sum_append, sum_only, only_in, only_out, flat_append}
use Rattle.laws.specs.Rows.{rows, Capped}
use Rattle.laws.specs.RowLaws.{rows_same, sum_next, capped_more}
use Rattle.search.specs.Row.{cap, IsUpTo, Row, Sound, row_in, rows_in, share, rows_demand, pushed, pick, Built, Picked}

-- THE SUM UP TO A CAP

module _ {A : Type 0} (f : A → ℕ) (row : ℕ → A) where
  -- the sum grows with its rows
  pub sum_prefix : (i n : ℕ) → i < n → sum f (rows (i + 1) row) ≤ sum f (rows n row)
  unfolding rows
  sum_prefix i n h =
      rw add-one (le_ind (λ m. sum f (rows (suc i) row) ≤ sum f (rows m row)) (le_refl _)
      (λ m l e. omega (arith, sum_append f (rows m row) (row m ∷ []))) n h)

module _ {A : Type 0} {f : A → ℕ} {row : ℕ → A} {base c n s i x b : ℕ} (h : Capped f row base c n s i) (l : i < n) (e : IsUpTo c x (f (row i)) b) where
  -- the sum stays below the cap
  pub capped_below : s + x < c → Capped f row base c n (s + x) (i + 1)
  capped_below k = capped_more h l e.is (omega arith)

  -- it reaches the cap, whatever the later rows are
  pub capped_over : c ≤ s + x → c ≡ min (base + sum f (rows n row)) c
  capped_over k = omega (arith, sum_next f row i, sum_prefix f row i n l)

-- the share of a row whose cost is capped
pub share_capped : (t : ℕ) (r : Row) {u q : ℕ} → t < cap → Sound r → u ≡ up (t + r.shift) r.period → q ≡ min r.cost cap
    → IsUpTo cap (u * q) (share t r) (2 ^ 60)
unfolding share
share_capped t r {u} {q} h s e f =
    let k : u ≤ 1_000_001_000_000 = omega (arith, up_le (t + r.shift) r.period) in
    let m : u * q ≤ 1_000_001_000_000 * cap = mul-le-mul {n₂ = 1_000_001_000_000} {m₂ = cap} k (omega arith) in
    record { is = rw (e, f) (cap_mul_right (up (t + r.shift) r.period) r.cost cap); small = omega arith }

-- that of a row that costs nothing
pub share_free : (t : ℕ) (r : Row) → r.cost ≡ 0 → IsUpTo cap 0 (share t r) (2 ^ 60)
unfolding share
share_free t r e = let z : 0 ≡ up (t + r.shift) r.period * r.cost = rw (e) (omega arith) in record { is = ap (λ x. min x cap) z; small = omega arith }

-- A ROW PUSHED

module _ (xs : List ℕ) (n : ℕ) (r : Row) where
  pub pushed_length : length (pushed xs n r) ≡ length xs
  unfolding pushed
  pushed_length = simp length-set

  -- another place
  pushed_other : (j : ℕ) → j < n * 3 → get_or (pushed xs n r) j 0 ≡ get_or xs j 0
  unfolding pushed
  pushed_other j h =
      let a : j ≢ n * 3 = λ e. omega arith in
      let b : j ≢ n * 3 + 1 = λ e. omega arith in
      let d : j ≢ n * 3 + 2 = λ e. omega arith in
      simp get_or-set_other

  -- the rows before it stay
  pub pushed_before : (k : ℕ) → k < n → row_in (pushed xs n r) k ≡ row_in xs k
  unfolding row_in
  pushed_before k h =
      rw (pushed_other (k * 3) (omega arith), pushed_other (k * 3 + 1) (omega arith), pushed_other (k * 3 + 2) (omega arith))

  pub pushed_here : n * 3 + 3 ≤ length xs → row_in (pushed xs n r) n ≡ r
  unfolding row_in pushed
  pushed_here h =
      let a : n * 3 ≢ n * 3 + 1 = λ e. omega arith in
      let b : n * 3 ≢ n * 3 + 2 = λ e. omega arith in
      let d : n * 3 + 1 ≢ n * 3 + 2 = λ e. omega arith in
      let u : n * 3 < length xs = omega arith in
      let v : n * 3 + 1 < length (set xs (n * 3) r.shift) = rw length-set (omega arith) in
      let w : n * 3 + 2 < length (set (set xs (n * 3) r.shift) (n * 3 + 1) r.period) = simp length-set (omega arith) in
      simp (get_or-set_other, get_or-set_same)

pub rows_push : (xs : List ℕ) (n : ℕ) (r : Row) → n * 3 + 3 ≤ length xs → rows_in (pushed xs n r) (n + 1) ≡ rows_in xs n ++ (r ∷ [])
unfolding rows
rows_push xs n r h = rw add-one (ap₂ (λ l x. l ++ (x ∷ [])) (rows_same n (pushed_before xs n r)) (pushed_here xs n r h))

-- LISTS THAT GROW AT THEIR END

module _ {A B : Type 0} (g : A → List B) where
  -- one more thing
  pub flat_next : (thing : ℕ → A) (i : ℕ) → flat g (rows (i + 1) thing) ≡ flat g (rows i thing) ++ g (thing i)
  unfolding rows flat
  flat_next thing i = rw (add-one, flat_append, append-nil)

-- THE ROWS OF THE THINGS THAT PASS

module _ {A : Type 0} (test : A → Bool) (f : A → Row) where
  pub pick_in : (x : A) → test x ≡ true → pick test f x ≡ f x ∷ []
  unfolding pick
  pick_in x e = rw (e, pick)

  pub pick_out : (x : A) → test x ≡ false → pick test f x ≡ []
  unfolding pick
  pick_out x e = rw (e, pick)

  pub flat_pick : (xs : List A) → flat (pick test f) xs ≡ map f (only test xs)
  unfolding flat only
  flat_pick [] = refl
  flat_pick (x ∷ xs) = go (test x) refl (flat_pick xs)
    where
      go : (b : Bool) → test x ≡ b → flat (pick test f) xs ≡ map f (only test xs) → pick test f x ++ flat (pick test f) xs ≡ map f (only test (x ∷ xs))
      go true e h = rw (pick_in x e, only_in test x xs e, h)
      go false e h = rw (pick_out x e, only_out test x xs e, h)

  -- P holds of the row of each thing that passes, where Q holds of each thing
  pub each_pick : (P : Row → Type 0) (Q : A → Type 0) (xs : List A) → ((x : A) → Q x → test x ≡ true → P (f x)) → Each Q xs
      → Each P (map f (only test xs))
  unfolding only
  each_pick P Q [] g h = tt
  each_pick P Q (x ∷ xs) g h = go (test x) refl (each_pick P Q xs g h.1)
    where
      go : (b : Bool) → test x ≡ b → Each P (map f (only test xs)) → Each P (map f (only test (x ∷ xs)))
      go true e k = rw (only_in test x xs e) (g x h.0 e, k)
      go false e k = rw (only_out test x xs e) k

pub sum_map : {A B : Type 0} (g : B → ℕ) (f : A → B) (xs : List A) → sum g (map f xs) ≡ sum (λ x. g (f x)) xs
unfolding sum
sum_map g f [] = refl
sum_map g f (x ∷ xs) = ap (λ n. g (f x) + n) (sum_map g f xs)

pub sum_pick : {A B : Type 0} (g : B → ℕ) (test : A → Bool) (f : A → B) (xs : List A)
    → sum g (map f (only test xs)) ≡ sum (λ x. when (test x) (g (f x))) xs
sum_pick g test f xs = sum_map g f (only test xs) ∙ sum_only test (λ x. g (f x)) xs

-- THE LOOP OF A BUILDER

module _ {A : Type 0} {g : A → List Row} {thing : ℕ → A} {stood : List Row} {m w n : ℕ} where
  pub built_none : {xs : List ℕ} {k : ℕ} → rows_in xs k ≡ stood → k ≤ m → Built g thing stood m w n xs k 0
  unfolding rows flat
  built_none h l = record { within = omega arith; few = omega arith; is = rw append-nil h }

  -- the rows of one more thing were added
  pub built_more : {xs ys : List ℕ} {k j i : ℕ} → Built g thing stood m w n xs k i → i < n → rows_in ys j ≡ rows_in xs k ++ g (thing i)
      → j ≤ k + w → Built g thing stood m w n ys j (i + 1)
  built_more {i} h l e f =
      record {
        within = omega arith;
        few = omega arith;
        is = e ∙ ap (λ rs. rs ++ g (thing i)) h.is ∙ append_assoc stood (flat g (rows i thing)) (g (thing i)) ∙ ap (λ rs. stood ++ rs) (sym (flat_next g thing i));
      }

  pub built_skip : {xs : List ℕ} {k i : ℕ} → Built g thing stood m w n xs k i → i < n → g (thing i) ≡ [] → Built g thing stood m w n xs k (i + 1)
  built_skip h l e = built_more h l (rw (e, append-nil)) (omega arith)

  pub built_push : {xs ys : List ℕ} {k i : ℕ} {r : Row} → Built g thing stood m w n xs k i → i < n → ys ≡ pushed xs k r → g (thing i) ≡ r ∷ []
      → 1 ≤ w → k * 3 + 3 ≤ length xs → Built g thing stood m w n ys (k + 1) (i + 1)
  built_push {xs} {k} {r} h l p e f room = built_more h l (rw (p, e) (rows_push xs k r room)) (omega arith)

  pub built_all : {xs : List ℕ} {k i : ℕ} → Built g thing stood m w n xs k i → n ≤ i → rows_in xs k ≡ stood ++ flat g (rows n thing)
  built_all h l = rw (le_antisymm l h.within) h.is

module _ {A : Type 0} {test : A → Bool} {f : A → Row} {thing : ℕ → A} {stood : List Row} {m n : ℕ} where
  pub picked_none : {xs : List ℕ} {k : ℕ} → rows_in xs k ≡ stood → k ≤ m → Picked test f thing stood m n xs k 0
  picked_none h l = record { built = built_none h l }

  -- the flag of the test of thing i is b
  pub picked_out : {xs : List ℕ} {k i : ℕ} {b : Bool} → Picked test f thing stood m n xs k i → i < n → b ≡ test (thing i) → b ≡ false
      → Picked test f thing stood m n xs k (i + 1)
  picked_out {i} h l e q = record { built = built_skip h.built l (pick_out test f (thing i) (sym e ∙ q)) }

  pub picked_in : {xs ys : List ℕ} {k i : ℕ} {b : Bool} {r : Row} → Picked test f thing stood m n xs k i → i < n → b ≡ test (thing i)
      → b ≡ true → ys ≡ pushed xs k r → f (thing i) ≡ r → k * 3 + 3 ≤ length xs → Picked test f thing stood m n ys (k + 1) (i + 1)
  picked_in {i} h l e q p s room =
      record { built = built_push h.built l p (pick_in test f (thing i) (sym e ∙ q) ∙ ap (λ x. x ∷ []) s) (omega arith) room }

  pub picked_all : {xs : List ℕ} {k i : ℕ} → Picked test f thing stood m n xs k i → n ≤ i → rows_in xs k ≡ stood ++ map f (only test (rows n thing))
  picked_all h l = built_all h.built l ∙ ap (λ rs. stood ++ rs) (flat_pick test f (rows n thing))

-- THE DEMAND OF WHAT WAS BUILT

module _ (base t : ℕ) (stood : List Row) where
  pub demand_append : (rs : List Row) → rows_demand base (stood ++ rs) t ≡ base + sum (share t) stood + sum (share t) rs
  unfolding rows_demand
  demand_append rs = omega (arith, sum_append (share t) stood rs)

  pub demand_pick : {A : Type 0} (test : A → Bool) (f : A → Row) (xs : List A)
      → rows_demand base (stood ++ map f (only test xs)) t ≡ base + sum (share t) stood + sum (λ x. when (test x) (share t (f x))) xs
  demand_pick test f xs = demand_append (map f (only test xs)) ∙ ap (λ n. base + sum (share t) stood + n) (sum_pick (share t) test f xs)
