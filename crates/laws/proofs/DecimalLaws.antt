-- A number's field is its decimal digits, and no other.
use Prim.Native.Nat.{ℕ, zero, suc, ◌+◌, ◌*◌, ◌-◌, ◌/◌, ◌%◌, ◌^◌, ◌≤◌, ◌<◌}
use Rattle.std.proofs.Math.Path.{◌≡◌, refl, ap}
use Rattle.std.proofs.Common.{sym, ◌∙◌, ⊎_elim, add-zero, length-append}
use mathlib.Core.List.{List, [], ◌∷◌, ◌++◌, append_assoc, append-nil}
use Rattle.std.specs.Prelude.{Bool, ◌⊎◌, eqb, leb}
use Rattle.std.proofs.Math.Bool.{true, false, cond}
use Rattle.std.proofs.Math.Logic.{inl, inr}
use native.Mathlib.Omega.{arith}
use Rattle.std.proofs.Math.Nat.{pow-suc, zero-add}
use Rattle.std.proofs.Math.Dec.{ltb}
use Rattle.std.proofs.Math.ListN.{length}
use borrow.Author.Tests.{lt-ltb, le-ltb, ltb-true, ltb-false, le-leb, ne_eqb, eqb-false, not-true}
use Rattle.laws.specs.Bytes.{above}
use Rattle.laws.specs.BytesLaws.{above_append}
use Rattle.laws.specs.Decimal.{digit_of, scan, starts, value, digits, decimal}

pub digit_of_law : (n : ℕ) → n < 10 → digit_of (48 + n) ≡ n
unfolding digit_of
digit_of_law n h = simp (le-ltb (48 + n) 48 (omega arith), le-leb (48 + n) 57 (omega arith)) (omega arith)

-- a byte that is a digit is the digit's byte
pub of_digit : (x : ℕ) → digit_of x < 10 → 48 + digit_of x ≡ x
unfolding digit_of
of_digit x = go (ltb x 48) refl (leb x 57) refl
  where
    go : (p : Bool) → ltb x 48 ≡ p → (q : Bool) → leb x 57 ≡ q → cond p 10 (cond q (x - 48) 10) < 10 → 48 + cond p 10 (cond q (x - 48) 10) ≡ x
    go true e q f h = absurd (omega arith)
    go false e true f h = omega (arith, ltb-false x 48 e)
    go false e false f h = absurd (omega arith)

-- below or from ten on
data Size (n : ℕ) : Type 0 where
  small : n < 10 → Size n
  large : 10 ≤ n → Size n

size : (n : ℕ) → Size n
size n = go (ltb n 10) refl
  where
    go : (b : Bool) → ltb n 10 ≡ b → Size n
    go true e = small (ltb-true n 10 e)
    go false e = large (ltb-false n 10 e)

module _ (k n : ℕ) where
  pub digits_one : n < 10 → digits (suc k) n ≡ (48 + n) ∷ []
  unfolding digits
  digits_one h = rw (lt-ltb n 10 h, digits)

  pub digits_more : 10 ≤ n → digits (suc k) n ≡ digits k (n / 10) ++ ((48 + n % 10) ∷ [])
  unfolding digits
  digits_more h = rw (le-ltb n 10 h, digits)

-- one digit read, and the rest
module _ (bad : ℕ) where
  pub scan_next : (v x : ℕ) (s : List ℕ) → digit_of x < 10 → scan bad v (x ∷ s) ≡ scan bad (v * 10 + digit_of x) s
  unfolding scan
  scan_next v x s h = simp (lt-ltb (digit_of x) 10 h)

  pub scan_digit : (v d : ℕ) (s : List ℕ) → d < 10 → scan bad v ((48 + d) ∷ s) ≡ scan bad (v * 10 + d) s
  scan_digit v d s h = scan_next v (48 + d) s (rw (digit_of_law d h) h) ∙ ap (λ e. scan bad (v * 10 + e) s) (digit_of_law d h)

  scan_first : (x : ℕ) (s : List ℕ) → digit_of x < 10 → scan bad 0 (x ∷ s) ≡ scan bad (digit_of x) s
  scan_first x s d = scan_next 0 x s d ∙ ap (λ m. scan bad m s) (zero-add (digit_of x))

  -- reading a number's digits and going on
  pub scan_digits : (k n : ℕ) (b : List ℕ) → n < 10 ^ k → scan bad 0 (digits k n ++ b) ≡ scan bad n b
  unfolding digits
  scan_digits zero n b h = let e : n ≡ 0 = omega arith in rw e
  scan_digits (suc k) n b h = go (size n) (scan_digits k (n / 10))
    where
      go : Size n → ((b : List ℕ) → n / 10 < 10 ^ k → scan bad 0 (digits k (n / 10) ++ b) ≡ scan bad (n / 10) b) → scan bad 0 (digits (suc k) n ++ b) ≡ scan bad n b
      go (small l) ih = rw (digits_one k n l) (scan_digit 0 n b l ∙ ap (λ m. scan bad m b) (zero-add n))
      go (large l) ih =
          let e : n / 10 * 10 + n % 10 ≡ n = omega arith in
          let f : n / 10 < 10 ^ k = omega (arith, rw pow-suc at h) in
          rw (digits_more k n l, append_assoc, ih ((48 + n % 10) ∷ b) f, scan_digit (n / 10) (n % 10) b (omega arith), e)

  -- what is read after a value of j digits has as many digits more as there are bytes
  pub scan_room : (s : List ℕ) (v j : ℕ) → v < 10 ^ j → (scan bad v s ≡ bad) ⊎ (scan bad v s < 10 ^ (length s + j))
  unfolding scan
  scan_room [] v j h = inr (rw zero-add h)
  scan_room (x ∷ s) v j h = go (ltb (digit_of x) 10) refl (scan_room s (v * 10 + digit_of x) (suc j))
    where
      go :
          (t : Bool) →
          ltb (digit_of x) 10 ≡ t →
          (v * 10 + digit_of x < 10 ^ suc j →
          (scan bad (v * 10 + digit_of x) s ≡ bad) ⊎ (scan bad (v * 10 + digit_of x) s < 10 ^ (length s + suc j))) →
          (cond t (scan bad (v * 10 + digit_of x) s) bad ≡ bad) ⊎ (cond t (scan bad (v * 10 + digit_of x) s) bad < 10 ^ (suc (length s) + j))
      go true e ih =
          let d : digit_of x < 10 = ltb-true (digit_of x) 10 e in
          let n : suc (length s) + j ≡ length s + suc j = omega arith in
          rw n (ih (rw pow-suc (omega arith)))
      go false e ih = inl refl

  -- the digits read after v, a number above 0, stand after v's
  scan_back : (s : List ℕ) (v j : ℕ) → 0 < v → scan bad v s < bad → digits (length s + j) (scan bad v s) ≡ digits j v ++ s
  unfolding scan
  scan_back [] v j g h = rw (zero-add, append-nil)
  scan_back (x ∷ s) v j g h = go (ltb (digit_of x) 10) refl h (scan_back s (v * 10 + digit_of x) (suc j))
    where
      go :
          (t : Bool) →
          ltb (digit_of x) 10 ≡ t →
          cond t (scan bad (v * 10 + digit_of x) s) bad < bad →
          (0 < v * 10 + digit_of x → scan bad (v * 10 + digit_of x) s < bad →
          digits (length s + suc j) (scan bad (v * 10 + digit_of x) s) ≡ digits (suc j) (v * 10 + digit_of x) ++ s) →
          digits (suc (length s) + j) (cond t (scan bad (v * 10 + digit_of x) s) bad) ≡ digits j v ++ (x ∷ s)
      go true e h ih =
          let d : digit_of x < 10 = ltb-true (digit_of x) 10 e in
          let n : suc (length s) + j ≡ length s + suc j = omega arith in
          let q : (v * 10 + digit_of x) / 10 ≡ v = omega arith in
          let r : (v * 10 + digit_of x) % 10 ≡ digit_of x = omega arith in
          rw (n, ih (omega arith) h, digits_more j (v * 10 + digit_of x) (omega arith), q, r, of_digit x d, append_assoc)
      go false e h ih = absurd (omega arith)

  scan_ok : (v x : ℕ) (s : List ℕ) → scan bad v (x ∷ s) < bad → digit_of x < 10
  unfolding scan
  scan_ok v x s = go (ltb (digit_of x) 10) refl
    where
      go : (t : Bool) → ltb (digit_of x) 10 ≡ t → cond t (scan bad (v * 10 + digit_of x) s) bad < bad → digit_of x < 10
      go true e h = ltb-true (digit_of x) 10 e
      go false e h = absurd (omega arith)

  -- digits that begin as they should are those of the number that they say
  scan_starts : (f : List ℕ) → starts f ≡ true → scan bad 0 f < bad → digits (length f) (scan bad 0 f) ≡ f
  unfolding starts
  scan_starts [] e h = absurd (let z : ◌≡◌ {A = ℕ} 0 1 = cc in omega arith)
  scan_starts (x ∷ []) e h =
      let d : digit_of x < 10 = scan_ok 0 x [] h in
      rw (scan_first x [] d) (unfold scan in rw (digits_one 0 (digit_of x) d, of_digit x d))
  scan_starts (x ∷ y ∷ s) e h =
      let d : digit_of x < 10 = scan_ok 0 x (y ∷ s) h in
      let b : 48 + digit_of x ≡ x = of_digit x d in
      let p : 0 < digit_of x = omega (arith, eqb-false x 48 (not-true (eqb x 48) e)) in
      let n : length (x ∷ y ∷ s) ≡ length (y ∷ s) + 1 = omega arith in
      rw (scan_first x (y ∷ s) d, n)
      (scan_back (y ∷ s) (digit_of x) 1 p (rw (scan_first x (y ∷ s) d) at h) ∙ rw (digits_one 0 (digit_of x) d, b))

pub digits_length : (k n : ℕ) → length (digits k n) ≤ k
unfolding digits
digits_length zero n = omega arith
digits_length (suc k) n = go (size n) (digits_length k (n / 10))
  where
    go : Size n → length (digits k (n / 10)) ≤ k → length (digits (suc k) n) ≤ suc k
    go (small l) ih = rw (digits_one k n l) (omega arith)
    go (large l) ih = rw (digits_more k n l, length-append) (omega arith)

power_some : (k m : ℕ) → 0 < m → m < 10 ^ k → 0 < k
power_some zero m g h = absurd (omega arith)
power_some (suc k) m g h = omega arith

-- any two numbers of digits that suffice give the same
pub digits_fuel : (k j n : ℕ) → 0 < k → 0 < j → n < 10 ^ k → n < 10 ^ j → digits k n ≡ digits j n
digits_fuel zero j n p q h g = absurd (omega arith)
digits_fuel (suc k) zero n p q h g = absurd (omega arith)
digits_fuel (suc k) (suc j) n p q h g = go (size n) (digits_fuel k j (n / 10))
  where
    go :
        Size n → (0 < k → 0 < j → n / 10 < 10 ^ k → n / 10 < 10 ^ j → digits k (n / 10) ≡ digits j (n / 10)) →
        digits (suc k) n ≡ digits (suc j) n
    go (small l) ih = digits_one k n l ∙ sym (digits_one j n l)
    go (large l) ih =
        let a : n / 10 < 10 ^ k = omega (arith, rw pow-suc at h) in
        let b : n / 10 < 10 ^ j = omega (arith, rw pow-suc at g) in
        rw (digits_more k n l, digits_more j n l, ih (power_some k (n / 10) (omega arith) a) (power_some j (n / 10) (omega arith) b) a b)

pub below_power : (n : ℕ) → n < 10 ^ suc n
below_power zero = omega arith
below_power (suc n) = let h = below_power n in rw (pow-suc 10 (suc n)) (omega arith)

-- w digits suffice for a number below 10 ^ w
pub decimal_digits : (w n : ℕ) → 0 < w → n < 10 ^ w → decimal n ≡ digits w n
unfolding decimal
decimal_digits w n p h = digits_fuel (suc n) w n (omega arith) p (below_power n) h

-- it begins with a digit above 0
abbrev Leads : List ℕ → Type 0
Leads [] = ⊥
Leads (x ∷ s) = 48 < x

leads_more : (a b : List ℕ) → Leads a → Leads (a ++ b)
leads_more [] b h = absurd h
leads_more (x ∷ a) b h = h

leads_starts : (a : List ℕ) → Leads a → starts a ≡ true
unfolding starts
leads_starts [] h = absurd h
leads_starts (x ∷ []) h = refl
leads_starts (x ∷ y ∷ a) h = simp (ne_eqb x 48 (λ e. omega arith))

digits_leads : (k n : ℕ) → 0 < n → n < 10 ^ k → Leads (digits k n)
unfolding digits
digits_leads zero n g h = absurd (omega arith)
digits_leads (suc k) n g h = go (size n) (digits_leads k (n / 10))
  where
    go : Size n → (0 < n / 10 → n / 10 < 10 ^ k → Leads (digits k (n / 10))) → Leads (digits (suc k) n)
    go (small l) ih = rw (digits_one k n l) (omega arith)
    go (large l) ih = rw (digits_more k n l) (leads_more (digits k (n / 10)) ((48 + n % 10) ∷ []) (ih (omega arith) (omega (arith, rw pow-suc at h))))

pub starts_decimal : (n : ℕ) → starts (decimal n) ≡ true
unfolding decimal
starts_decimal zero = unfold digits starts in refl
starts_decimal (suc n) = leads_starts _ (digits_leads (suc (suc n)) (suc n) (omega arith) (below_power (suc n)))

pub decimal_length : (w n : ℕ) → 0 < w → n < 10 ^ w → length (decimal n) ≤ w
decimal_length w n p h = rw (decimal_digits w n p h) (digits_length w n)

-- a number's field says the number
pub value_decimal : (w n : ℕ) → 0 < w → n < 10 ^ w → value w (decimal n) ≡ n
unfolding value
value_decimal w n p h =
    simp (le-leb (length (decimal n)) w (decimal_length w n p h), starts_decimal n)
    (rw (decimal_digits w n p h, ← append-nil (digits w n)) (scan_digits (10 ^ w) w n [] h ∙ (unfold scan in refl)))

starts_some : (f : List ℕ) → starts f ≡ true → 0 < length f
unfolding starts
starts_some [] e = absurd (let z : ◌≡◌ {A = ℕ} 0 1 = cc in omega arith)
starts_some (x ∷ s) e = omega arith

scan_decimal : (bad : ℕ) (f : List ℕ) → starts f ≡ true → scan bad 0 f < bad → f ≡ decimal (scan bad 0 f)
unfolding decimal
scan_decimal bad f e h =
    let l : scan bad 0 f < 10 ^ length f = ⊎_elim (λ r. absurd (omega arith)) (λ r. rw add-zero at r) (scan_room bad f 0 0 (omega arith)) in
    sym (scan_starts bad f e h)
    ∙ digits_fuel (length f) (suc (scan bad 0 f)) (scan bad 0 f) (starts_some f e) (omega arith) l (below_power (scan bad 0 f))

-- a field that says a number is the number's decimal digits
pub decimal_value : (w : ℕ) (f : List ℕ) → value w f < 10 ^ w → f ≡ decimal (value w f)
unfolding value
decimal_value w f h = go (leb (length f) w) (starts f) refl h
  where
    go :
        (p : Bool) (q : Bool) → starts f ≡ q →
        cond p (cond q (scan (10 ^ w) 0 f) (10 ^ w)) (10 ^ w) < 10 ^ w → f ≡ decimal (cond p (cond q (scan (10 ^ w) 0 f) (10 ^ w)) (10 ^ w))
    go false q e h = absurd (omega arith)
    go true false e h = absurd (omega arith)
    go true true e h = scan_decimal (10 ^ w) f e h

digits_above : (b k n : ℕ) → b < 48 → above b (digits k n) ≡ true
unfolding digits
digits_above b zero n h = unfold above in refl
digits_above b (suc k) n h = go (size n) (digits_above b k (n / 10) h)
  where
    one : (m : ℕ) → above b ((48 + m) ∷ []) ≡ true
    one m = unfold above in rw (lt-ltb b (48 + m) (omega arith))

    go : Size n → above b (digits k (n / 10)) ≡ true → above b (digits (suc k) n) ≡ true
    go (small l) ih = rw (digits_one k n l) (one n)
    go (large l) ih = rw (digits_more k n l) (above_append b (digits k (n / 10)) ((48 + n % 10) ∷ []) ih (one (n % 10)))

pub above_decimal : (b n : ℕ) → b < 48 → above b (decimal n) ≡ true
unfolding decimal
above_decimal b n h = digits_above b (suc n) n h
