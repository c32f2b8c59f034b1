-- Laws of sets as bits: each bit of an operation's result, the empty set, and the greatest name.
use Rattle.std.specs.Prelude.{ℕ, zero, suc, ◌+◌, ◌-◌, ◌*◌, ◌/◌, ◌%◌, ◌^◌, ◌<◌, ◌≤◌, min, max, ◌≡◌, refl, true, false, not, ◌&&◌, ◌||◌, eqb}
use Rattle.std.proofs.Common.{sym, ap, ◌∙◌, true≢false, ⊎_elim, pow-suc, div-one, mul-div_cancel, eq-zero-or-pos, le_antisymm, lt_of_lt_of_le, mod-eq_of_lt, lt_of_not-le, add-one, arith, pow_pos, pow_mono, eq-eqb, ne_eqb, eqb-true}
use Rattle.std.proofs.lemmas.Bool.{false≢true}
use Rattle.std.proofs.Math.Nat.{pow-succ', zero-div, div_self, div-eq_of_lt, div-eq_of_lt-le, div-div-eq-div-mul, mul-mod_left}
use Rattle.std.proofs.Math.Pow.{pow-lt}
use Rattle.std.specs.Int.Bits.{bit_and, bit_or, and_step, or_step}
use Rattle.std.proofs.lemmas.Nat.{and_shr, or_shr, and_le_l, or_lt, leading_top, leading_le}
use Rattle.std.specs.Int.Count.{count_leading_zeros, count_trailing_zeros, under}
use Rattle.laws.specs.BoolLaws.{same_or_not}
use Rattle.laws.specs.Range.{any_to, highest}
use Rattle.laws.specs.RangeLaws.{any_hit, any_at, none_of, highest_zero, highest_is, highest_le}
use Rattle.laws_picks.specs.Picks.{lowest}
use Rattle.laws_picks.specs.PickLaws.{lowest_passes, lowest_least, lowest_zero}
use Rattle.clock_sets.specs.Sets.{in_set, SetTo, With, Without, Meet, Join, Less, Highest}

-- A BIT

-- bit k of s
abbrev bit : ℕ → ℕ → ℕ
bit s k = s / 2 ^ k % 2

bit_suc : (s k : ℕ) → bit s (suc k) ≡ bit (s / 2) k
bit_suc s k = rw (pow-succ' 2 k, ← div-div-eq-div-mul s 2 (2 ^ k))

-- of what both have, and of what either has
bit_and_at : (a b k : ℕ) → bit (bit_and a b) k ≡ min (bit a k) (bit b k)
bit_and_at a b k = rw (and_shr, and_step) (omega arith)

bit_or_at : (a b k : ℕ) → bit (bit_or a b) k ≡ max (bit a k) (bit b k)
bit_or_at a b k = rw (or_shr, or_step) (omega arith)

-- of two numbers that make n ones, one has it
bit_ones : (n k x y : ℕ) → k < n → x + y + 1 ≡ 2 ^ n → bit x k + bit y k ≡ 1
bit_ones zero k x y h e = absurd (omega arith)
bit_ones (suc n) zero x y h e = rw (div-one x, div-one y) (omega (arith, pow-suc 2 n))
bit_ones (suc n) (suc k) x y h e =
    rw (bit_suc x k, bit_suc y k) (bit_ones n k (x / 2) (y / 2) (omega arith) (omega (arith, pow-suc 2 n)))

bit_not : (b k : ℕ) → b < 2 ^ 64 → k < 64 → bit ((2 ^ 64 - 1) - b) k ≡ 1 - bit b k
bit_not b k h l = omega (arith, bit_ones 64 k ((2 ^ 64 - 1) - b) b l (omega arith))

-- of a power
bit_same : (j : ℕ) → bit (2 ^ j) j ≡ 1
bit_same j = rw (div_self (pow_pos j))

bit_over : (s k : ℕ) → s < 2 ^ k → bit s k ≡ 0
bit_over s k h = rw (div-eq_of_lt h)

bit_other : (j k : ℕ) → (k ≡ j → ⊥) → bit (2 ^ j) k ≡ 0
bit_other zero zero h = absurd (h refl)
bit_other zero (suc k) h = bit_over 1 (suc k) (pow-lt {i = 0} {j = suc k} (omega arith))
bit_other (suc j) zero h = rw (div-one (2 ^ suc j), pow-suc 2 j) (mul-mod_left (2 ^ j) 2)
bit_other (suc j) (suc k) h =
    rw (bit_suc (2 ^ suc j) k, pow-suc 2 j, mul-div_cancel (2 ^ j) {n = 2} (omega arith)) (bit_other j k (λ e. h (ap suc e)))

-- the highest
bit_top : (s j : ℕ) → 2 ^ j ≤ s → s < 2 ^ suc j → bit s j ≡ 1
bit_top s j h l = rw (div-eq_of_lt-le {k = 1} (2 ^ j) {m = s} (omega arith) (omega (arith, pow-suc 2 j)))

-- A BIT AS A TEST

test_and : (x y : ℕ) → x < 2 → y < 2 → eqb (min x y) 1 ≡ (eqb x 1 && eqb y 1)
test_and zero zero h l = refl
test_and zero (suc zero) h l = refl
test_and (suc zero) zero h l = refl
test_and (suc zero) (suc zero) h l = refl
test_and (suc (suc x)) y h l = absurd (omega arith)
test_and zero (suc (suc y)) h l = absurd (omega arith)
test_and (suc zero) (suc (suc y)) h l = absurd (omega arith)

test_or : (x y : ℕ) → x < 2 → y < 2 → eqb (max x y) 1 ≡ (eqb x 1 || eqb y 1)
test_or zero zero h l = refl
test_or zero (suc zero) h l = refl
test_or (suc zero) zero h l = refl
test_or (suc zero) (suc zero) h l = refl
test_or (suc (suc x)) y h l = absurd (omega arith)
test_or zero (suc (suc y)) h l = absurd (omega arith)
test_or (suc zero) (suc (suc y)) h l = absurd (omega arith)

test_not : (y : ℕ) → y < 2 → eqb (1 - y) 1 ≡ not (eqb y 1)
test_not zero l = refl
test_not (suc zero) l = refl
test_not (suc (suc y)) l = absurd (omega arith)

-- A NAME

in_suc : (s k : ℕ) → in_set s (suc k) ≡ eqb (bit s k) 1
unfolding in_set
in_suc s k = let e : suc k - 1 ≡ k = omega arith in rw e

-- the set of one name
single : (v w : ℕ) → 0 < v → 0 < w → in_set (2 ^ (v - 1)) w ≡ eqb w v
single v zero h l = absurd (omega arith)
single v (suc k) h l =
    in_suc (2 ^ (v - 1)) k
    ∙ ⊎_elim
    (λ (e : suc k ≡ v). let q : v - 1 ≡ k = omega arith in rw (q, bit_same k) (sym (eq-eqb (suc k) v e)))
    (λ (e : suc k ≡ v → ⊥). rw (bit_other (v - 1) k (λ q. e (omega arith))) (sym (ne_eqb (suc k) v e)))
    (same_or_not (suc k) v)

in_and : (a b w : ℕ) → 0 < w → in_set (bit_and a b) w ≡ (in_set a w && in_set b w)
in_and a b zero h = absurd (omega arith)
in_and a b (suc k) h =
    rw (in_suc (bit_and a b) k, in_suc a k, in_suc b k, bit_and_at a b k) (test_and (bit a k) (bit b k) (omega arith) (omega arith))

in_or : (a b w : ℕ) → 0 < w → in_set (bit_or a b) w ≡ (in_set a w || in_set b w)
in_or a b zero h = absurd (omega arith)
in_or a b (suc k) h =
    rw (in_suc (bit_or a b) k, in_suc a k, in_suc b k, bit_or_at a b k) (test_or (bit a k) (bit b k) (omega arith) (omega arith))

in_not : (b w : ℕ) → b < 2 ^ 64 → 0 < w → w ≤ 16 → in_set ((2 ^ 64 - 1) - b) w ≡ not (in_set b w)
in_not b zero l h g = absurd (omega arith)
in_not b (suc k) l h g =
    rw (in_suc ((2 ^ 64 - 1) - b) k, in_suc b k, bit_not b k l (omega arith)) (test_not (bit b k) (omega arith))

-- THE OPERATIONS

-- the machine's `1 << k`
shifted : (k : ℕ) → k < 64 → (1 * 2 ^ k) % 2 ^ 64 ≡ 2 ^ k
shifted k h = let e : 1 * 2 ^ k ≡ 2 ^ k = omega arith in rw e (mod-eq_of_lt (pow-lt {i = k} {j = 64} h))

pub with_is : (s v : ℕ) → 0 < v → v ≤ 16 → s < 65536 → With s v (bit_or s ((1 * 2 ^ (v - 1)) % 2 ^ 64))
with_is s v h l g =
    rw (shifted (v - 1) (omega arith)) (record {
      names = λ w a b. rw (in_or s (2 ^ (v - 1)) w a, single v w h a);
      wide = or_lt 16 s (2 ^ (v - 1)) g (pow-lt {i = v - 1} {j = 16} (omega arith));
      narrow = λ a b. or_lt 8 s (2 ^ (v - 1)) a (pow-lt {i = v - 1} {j = 8} (omega arith));
    })

pub meet_is : (a b : ℕ) → Meet a b (bit_and a b)
meet_is a b = record { names = λ w h l. in_and a b w h; within = and_le_l a b }

pub join_is : (a b : ℕ) → a < 65536 → b < 65536 → Join a b (bit_or a b)
join_is a b h l = record { names = λ w p q. in_or a b w p; wide = or_lt 16 a b h l; narrow = λ p q. or_lt 8 a b p q }

pub less_is : (a b : ℕ) → b < 2 ^ 64 → Less a b (bit_and a ((2 ^ 64 - 1) - b))
less_is a b h =
    record { names = λ w p q. rw (in_and a ((2 ^ 64 - 1) - b) w p, in_not b w h p q); within = and_le_l a ((2 ^ 64 - 1) - b) }

pub without_is : (s v : ℕ) → 0 < v → v ≤ 16 → Without s v (bit_and s ((2 ^ 64 - 1) - (1 * 2 ^ (v - 1)) % 2 ^ 64))
without_is s v h l =
    rw (shifted (v - 1) (omega arith)) (
    let r = less_is s (2 ^ (v - 1)) (pow-lt {i = v - 1} {j = 64} (omega arith)) in
    record { names = λ w p q. r.names w p q ∙ rw (single v w h p); within = r.within })

-- THE EMPTY SET

pub in_none : (w : ℕ) → in_set 0 w ≡ false
unfolding in_set
in_none w = rw (zero-div (2 ^ (w - 1)))

-- THE GREATEST NAME

in_top : (s j : ℕ) → 2 ^ j ≤ s → s < 2 ^ suc j → in_set s (suc j) ≡ true
in_top s j h l = rw (in_suc s j, bit_top s j h l)

-- no name above the bound is in a set
pub in_over : (s j w : ℕ) → SetTo j s → j < w → in_set s w ≡ false
in_over s j zero h l = absurd (omega arith)
in_over s j (suc k) h l = rw (in_suc s k, bit_over s k (lt_of_lt_of_le h (pow_mono {i = j} {j = k} (omega arith))))

-- a number below a power has its highest bit below that place
top_under : (n s j : ℕ) → 2 ^ j ≤ s → s < 2 ^ n → j < n
top_under n s j h l = lt_of_not-le (λ (g : n ≤ j). absurd (omega (arith, pow_mono {i = n} {j = j} g)))

highest_top : (n s j : ℕ) → 2 ^ j ≤ s → s < 2 ^ suc j → s < 2 ^ n → highest n (in_set s) ≡ suc j
highest_top n s j h l g =
    highest_is n (suc j) (in_set s) (omega arith) (top_under n s j h g) (in_top s j h l) (λ w p q. in_over s (suc j) w l p)

highest_empty : (n : ℕ) → highest n (in_set 0) ≡ 0
highest_empty n = (highest_zero n (in_set 0)).0 (none_of n (in_set 0) (λ w p q. in_none w))

-- an odd number has a bit: at most 63 zeros stand above it
pub odd_zeros : (x : ℕ) → count_leading_zeros 64 (x * 2 + 1) ≤ 63
unfolding count_leading_zeros
odd_zeros x = rw (add-one (x * 2)) (leading_le 63 (suc (x * 2) / 2))

-- s doubled, with a bit below, has its highest bit in the place that is the greatest name
placed : (n s j : ℕ) → 2 ^ j ≤ s * 2 + 1 → s * 2 + 1 < 2 ^ suc j → s < 2 ^ n → highest n (in_set s) ≡ j
placed n s zero h l g = let e : s ≡ 0 = omega arith in rw e (highest_empty n)
placed n s (suc j) h l g = highest_top n s j (omega (arith, pow-suc 2 j)) (omega (arith, pow-suc 2 (suc j))) g

counted : (n s : ℕ) → s < 65536 → s < 2 ^ n → 63 - count_leading_zeros 64 (s * 2 + 1) ≡ highest n (in_set s)
counted n s h l =
    let t = leading_top 64 (s * 2 + 1) (omega arith) (omega arith) in rw (placed n s t.0 t.2 t.3 l) (omega (arith, t.1))

pub highest_in_is : (s : ℕ) → s < 65536 → Highest s (63 - count_leading_zeros 64 (s * 2 + 1))
highest_in_is s h =
    let e : 63 - count_leading_zeros 64 (s * 2 + 1) ≡ highest 16 (in_set s) = counted 16 s h h in
    record {
      is = e;
      wide = rw e (highest_le 16 (in_set s));
      narrow_is = λ l. counted 8 s h l;
      narrow = λ l. rw (counted 8 s h l) (highest_le 8 (in_set s));
    }

-- NOBODY AND SOMEBODY

-- somebody is in a set that is not 0
pub some_name : (n s : ℕ) → SetTo n s → any_to n (in_set s) ≡ not (eqb s 0)
some_name n zero l = none_of n (in_set 0) (λ w p q. in_none w)
some_name n (suc s) l =
    let t = leading_top n (suc s) (omega arith) l in
    rw (ne_eqb (suc s) 0 (λ e. omega arith))
    (any_hit n (suc t.0) (in_set (suc s)) (omega arith) (omega (arith, t.1)) (in_top (suc s) t.0 t.2 t.3))

pub some_vcpu : (s : ℕ) → s < 65536 → any_to 16 (in_set s) ≡ not (eqb s 0)
some_vcpu s h = some_name 16 s h

pub some_task : (s : ℕ) → s < 256 → any_to 8 (in_set s) ≡ not (eqb s 0)
some_task s h = some_name 8 s h

-- THE LEAST NAME

-- no bit below the place that is counted is set, and that one is
trailing_low : (k s j : ℕ) → j < count_trailing_zeros k s → bit s j ≡ 0
unfolding count_trailing_zeros
trailing_low zero s j h = absurd (omega arith)
trailing_low (suc k) s j h = go (s % 2) refl j h (trailing_low k (s / 2))
  where
    go : (d : ℕ) → s % 2 ≡ d → (i : ℕ) → i < under d (count_trailing_zeros k (s / 2)) → ((i : ℕ) → i < count_trailing_zeros k (s / 2) → bit (s / 2) i ≡ 0) → bit s i ≡ 0
    go zero e zero l r = rw (div-one s) e
    go zero e (suc i) l r = rw (bit_suc s i) (r i (omega arith))
    go (suc d) e i l r = absurd (omega arith)

trailing_hit : (k s : ℕ) → count_trailing_zeros k s < k → bit s (count_trailing_zeros k s) ≡ 1
unfolding count_trailing_zeros
trailing_hit zero s h = absurd (omega arith)
trailing_hit (suc k) s h = go (s % 2) refl h (trailing_hit k (s / 2))
  where
    go : (d : ℕ) → s % 2 ≡ d → under d (count_trailing_zeros k (s / 2)) < suc k → (count_trailing_zeros k (s / 2) < k → bit (s / 2) (count_trailing_zeros k (s / 2)) ≡ 1)
        → bit s (under d (count_trailing_zeros k (s / 2))) ≡ 1
    go zero e l r = rw (bit_suc s (count_trailing_zeros k (s / 2))) (r (omega arith))
    go (suc d) e l r = rw (div-one s) (omega arith)

-- a name in the set stands above what is counted
trailing_under : (k s w : ℕ) → 0 < w → in_set s w ≡ true → count_trailing_zeros k s < w
trailing_under k s zero h e = absurd (omega arith)
trailing_under k s (suc j) h e =
    let b : bit s j ≡ 1 = eqb-true (bit s j) 1 (sym (in_suc s j) ∙ e) in
    lt_of_not-le (λ (g : suc j ≤ count_trailing_zeros k s). let z = trailing_low k s j g in omega arith)

trailing_in : (k s : ℕ) → count_trailing_zeros k s < k → in_set s (suc (count_trailing_zeros k s)) ≡ true
trailing_in k s h = in_suc s (count_trailing_zeros k s) ∙ eq-eqb _ 1 (trailing_hit k s h)

-- the place that is counted is that of a name
pub trailing_to : (n s : ℕ) → SetTo n s → 0 < s → count_trailing_zeros 64 s < n
trailing_to n s l p =
    let w = any_at n (in_set s) (some_name n s l ∙ ap not (ne_eqb s 0 (λ e. omega arith))) in
    omega (arith, trailing_under 64 s w.at w.within.from w.is, w.within.to)

pub lowest_in_is : (n s : ℕ) → n ≤ 64 → SetTo n s → 0 < s → count_trailing_zeros 64 s + 1 ≡ lowest n (in_set s)
lowest_in_is n s b l p =
    let t = trailing_to n s l p in
    let u : suc (count_trailing_zeros 64 s) ≡ count_trailing_zeros 64 s + 1 = omega arith in
    let i = trailing_in 64 s (omega arith) in
    let most = lowest_least n (suc (count_trailing_zeros 64 s)) (in_set s) (omega arith) t i in
    ⊎_elim
    (λ z. absurd (true≢false (sym (any_hit n (suc (count_trailing_zeros 64 s)) (in_set s) (omega arith) t i) ∙ (lowest_zero n (in_set s)).1 z)))
    (λ g. sym u ∙ le_antisymm (trailing_under 64 s (lowest n (in_set s)) g (lowest_passes n (in_set s) g)) most)
    (eq-zero-or-pos (lowest n (in_set s)))

pub lowest_empty : (n : ℕ) → lowest n (in_set 0) ≡ 0
lowest_empty n = (lowest_zero n (in_set 0)).0 (none_of n (in_set 0) (λ w p q. in_none w))

-- SETS OF THE SAME NAMES ARE EQUAL

test_same : (x y : ℕ) → x < 2 → y < 2 → eqb x 1 ≡ eqb y 1 → x ≡ y
test_same zero zero h l e = refl
test_same zero (suc zero) h l e = absurd (false≢true e)
test_same zero (suc (suc y)) h l e = absurd (omega arith)
test_same (suc zero) zero h l e = absurd (true≢false e)
test_same (suc zero) (suc zero) h l e = refl
test_same (suc zero) (suc (suc y)) h l e = absurd (omega arith)
test_same (suc (suc x)) y h l e = absurd (omega arith)

in_half : (s w : ℕ) → 0 < w → in_set (s / 2) w ≡ in_set s (suc w)
in_half s zero h = absurd (omega arith)
in_half s (suc k) h = rw (in_suc (s / 2) k, in_suc s (suc k), bit_suc s k)

pub same_sets : (n a b : ℕ) → SetTo n a → SetTo n b → ((w : ℕ) → 0 < w → w ≤ n → in_set a w ≡ in_set b w) → a ≡ b
same_sets zero a b h l e = omega arith
same_sets (suc n) a b h l e =
    let tail : (w : ℕ) → 0 < w → w ≤ n → in_set (a / 2) w ≡ in_set (b / 2) w = λ w p q. in_half a w p ∙ e (suc w) (omega arith) (omega arith) ∙ sym (in_half b w p) in
    let high : a / 2 ≡ b / 2 = same_sets n (a / 2) (b / 2) (omega (arith, pow-suc 2 n)) (omega (arith, pow-suc 2 n)) tail in
    let low : bit a 0 ≡ bit b 0 =
    test_same (bit a 0) (bit b 0) (omega arith) (omega arith) (sym (in_suc a 0) ∙ e 1 (omega arith) (omega arith) ∙ in_suc b 0) in
    omega (arith, div-one a, div-one b)
