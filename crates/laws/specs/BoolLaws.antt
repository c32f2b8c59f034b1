-- Laws of `&&` and `||`, cases of a test, and tests as facts.
use Rattle.std.specs.Prelude.{ℕ, ◌≤◌, ◌<◌, ◌≡◌, refl, Bool, true, false, ◌&&◌, ◌||◌, ◌↔◌, ◌⊎◌, eqb, ltb, leb}
use Rattle.std.proofs.Common.{sym, ◌∙◌, true≢false, inl, inr, ⊎_elim, eqb-true, eq-eqb, ltb-true, lt-ltb, leb-true, le-leb}
use Rattle.std.proofs.Math.Bool.{or-true, and-false}
use Rattle.std.proofs.lemmas.Bool.{false≢true, eqb-false}

pub both_left : (a b : Bool) → (a && b) ≡ true → a ≡ true
both_left true b e = refl
both_left false b e = e

pub both_right : (a b : Bool) → (a && b) ≡ true → b ≡ true
both_right true b e = e
both_right false true e = refl
both_right false false e = e

pub both : (a b : Bool) → a ≡ true → b ≡ true → (a && b) ≡ true
both a b e f = rw (e, f)

-- one that fails fails both
pub miss_left : (a b : Bool) → a ≡ false → (a && b) ≡ false
miss_left a b e = rw e

pub miss_right : (a b : Bool) → b ≡ false → (a && b) ≡ false
miss_right a b e = rw e (and-false a)

pub either_left : (a b : Bool) → a ≡ true → (a || b) ≡ true
either_left a b e = rw e

pub either_right : (a b : Bool) → b ≡ true → (a || b) ≡ true
either_right a b e = rw e (or-true a)

-- neither holds
pub neither_left : (a b : Bool) → (a || b) ≡ false → a ≡ false
neither_left true b e = e
neither_left false b e = refl

pub neither_right : (a b : Bool) → (a || b) ≡ false → b ≡ false
neither_right true true e = e
neither_right true false e = refl
neither_right false b e = e

pub neither : (a b : Bool) → a ≡ false → b ≡ false → (a || b) ≡ false
neither a b e f = rw (e, f)

-- one of two holds
pub either_of : (a b : Bool) → (a || b) ≡ true → (a ≡ true) ⊎ (b ≡ true)
either_of true b e = inl refl
either_of false b e = inr e

-- where the first fails, the second passes
pub or_else : (a b : Bool) → (a || b) ≡ true → a ≡ false → b ≡ true
or_else true b e f = absurd (true≢false f)
or_else false b e f = e

-- not both hold: where the first passes, the second fails
pub missed : (a b : Bool) → (a && b) ≡ false → a ≡ true → b ≡ false
missed true b e f = e
missed false b e f = absurd (false≢true f)

-- CASES OF A TEST

-- a test that passes does not fail
pub clash : {t : Bool} → t ≡ true → t ≡ false → ⊥
clash e f = true≢false (sym e ∙ f)

pub bool_cases : (t : Bool) → (t ≡ true) ⊎ (t ≡ false)
bool_cases true = inl refl
bool_cases false = inr refl

pub is_true : (t : Bool) → (t ≡ false → ⊥) → t ≡ true
is_true true h = refl
is_true false h = absurd (h refl)

pub is_false : (t : Bool) → (t ≡ true → ⊥) → t ≡ false
is_false true h = absurd (h refl)
is_false false h = refl

pub same_or_not : (a b : ℕ) → (a ≡ b) ⊎ (a ≡ b → ⊥)
same_or_not a b = ⊎_elim (λ e. inl (eqb-true a b e)) (λ e. inr (eqb-false a b e)) (bool_cases (eqb a b))

-- two tests that imply each other
pub both_ways : (a b : Bool) → (a ≡ true → b ≡ true) → (b ≡ true → a ≡ true) → a ≡ b
both_ways true b f g = sym (f refl)
both_ways false true f g = g refl
both_ways false false f g = refl

-- a test of two, as a fact of both
pub both_exactly : {a b : Bool} {A B : Type 0} → (a ≡ true) ↔ A → (b ≡ true) ↔ B → ((a && b) ≡ true) ↔ (A × B)
both_exactly {a} {b} e f = (λ h. (e.0 (both_left a b h), f.0 (both_right a b h)), λ h. both a b (e.1 h.0) (f.1 h.1))

pub leb_exactly : (a b : ℕ) → (leb a b ≡ true) ↔ (a ≤ b)
leb_exactly a b = (leb-true a b, le-leb a b)

pub ltb_exactly : (a b : ℕ) → (ltb a b ≡ true) ↔ (a < b)
ltb_exactly a b = (ltb-true a b, lt-ltb a b)

pub eqb_exactly : (a b : ℕ) → (eqb a b ≡ true) ↔ (a ≡ b)
eqb_exactly a b = (eqb-true a b, eq-eqb a b)
