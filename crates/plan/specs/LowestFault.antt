-- A line is clear exactly when no test of it fails, and its refusal has the lowest number of the tests that it fails.
use Rattle.std.specs.Prelude.{ℕ, ◌≤◌, ◌<◌, ◌≡◌, refl, List, [], ◌∷◌, ◌⊎◌, ◌↔◌, Bool, true, false, ◌&&◌, ltb, Option, Some, None, Ok, Err}
use Rattle.std.proofs.Common.{sym, ◌∙◌, inl, inr, arith, ltb-true}
use Rattle.std.proofs.lemmas.Bool.{false≢true}
use Rattle.laws.specs.BoolLaws.{both_left, both_right}
use Rattle.laws.specs.Sums.{all, Each, Chain}
use Rattle.plan.specs.Refusals.{Refusal, Shape, Number, unless, number_of}
use Rattle.plan.specs.Line.{Item, Kind, shape, written, item_of}
use Rattle.plan.specs.Rules.{Known, follows, Test, test, first_failed, tests_of, rule}
use Rattle.plan.specs.Reading.{rules, fault, fault_of}
use Rattle.plan.specs.ListLaws.{chain_rest}
use Rattle.plan.specs.JudgeLaws.{unless_clear}
use Rattle.plan.specs.KindLaws.{all_kind}

-- all tests of a line, 1 and 2 with them
abbrev pub line_tests : Known → Item → List Test
line_tests t i = test Shape (follows t.phase i.kind) ∷ test Number (written (shape i.kind) i.nums) ∷ tests_of t i.kind i.nums

-- some test of this refusal does not hold
abbrev pub Fails : Refusal → List Test → Type 0
Fails r [] = ⊥
Fails r (x ∷ xs) = ((x.holds ≡ false) × (r ≡ x.refusal)) ⊎ Fails r xs

-- r is the lowest of the tests that fail
pub record Lowest (r : Refusal) (xs : List Test) : Type 0 where
  pub fails : Fails r xs
  pub lowest : (s : Refusal) → Fails s xs → number_of r ≤ number_of s

abbrev Below : Test → Test → Type 0
Below x y = number_of x.refusal < number_of y.refusal

fails_later : (xs : List Test) (x : Test) (s : Refusal) → Chain Below (x ∷ xs) → Fails s xs → number_of x.refusal < number_of s
fails_later [] x s c f = absurd f
fails_later (y ∷ xs) x s c (inl e) = rw e.1 c.0
fails_later (y ∷ xs) x s c (inr f) = let l = fails_later xs y s c.1 f in omega (arith, c.0)

-- where the tests stand in the order of their numbers, the first that fails is the lowest
first_lowest : (xs : List Test) (r : Refusal) → Chain Below xs → first_failed xs ≡ Err r → Lowest r xs
unfolding unless
first_lowest [] r c h = absurd (let z : ◌≡◌ {A = ℕ} 0 1 = cc in omega arith)
first_lowest (x ∷ xs) r c h = go x.holds refl h (first_lowest xs r (chain_rest Below x xs c))
  where
    go : (b : Bool) → x.holds ≡ b → unless b x.refusal (first_failed xs) ≡ Err r → (first_failed xs ≡ Err r → Lowest r xs) → Lowest r (x ∷ xs)
    go true e h ih =
        let i = ih h in
        record { fails = inr i.fails; lowest = λ s. elim [ inl f ↦ absurd (false≢true (sym f.0 ∙ e)) | inr f ↦ i.lowest s f ] }
    go false e h ih =
        let q : r ≡ x.refusal = cc in
        record {
          fails = inl (e, q);
          lowest = λ s. elim [
            | inl f ↦ let z : number_of r ≡ number_of s = cc f.1 in omega arith
            | inr f ↦ let l = fails_later xs x s c f in let z : number_of r ≡ number_of x.refusal = cc in omega arith
          ];
        }

-- do the tests stand in the order of their numbers?
abbrev rising : List Test → Bool
rising [] = true
rising (x ∷ []) = true
rising (x ∷ y ∷ xs) = ltb (number_of x.refusal) (number_of y.refusal) && rising (y ∷ xs)

rising_chain : (xs : List Test) → rising xs ≡ true → Chain Below xs
rising_chain [] h = tt
rising_chain (x ∷ []) h = tt
rising_chain (x ∷ y ∷ xs) h =
    let l : Bool = ltb (number_of x.refusal) (number_of y.refusal) in
    (ltb-true _ _ (both_left l (rising (y ∷ xs)) h), rising_chain (y ∷ xs) (both_right l (rising (y ∷ xs)) h))

tests_rise : (t : Known) (k : Kind) (b c : Bool) (ns : List ℕ) → rising (test Shape b ∷ test Number c ∷ tests_of t k ns) ≡ true
unfolding tests_of number_of all
tests_rise t k b c ns = all_kind (λ k. rising (test Shape b ∷ test Number c ∷ tests_of t k ns)) refl k

-- no test fails exactly when all hold
first_clear : (xs : List Test) → (first_failed xs ≡ Ok tt) ↔ Each (λ x. x.holds ≡ true) xs
first_clear [] = (λ h. tt, λ h. refl)
first_clear (x ∷ xs) = (
  λ h. let a = (unless_clear x.holds x.refusal (first_failed xs)).0 h in (a.0, (first_clear xs).0 a.1),
  λ h. (unless_clear x.holds x.refusal (first_failed xs)).1 (h.0, (first_clear xs).1 h.1),
)

-- a line is clear exactly when no test of it fails
pub clear_exactly : (t : Known) (i : Item) → (fault rules t i ≡ Ok tt) ↔ Each (λ x. x.holds ≡ true) (line_tests t i)
unfolding fault rule
clear_exactly t i = first_clear (line_tests t i)

-- "in a line the lowest number"
pub fault_lowest : (t : Known) (i : Item) (r : Refusal) → fault rules t i ≡ Err r → Lowest r (line_tests t i)
unfolding fault rule
fault_lowest t i r h =
    let c = tests_rise t i.kind (follows t.phase i.kind) (written (shape i.kind) i.nums) i.nums in
    first_lowest (line_tests t i) r (rising_chain (line_tests t i) c) h

-- a line of no kind is refused 1, and any other line by the lowest of its tests that fail
pub line_lowest :
    (t : Known) (l : List ℕ) (r : Refusal) → fault_of rules t (item_of l) ≡ Err r →
    ((item_of l ≡ None) × (r ≡ Shape)) ⊎ ((i : Item) × (item_of l ≡ Some i) × Lowest r (line_tests t i))
line_lowest t l r = go (item_of l) refl
  where
    go :
        (o : Option Item) → item_of l ≡ o → fault_of rules t o ≡ Err r →
        ((item_of l ≡ None) × (r ≡ Shape)) ⊎ ((i : Item) × (item_of l ≡ Some i) × Lowest r (line_tests t i))
    go None e h = inl (e, cc)
    go (Some i) e h = inr (i, e, fault_lowest t i r h)
