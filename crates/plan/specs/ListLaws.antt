-- Laws of lists: rows that pass a test, rows that rise, and the end of a list.
use Rattle.std.specs.Prelude.{ℕ, ◌<◌, ◌≡◌, Bool, ◌||◌}
use Rattle.std.proofs.Math.Path.{refl}
use Rattle.std.proofs.Common.{ap, sym, ◌∙◌, arith}
use mathlib.Core.List.{List, [], ◌∷◌, ◌++◌, Memᴰ}
use Rattle.std.proofs.Math.Bool.{true, false}
use Rattle.std.proofs.lemmas.Bool.{false≢true}
use Rattle.laws.specs.BoolLaws.{either_left, either_right}
use Rattle.laws.specs.Bytes.{is_nil}
use Rattle.laws.specs.Sums.{any, first, only, Each, Chain, Pairs}
use Rattle.laws.specs.SumLaws.{each_map, each_append, each_has, first_in_law, first_out_law}
use Rattle.plan.specs.Rules.{last}

-- what holds of the rows that pass holds of each row if it passes
pub only_each : {A : Type 0} (f : A → Bool) (P : A → Type 0) (xs : List A) → Each P (only f xs) → Each (λ x. f x ≡ true → P x) xs
unfolding only
only_each f P [] h = tt
only_each f P (x ∷ xs) h = go (f x) h (only_each f P xs)
  where
    go : (b : Bool) → Each P (elim b [ true ↦ x ∷ only f xs | false ↦ only f xs ]) → (Each P (only f xs) → Each (λ x. f x ≡ true → P x) xs) → (b ≡ true → P x) × Each (λ x. f x ≡ true → P x) xs
    go true h ih = (λ e. h.0, ih h.1)
    go false h ih = (λ e. absurd (false≢true e), ih h)

-- rows that pass: the first may be among them; what holds of each row if it passes holds of each of them, and so of every two
module _ {A : Type 0} (f : A → Bool) where
  pub only_either : (Q : List A → Type 0) (x : A) (xs : List A) → (f x ≡ true → Q (x ∷ only f xs)) → Q (only f xs) → Q (only f (x ∷ xs))
  unfolding only
  only_either Q x xs h k = go (f x) h
    where
      go : (b : Bool) → (b ≡ true → Q (x ∷ only f xs)) → Q (elim b [ true ↦ x ∷ only f xs | false ↦ only f xs ])
      go true h = h refl
      go false h = k

  pub each_only : (P : A → Type 0) (xs : List A) → Each (λ x. f x ≡ true → P x) xs → Each P (only f xs)
  each_only P [] h = unfold only in tt
  each_only P (x ∷ xs) h = let ih = each_only P xs h.1 in only_either (Each P) x xs (λ e. (h.0 e, ih)) ih

  pub pairs_only : (R : A → A → Type 0) (xs : List A) → Pairs (λ x y. f x ≡ true → f y ≡ true → R x y) xs → Pairs R (only f xs)
  pairs_only R [] h = unfold only in tt
  pairs_only R (x ∷ xs) h =
      let ih = pairs_only R xs h.1 in only_either (Pairs R) x xs (λ e. (each_only (R x) xs (each_map xs (λ y r. r e) h.0), ih)) ih

-- some row passes a weaker test too
pub any_weaker : {A : Type 0} {f g : A → Bool} (xs : List A) → ((x : A) → f x ≡ true → g x ≡ true) → any f xs ≡ true → any g xs ≡ true
unfolding any
any_weaker [] w h = h
any_weaker {f} {g} (x ∷ xs) w h = go (f x) refl h (any_weaker xs w)
  where
    go : (b : Bool) → f x ≡ b → (b || any f xs) ≡ true → (any f xs ≡ true → any g xs ≡ true) → (g x || any g xs) ≡ true
    go true e h ih = either_left (g x) (any g xs) (w x e)
    go false e h ih = either_right (g x) (any g xs) (ih h)

-- rows that rise from d rise, and they rise from d where d is below each
module _ {A : Type 0} (R : A → A → Type 0) (d : A) where
  pub chain_rest : (xs : List A) → Chain R (d ∷ xs) → Chain R xs
  chain_rest [] h = tt
  chain_rest (x ∷ xs) h = h.1

  pub chain_from : (Q : A → Type 0) (xs : List A) → ((x : A) → Q x → R d x) → Each Q xs → Chain R xs → Chain R (d ∷ xs)
  chain_from Q [] w e h = tt
  chain_from Q (x ∷ xs) w e h = (w x e.0, h)

-- where R passes on, the first row stands in R to each that follows, and so do every two rows
module _ {A : Type 0} (R : A → A → Type 0) (on : (x y z : A) → R x y → R y z → R x z) where
  pub chain_above : (x : A) (xs : List A) → Chain R (x ∷ xs) → Each (R x) xs
  chain_above x [] h = tt
  chain_above x (y ∷ xs) h = (h.0, each_map xs (λ z l. on x y z h.0 l) (chain_above y xs h.1))

  pub chain_pairs : (xs : List A) → Chain R xs → Pairs R xs
  chain_pairs [] h = tt
  chain_pairs (x ∷ xs) h = (chain_above x xs h, chain_pairs xs (chain_rest R x xs h))

-- where rows rise by a number of theirs, the first is below each that follows
pub rising_above : {A : Type 0} (f : A → ℕ) (x : A) (xs : List A) → Chain (λ r s. f r < f s) (x ∷ xs) → Each (λ y. f x < f y) xs
rising_above f x xs h = chain_above (λ r s. f r < f s) (λ x y z a b. omega arith) x xs h

pub rising_pairs : {A : Type 0} (f : A → ℕ) (xs : List A) → Chain (λ r s. f r < f s) xs → Pairs (λ r s. f r < f s) xs
rising_pairs f xs h = chain_pairs (λ r s. f r < f s) (λ x y z a b. omega arith) xs h

-- every two rows of two lists, one after the other
pub pairs_append : {A : Type 0} (R : A → A → Type 0) (xs ys : List A) → Pairs R xs → Pairs R ys → Each (λ x. Each (R x) ys) xs → Pairs R (xs ++ ys)
pairs_append R [] ys p q h = q
pairs_append R (x ∷ xs) ys p q h = (each_append (R x) xs ys p.0 h.0, pairs_append R xs ys p.1 q h.1)

pub pairs_map : {A : Type 0} (R S : A → A → Type 0) (xs : List A) → ((x y : A) → R x y → S x y) → Pairs R xs → Pairs S xs
pairs_map R S [] w p = tt
pairs_map R S (x ∷ xs) w p = (each_map xs (λ y r. w x y r) p.0, pairs_map R S xs w p.1)

-- rows of which every two stand in R stand in R one to the next
pub pairs_chain : {A : Type 0} (R : A → A → Type 0) (xs : List A) → Pairs R xs → Chain R xs
pairs_chain R [] h = tt
pairs_chain R (x ∷ xs) h = chain_from R x (R x) xs (λ y r. r) h.0 (pairs_chain R xs h.1)

-- a row that passes, where none that stands in R to it does, is the first that passes
pub first_named :
    {A : Type 0} (f : A → Bool) (d : A) (R : A → A → Type 0) (x : A) (xs : List A) →
    Pairs R xs → ((y : A) → R y x → f y ≡ false) → f x ≡ true → Memᴰ x xs → first f d xs ≡ x
first_named {A = A} f d R x [] p w e x5 = elim x5 [ ]
first_named f d R x (y ∷ xs) p w e (Memᴰ.head q) = first_in_law f d y xs (ap f (sym q) ∙ e) ∙ sym q
first_named f d R x (y ∷ xs) p w e (Memᴰ.tail m) =
    first_out_law f d y xs (w y (each_has (R y) xs p.0 m)) ∙ first_named f d R x xs p.1 w e m

-- a list that goes on is not empty
pub append_some : {A : Type 0} (xs : List A) (y : A) (ys : List A) → is_nil (xs ++ (y ∷ ys)) ≡ false
append_some [] y ys = refl
append_some (x ∷ xs) y ys = refl

-- the last row is the one that was added
pub last_append : {A : Type 0} (d x : A) (xs : List A) → last d (xs ++ (x ∷ [])) ≡ x
last_append d x [] = refl
last_append d x (y ∷ xs) = last_append y x xs
