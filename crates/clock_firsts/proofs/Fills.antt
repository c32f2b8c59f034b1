-- A list that holds one value everywhere, and one whose part from a on, of k cells, is ys.
use Rattle.std.proofs.Common.{ℕ, zero, suc, ◌≡◌, ◌<◌, ◌≤◌, ◌+◌, ◌-◌, List, [], ◌∷◌, ◌++◌, length, get_or, take, drop, replicate, refl, sym, ap, ◌∙◌, add-one, arith}
use Rattle.std.proofs.lemmas.List.{places}
use Rattle.std.proofs.lemmas.Grind.{replicate_next}
use Rattle.laws.specs.Range.{list_to}

pub replicate_list : {A : Type 0} (n : ℕ) (x : A) → replicate n x ≡ list_to n (λ m. x)
unfolding list_to
replicate_list zero x = refl
replicate_list (suc n) x = ap (λ k. replicate k x) (sym (add-one n)) ∙ replicate_next n x ∙ ap (λ l. l ++ x ∷ []) (replicate_list n x)

module _ (a k : ℕ) (xs ys : List ℕ) (room : a + k ≤ length xs) (long : length ys ≡ k) where
  pub part_length : length (take a xs ++ (ys ++ drop k (drop a xs))) ≡ length xs
  part_length = grind (arith, places)

  pub part_in : (j : ℕ) → a ≤ j → j < a + k → get_or (take a xs ++ (ys ++ drop k (drop a xs))) j 0 ≡ get_or ys (j - a) 0
  part_in j h l = grind (arith, places)

  pub part_out : (j : ℕ) → (a ≤ j → j < a + k → ⊥) → get_or (take a xs ++ (ys ++ drop k (drop a xs))) j 0 ≡ get_or xs j 0
  part_out j h = grind (arith, places)
