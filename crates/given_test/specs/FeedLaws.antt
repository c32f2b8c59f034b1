-- Laws of `feeds`: what the judge says of items in turn is whether they are clean; and the items of rows, one row more at a time.
use Prim.Native.Nat.{ℕ, zero, suc, ◌+◌, ◌≤◌, ◌<◌}
use Rattle.std.specs.Prelude.{◌≡◌, List, [], ◌∷◌, ◌++◌, ◌&&◌, is_ok}
use Rattle.std.proofs.Math.Path.{refl, ap, sym}
use Rattle.std.proofs.Common.{◌∙◌, append_assoc, le_antisymm, arith}
use Rattle.std.proofs.Math.Bool.{and_assoc}
use Rattle.std.proofs.Math.Numerals.{add-one}
use Rattle.plan.specs.Line.{Item}
use Rattle.plan.specs.Reading.{fault}
use Rattle.laws.specs.Rows.{rows}
use Rattle.judge_coded.specs.Coded.{coded}
use Rattle.plan_tables.specs.Given.{clean}
use Rattle.given_test.specs.Feed.{Run, feed, feeds, passing, lined, Fed}

-- a run that was passing until now passes after items exactly when they are clean
pub fed_clean : (r : Run) (is : List Item) → passing (feeds r is) ≡ (r.ok && clean coded r.seen is)
unfolding feeds feed clean
fed_clean r [] = refl
fed_clean r (i ∷ is) = fed_clean (feed r i) is ∙ and_assoc r.ok (is_ok (fault coded r.seen i)) (clean coded (coded.next r.seen i) is)

pub feeds_append : (r : Run) (is js : List Item) → feeds r (is ++ js) ≡ feeds (feeds r is) js
unfolding feeds
feeds_append r [] js = refl
feeds_append r (i ∷ is) js = feeds_append (feed r i) is js

-- A LOOP OVER ROWS: before the first row, one row more, after the last
module _ {r : Run} {f : ℕ → List Item} {n : ℕ} where
  pub fed_none : Fed r f n r 0
  unfolding lined feeds
  fed_none = record { within = omega arith; is = refl }

  pub fed_more : {s u : Run} {i : ℕ} → Fed r f n s i → i < n → u ≡ feeds s (f i) → Fed r f n u (i + 1)
  unfolding lined
  fed_more {i} h l e =
      record { within = omega arith; is = rw add-one (e ∙ ap (λ x. feeds x (f i)) h.is ∙ sym (feeds_append r (lined i f) (f i))) }

  pub fed_all : {s : Run} {i : ℕ} → Fed r f n s i → n ≤ i → s ≡ feeds r (lined n f)
  fed_all h l = rw (le_antisymm l h.within) h.is

-- ROWS AS A LIST: a function that writes g of each row before the rest
module _
    {A : Type 0} (f : List A → List Item → List Item) (g : A → List Item) (none : (is : List Item) → f [] is ≡ is)
    (more : (x : A) (xs : List A) (is : List Item) → f (x ∷ xs) is ≡ g x ++ f xs is) where
  items_last : (xs : List A) (x : A) (is : List Item) → f (xs ++ (x ∷ [])) is ≡ f xs (g x ++ is)
  items_last [] x is = more x [] is ∙ ap (λ l. g x ++ l) (none is) ∙ sym (none (g x ++ is))
  items_last (y ∷ xs) x is = more y (xs ++ (x ∷ [])) is ∙ ap (λ l. g y ++ l) (items_last xs x is) ∙ sym (more y xs (g x ++ is))

  pub items_rows : (n : ℕ) (row : ℕ → A) (is : List Item) → f (rows n row) is ≡ lined n (λ i. g (row i)) ++ is
  unfolding rows lined
  items_rows zero row is = none is
  items_rows (suc n) row is =
      items_last (rows n row) (row n) is ∙ items_rows n row (g (row n) ++ is) ∙ sym (append_assoc (lined n (λ i. g (row i))) (g (row n)) is)
