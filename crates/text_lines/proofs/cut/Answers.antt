-- `text_lines::cut` meets its contract.
use Rattle.std.proofs.Common.{ℕ, ◌≡◌, List, ◌∷◌, [], Bool, true, false, cond, eqb, ltb, length, Some, None, unwrap_or, refl, sym, ap, ◌∙◌, arith, rules, tests, ◌+◌, ◌≤◌}
use Rattle.std.specs.List.{position_or_len}
use Rattle.std.proofs.lemmas.Bool.Decides.{nat_tests}
use Rattle.std.proofs.lemmas.Iterator.{YieldsList-from_slice}
use Rattle.std.proofs.lemmas.Iterator.Search.{position_from_yields_List}
use Rattle.std.proofs.lemmas.List.Recursion.{is_position_or_len}
use Rattle.laws.specs.Fields.{before}
use Rattle.laws.specs.Steps.{before_le}
use Rattle.text_lines.proofs.cut.Goals as goal

-- the bytes before the first b end where it stands
before_ends : (b : ℕ) (s : List ℕ) → length (before b s) ≡ position_or_len (λ x. eqb x b) s
unfolding before
before_ends b s = is_position_or_len (λ l. length (before b l)) (λ x. eqb x b) refl (λ x l. step (eqb x b) x (before b l)) s
  where
    step : (t : Bool) (x : ℕ) (l : List ℕ) → length (cond t [] (x ∷ l)) ≡ cond t 0 (1 + length l)
    step true x l = refl
    step false x l = omega arith

-- a place within, or the end
or_end : (i n : ℕ) → i ≤ n → unwrap_or (cond (ltb i n) (Some i) None) n ≡ i
or_end i n h = grind (arith, nat_tests)

pub returns : goal.returns
returns c =
    let s = c.args.s.now in
    let b = c.args.b in
    let e = position_from_yields_List (λ x. eqb x b) _ _ c.position.result c.position.ensures.ran (YieldsList-from_slice s cc) (λ x t q k. search (rules, tests)) in
    let p = before_ends b s in
    c.unwrap_or.ensures ∙ ap (λ o. unwrap_or o (length s)) e ∙ or_end _ _ (omega (arith, before_le b s)) ∙ sym p
