-- `forget` meets its contract: the first eight cells are 0.
use Rattle.std.proofs.Common.{ℕ, ◌≡◌, ◌≤◌, List, ◌++◌, length, get_or, take, drop, replicate, ap, ◌∙◌, arith, rules, length-take-le, length-append, length-drop}
use Rattle.std.proofs.lemmas.List.{get_or-replicate, get_or_append_left}
use Rattle.clock_spends.specs.Putting.{Clearing, forgot_all}
use Rattle.clock_spends.proofs.forget.Goals as goal

cleared : (l z : List ℕ) → 8 ≤ length l → length z ≡ 8 → z ≡ replicate 8 0 → Clearing l 8 (z ++ drop 8 l)
cleared l z r n e = record {
  to = omega arith;
  long = length-append z (drop 8 l) ∙ omega (arith, length-drop 8 l);
  zeros = λ j m. get_or_append_left z (drop 8 l) 0 j (omega arith) ∙ ap (λ x. get_or x j 0) e ∙ get_or-replicate 8 j 0 0 m;
}

pub returns : goal.returns
returns c =
    let y = c.args.plain.now in
    let p = c.requires in
    let l : length (take 8 y) ≡ 8 = length-take-le 8 y (omega arith) in
    let e = c.fill.ensures.after (λ x h. search rules) ∙ ap (λ n. replicate n 0) l in
    forgot_all (cleared y c.fill.new.self (omega arith) (c.fill.ensures.len ∙ l) e) (omega arith)
