-- `read_fill::wipe` meets its contract.
use Rattle.std.proofs.Common.{ℕ, zero, suc, ◌≡◌, ◌<◌, ◌≤◌, ◌+◌, ◌-◌, List, ◌++◌, ◌∷◌, length, take, drop, replicate, refl, ap, sym, ◌∙◌, arith, rules, take-append-drop, length-drop, length-take-le, length-set, zero-add, add-zero, add-suc}
use Rattle.std.proofs.lemmas.List.{set_past}
use Rattle.plan_tables.specs.Layout.{zeros}
use Rattle.read_fill.specs.Fill.{wiped}
use Rattle.read_fill.specs.SheetLaws.{wiped_part}
use Rattle.read_fill.proofs.wipe.Goals as goal

wiped_long : (d : List ℕ) (k n : ℕ) → length (wiped d k n) ≡ length d
unfolding wiped
wiped_long d k zero = refl
wiped_long d k (suc n) = length-set (wiped d k n) (k + n) 0 ∙ wiped_long d k n

-- nothing is written past the end
wiped_past : (d : List ℕ) (k m j : ℕ) → (0 < j → length d ≤ k + m) → wiped d k (m + j) ≡ wiped d k m
unfolding wiped
wiped_past d k m zero h = ap (wiped d k) (add-zero m)
wiped_past d k m (suc j) h =
    let p : length d ≤ k + m = h (omega arith) in
    ap (wiped d k) (add-suc m j)
    ∙ set_past (wiped d k (m + j)) (k + (m + j)) 0 (omega (arith, wiped_long d k (m + j)))
    ∙ wiped_past d k m j (λ q. p)

nothing : (d : List ℕ) (k n : ℕ) → (0 < n → length d ≤ k) → d ≡ wiped d k n
unfolding wiped
nothing d k n h = sym (ap (wiped d k) (sym (zero-add n)) ∙ wiped_past d k 0 n (λ q. let p = h q in omega arith))

zeros_are : (n : ℕ) → replicate n 0 ≡ zeros n
unfolding zeros
zeros_are zero = refl
zeros_are (suc n) = ap (λ l. 0 ∷ l) (zeros_are n)

-- m of the n zeros have a place
filled : (d f : List ℕ) (k m n : ℕ) → k + m ≤ length d → m ≤ n → (m < n → length d ≤ k + m) → f ≡ replicate m 0 → take k d ++ (f ++ drop m (drop k d)) ≡ wiped d k n
filled d f k m n h l p e =
    ap (λ z. take k d ++ (z ++ drop m (drop k d))) (e ∙ zeros_are m)
    ∙ sym (wiped_part (take k d) (drop k d) k m (length-take-le k d (omega arith)) (omega (arith, length-drop k d)))
    ∙ ap (λ x. wiped x k m) (take-append-drop k d)
    ∙ sym (wiped_past d k m (n - m) (λ q. p (omega arith)))
    ∙ ap (wiped d k) (omega arith)

pub returns-then-k-end : goal.returns-then-k-end
returns-then-k-end c =
    let d = c.args.d.now in
    let k = c.args.k in
    let m = c.min-end.result - k in
    let l : length (take m (drop k d)) ≡ m = length-take-le m (drop k d) (omega (arith, length-drop k d)) in
    let e : c.fill.new.self ≡ replicate m 0 = c.fill.ensures.after (λ y h. search rules) ∙ ap (λ j. replicate j 0) l in
    filled d c.fill.new.self k m c.args.n (omega arith) (omega arith) (λ q. omega arith) e

pub returns-else-k-end : goal.returns-else-k-end
returns-else-k-end c = nothing c.args.d.now c.args.k c.args.n (λ q. omega arith)
