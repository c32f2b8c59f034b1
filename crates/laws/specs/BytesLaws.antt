-- Cutting at a separator and joining again undo each other.
use Rattle.std.specs.Prelude.{ℕ, ◌≤◌, ◌<◌, ◌≡◌, List, [], ◌∷◌, ◌++◌, Bool, true, false, cond, ◌&&◌, eqb, ltb}
use Rattle.std.proofs.Math.Path.{refl}
use Rattle.std.proofs.Common.{ap, sym, ◌∙◌, arith, eq-eqb, ne_eqb, eqb-true, ltb-true}
use Rattle.laws.specs.BoolLaws.{both_left, both_right, both}
use Rattle.laws.specs.Bytes.{on_first, pieces, joined, ended, above, same, is_nil}

pub same_equal : (s t : List ℕ) → same s t ≡ true → s ≡ t
unfolding same
same_equal [] [] h = refl
same_equal [] (y ∷ t) h = absurd (let z : ◌≡◌ {A = ℕ} 0 1 = cc in omega arith)
same_equal (x ∷ s) [] h = absurd (let z : ◌≡◌ {A = ℕ} 0 1 = cc in omega arith)
same_equal (x ∷ s) (y ∷ t) h = cc (eqb-true x y (both_left (eqb x y) (same s t) h), same_equal s t (both_right (eqb x y) (same s t) h))

pub same_self : (s : List ℕ) → same s s ≡ true
unfolding same
same_self [] = refl
same_self (x ∷ s) = both (eqb x x) (same s s) (eq-eqb x x refl) (same_self s)

-- a list with no b in it
unfoldable pub lacks : ℕ → List ℕ → Bool
lacks b [] = true
lacks b (x ∷ s) = cond (eqb x b) false (lacks b s)

-- pieces that lack b
unfoldable pub each_lacks : ℕ → List (List ℕ) → Bool
each_lacks b [] = true
each_lacks b (l ∷ ls) = lacks b l && each_lacks b ls

pub lacks_next : (b x : ℕ) (s : List ℕ) → eqb x b ≡ false → lacks b (x ∷ s) ≡ lacks b s
unfolding lacks
lacks_next b x s e = rw e

pub lacks_append : (b : ℕ) (s t : List ℕ) → lacks b s ≡ true → lacks b t ≡ true → lacks b (s ++ t) ≡ true
unfolding lacks
lacks_append b [] t h k = k
lacks_append b (x ∷ s) t h k = go (eqb x b) h (lacks_append b s t)
  where
    go : (q : Bool) → cond q false (lacks b s) ≡ true → (lacks b s ≡ true → lacks b t ≡ true → lacks b (s ++ t) ≡ true) → cond q false (lacks b (s ++ t)) ≡ true
    go true h ih = h
    go false h ih = ih h k

-- one piece, and the rest
pub pieces_more : (b : ℕ) (l s : List ℕ) → lacks b l ≡ true → pieces b (l ++ (b ∷ s)) ≡ l ∷ pieces b s
unfolding pieces lacks
pieces_more b [] s h = simp (eq-eqb b b refl)
pieces_more b (x ∷ l) s h = go (eqb x b) h (pieces_more b l s)
  where
    go :
        (t : Bool) → cond t false (lacks b l) ≡ true → (lacks b l ≡ true → pieces b (l ++ (b ∷ s)) ≡ l ∷ pieces b s) →
        cond t ([] ∷ pieces b (l ++ (b ∷ s))) (on_first x (pieces b (l ++ (b ∷ s)))) ≡ (x ∷ l) ∷ pieces b s
    go true h ih = absurd (let z : ◌≡◌ {A = ℕ} 0 1 = cc in omega arith)
    go false h ih = ap (on_first x) (ih h)

pub pieces_last : (b : ℕ) (l : List ℕ) → lacks b l ≡ true → pieces b l ≡ l ∷ []
unfolding pieces lacks
pieces_last b [] h = refl
pieces_last b (x ∷ l) h = go (eqb x b) h (pieces_last b l)
  where
    go :
        (t : Bool) → cond t false (lacks b l) ≡ true → (lacks b l ≡ true → pieces b l ≡ l ∷ []) →
        cond t ([] ∷ pieces b l) (on_first x (pieces b l)) ≡ (x ∷ l) ∷ []
    go true h ih = absurd (let z : ◌≡◌ {A = ℕ} 0 1 = cc in omega arith)
    go false h ih = ap (on_first x) (ih h)

pub pieces_joined : (b : ℕ) (ls : List (List ℕ)) → is_nil ls ≡ false → each_lacks b ls ≡ true → pieces b (joined b ls) ≡ ls
unfolding joined each_lacks
pieces_joined b [] n h = absurd (let z : ◌≡◌ {A = ℕ} 0 1 = cc in omega arith)
pieces_joined b (l ∷ []) n h = pieces_last b l (both_left (lacks b l) true h)
pieces_joined b (l ∷ m ∷ ls) n h =
    pieces_more b l (joined b (m ∷ ls)) (both_left (lacks b l) (each_lacks b (m ∷ ls)) h)
    ∙ ap (λ r. l ∷ r) (pieces_joined b (m ∷ ls) refl (both_right (lacks b l) (each_lacks b (m ∷ ls)) h))

-- there is at least one piece
pub pieces_some : (b : ℕ) (s : List ℕ) → is_nil (pieces b s) ≡ false
unfolding pieces
pieces_some b [] = refl
pieces_some b (x ∷ s) = go (eqb x b) (pieces b s)
  where
    go : (q : Bool) (ls : List (List ℕ)) → is_nil (cond q ([] ∷ ls) (on_first x ls)) ≡ false
    go true ls = refl
    go false [] = refl
    go false (l ∷ ls) = refl

pub joined_pieces : (b : ℕ) (s : List ℕ) → joined b (pieces b s) ≡ s
unfolding pieces joined
joined_pieces b [] = refl
joined_pieces b (x ∷ s) = go (eqb x b) refl (pieces b s) (pieces_some b s) (joined_pieces b s)
  where
    go : (t : Bool) → eqb x b ≡ t → (ls : List (List ℕ)) → is_nil ls ≡ false → joined b ls ≡ s → joined b (cond t ([] ∷ ls) (on_first x ls)) ≡ x ∷ s
    go true e [] n h = absurd (let z : ◌≡◌ {A = ℕ} 0 1 = cc in omega arith)
    go true e (m ∷ ls) n h = cc (eqb-true x b e)
    go false e [] n h = ap (λ r. x ∷ r) h
    go false e (l ∷ []) n h = ap (λ r. x ∷ r) h
    go false e (l ∷ m ∷ ls) n h = ap (λ r. x ∷ r) h

-- pieces that each end with b: an empty one follows the last
pub pieces_ended : (b : ℕ) (ls : List (List ℕ)) → each_lacks b ls ≡ true → pieces b (ended b ls) ≡ ls ++ ([] ∷ [])
unfolding ended each_lacks
pieces_ended b [] h = unfold pieces in refl
pieces_ended b (l ∷ ls) h =
    pieces_more b l (ended b ls) (both_left (lacks b l) (each_lacks b ls) h)
    ∙ ap (λ r. l ∷ r) (pieces_ended b ls (both_right (lacks b l) (each_lacks b ls) h))

pub ended_joined : (b : ℕ) (ls : List (List ℕ)) → joined b (ls ++ ([] ∷ [])) ≡ ended b ls
unfolding joined ended
ended_joined b [] = refl
ended_joined b (l ∷ []) = refl
ended_joined b (l ∷ m ∷ ls) = ap (λ r. l ++ (b ∷ r)) (ended_joined b (m ∷ ls))

pub ended_pieces : (b : ℕ) (s : List ℕ) (ls : List (List ℕ)) → pieces b s ≡ ls ++ ([] ∷ []) → s ≡ ended b ls
ended_pieces b s ls h = sym (joined_pieces b s) ∙ ap (joined b) h ∙ ended_joined b ls

pub above_append : (b : ℕ) (s t : List ℕ) → above b s ≡ true → above b t ≡ true → above b (s ++ t) ≡ true
unfolding above
above_append b [] t h k = k
above_append b (x ∷ s) t h k =
    both (ltb b x) (above b (s ++ t)) (both_left (ltb b x) (above b s) h) (above_append b s t (both_right (ltb b x) (above b s) h) k)

-- bytes above b lack b and all below it
pub above_lacks : (b c : ℕ) (l : List ℕ) → c ≤ b → above b l ≡ true → lacks c l ≡ true
unfolding above lacks
above_lacks b c [] g h = refl
above_lacks b c (x ∷ l) g h =
    let k : b < x = ltb-true b x (both_left (ltb b x) (above b l) h) in
    simp (ne_eqb x c (λ e. omega arith)) (above_lacks b c l g (both_right (ltb b x) (above b l) h))

-- pieces with no c, joined by another byte, make a list with none
pub joined_lacks : (b c : ℕ) (ls : List (List ℕ)) → eqb b c ≡ false → each_lacks c ls ≡ true → lacks c (joined b ls) ≡ true
unfolding joined each_lacks
joined_lacks b c [] e h = unfold lacks in refl
joined_lacks b c (l ∷ []) e h = both_left (lacks c l) true h
joined_lacks b c (l ∷ m ∷ ls) e h =
    lacks_append c l (b ∷ joined b (m ∷ ls)) (both_left (lacks c l) (each_lacks c (m ∷ ls)) h)
    (rw (lacks_next c b (joined b (m ∷ ls)) e) (joined_lacks b c (m ∷ ls) e (both_right (lacks c l) (each_lacks c (m ∷ ls)) h)))
