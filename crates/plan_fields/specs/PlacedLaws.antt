-- The tests of a line stand in the order of their numbers and, with one number, of their fields; of the first that fails the field is named by `field_of`.
use Rattle.std.specs.Prelude.{ℕ, ◌+◌, ◌-◌, ◌≤◌, ◌<◌, ◌≡◌, refl, List, [], ◌∷◌, ◌++◌, Bool, true, false, cond, ltb, Err}
use Rattle.std.proofs.Common.{ap, sym, ◌∙◌, inl, inr, arith, le-ltb}
use Rattle.std.proofs.lemmas.Bool.{false≢true}
use Rattle.laws.specs.Decimal.{value}
use Rattle.laws.specs.Sums.{Each, Pairs}
use Rattle.laws.specs.SumLaws.{each_append, each_map}
use Rattle.plan.specs.Limits.{max_digits}
use Rattle.plan.specs.declared.Refusal.{Refusal}
use Rattle.plan.specs.declared.Refusal.TheVariants.{Shape, Number, Range}
use Rattle.plan.specs.declared.Kind.{Kind}
use Rattle.plan.specs.Refusals.{number_of, unless}
use Rattle.plan.specs.Line.{Form, Word, Num, bad, head_or, number_at, numbers}
use Rattle.plan.specs.Lookup.{global}
use Rattle.plan.specs.Rules.{Known, first_failed}
use Rattle.plan.specs.Fields.{unwritten, first_out, field_of}
use Rattle.plan.specs.ListLaws.{pairs_append}
use Rattle.plan.specs.KindLaws.{each_kind}
use Rattle.plan_fields.specs.Own.{Own, own, asked, placed, as_numbers, others, FailsAt, Decides}

-- a number is written as it should be exactly when its field's value is
pub number_test : (k : ℕ) (f : List ℕ) → ltb (number_at k f) bad ≡ ltb (value max_digits f) bad
unfolding number_at
number_test k f = go (ltb (value max_digits f) bad) refl
  where
    go : (b : Bool) → ltb (value max_digits f) bad ≡ b → ltb (cond b (value max_digits f) (bad + k)) bad ≡ b
    go true e = e
    go false e = le-ltb (bad + k) bad (omega arith)

-- and else it says the field
number_field : (k : ℕ) (f : List ℕ) → ltb (value max_digits f) bad ≡ false → number_at k f - bad ≡ k
unfolding number_at
number_field k f e = rw e (omega arith)

-- IN ORDER: y does not stand before x, its number is no lower, and with the same number its field is no further left
abbrev pub After : Own → Own → Type 0
After x y = (number_of x.asks.refusal ≤ number_of y.asks.refusal) × (number_of x.asks.refusal ≡ number_of y.asks.refusal → x.field ≤ y.field)

-- F NAMES THE FIELD, by the refusal, of the first test that fails
abbrev pub Names : (Refusal → ℕ) → List Own → Type 0
Names F [] = Unit {0}
Names F (x ∷ xs) = (x.asks.holds ≡ false → F x.asks.refusal ≡ x.field) × (x.asks.holds ≡ true → Names F xs)

-- what holds of each test holds of one that fails
fails_each : (P : Refusal → ℕ → Type 0) (s : Refusal) (j : ℕ) (xs : List Own) → Each (λ y. P y.asks.refusal y.field) xs → FailsAt s j xs → P s j
fails_each P s j [] e f = absurd f
fails_each P s j (x ∷ xs) e (inl f) = rw (f.1, f.2) e.0
fails_each P s j (x ∷ xs) e (inr f) = fails_each P s j xs e.1 f

-- where the tests stand in order, the first that fails decides
pub first_decides : (F : Refusal → ℕ) (xs : List Own) (r : Refusal) → Pairs After xs → Names F xs → first_failed (asked xs) ≡ Err r → Decides r (F r) xs
unfolding unless
first_decides F [] r p n h = absurd (let z : ◌≡◌ {A = ℕ} 0 1 = cc in omega arith)
first_decides F (x ∷ xs) r p n h = go x.asks.holds refl h (λ e. first_decides F xs r p.1 (n.1 e))
  where
    go :
        (b : Bool) → x.asks.holds ≡ b → unless b x.asks.refusal (first_failed (asked xs)) ≡ Err r →
        (x.asks.holds ≡ true → first_failed (asked xs) ≡ Err r → Decides r (F r) xs) → Decides r (F r) (x ∷ xs)
    go true e h ih =
        let i = ih e h in
        record {
          fails = inr i.fails;
          lowest = λ s j. elim [ inl f ↦ absurd (false≢true (sym f.0 ∙ e)) | inr f ↦ i.lowest s j f ];
          leftmost = λ j. elim [ inl f ↦ absurd (false≢true (sym f.0 ∙ e)) | inr f ↦ i.leftmost j f ];
        }
    go false e h ih =
        let q : r ≡ x.asks.refusal = cc in
        let k : F r ≡ x.field = ap F q ∙ n.0 e in
        let m : number_of r ≡ number_of x.asks.refusal = ap number_of q in
        record {
          fails = inl (e, q, k);
          lowest = λ s j. elim [
            | inl f ↦ let z : number_of s ≡ number_of x.asks.refusal = ap number_of f.1 in omega arith
            | inr f ↦ let l = fails_each (λ s j. number_of x.asks.refusal ≤ number_of s) s j xs (each_map xs (λ y a. a.0) p.0) f in omega arith
          ];
          leftmost = λ j. elim [
            | inl f ↦ omega (arith, f.2)
            | inr f ↦ let l = fails_each (λ s j. number_of x.asks.refusal ≡ number_of s → x.field ≤ j) r j xs (each_map xs (λ y a. a.1) p.0) f (sym m) in omega arith
          ];
        }

-- tests and more tests after them
pub names_append : (F : Refusal → ℕ) (xs ys : List Own) → Names F xs → Names F ys → Names F (xs ++ ys)
names_append F [] ys n m = m
names_append F (x ∷ xs) ys n m = (n.0, λ e. names_append F xs ys (n.1 e) m)

-- tests of number fields have one number, and each a field from k on
placed_from : (r : Refusal) (k : ℕ) (ps : List Form) (bs : List Bool) → Each (λ x. (number_of x.asks.refusal ≡ number_of r) × (k ≤ x.field)) (placed r k ps bs)
placed_from r k [] bs = tt
placed_from r k (Word w ∷ ps) bs = each_map (placed r (k + 1) ps bs) (λ x h. omega arith) (placed_from r (k + 1) ps bs)
placed_from r k (Num ∷ ps) [] = tt
placed_from r k (Num ∷ ps) (b ∷ bs) = (omega arith, each_map (placed r (k + 1) ps bs) (λ x h. omega arith) (placed_from r (k + 1) ps bs))

-- so they stand in order
placed_pairs : (r : Refusal) (k : ℕ) (ps : List Form) (bs : List Bool) → Pairs After (placed r k ps bs)
placed_pairs r k [] bs = tt
placed_pairs r k (Word w ∷ ps) bs = placed_pairs r (k + 1) ps bs
placed_pairs r k (Num ∷ ps) [] = tt
placed_pairs r k (Num ∷ ps) (b ∷ bs) = (each_map (placed r (k + 1) ps bs) (λ x h. omega arith) (placed_from r (k + 1) ps bs), placed_pairs r (k + 1) ps bs)

-- the other tests stand in order, and after those of the ranges
others_order : (t : Known) (k : Kind) (ns : List ℕ) → Each (λ x. 3 < number_of x.asks.refusal) (others t k ns) × Pairs After (others t k ns)
unfolding others number_of
others_order t k ns = each_kind (λ k. Each (λ x. 3 < number_of x.asks.refusal) (others t k ns) × Pairs After (others t k ns))
    ((tt, tt), ((tt, tt), ((tt, tt), ((tt, tt), ((tt, tt), (omega arith, (omega arith, (omega arith, (omega arith, (omega arith, (omega arith, ((tt, tt), (omega arith, ((tt, tt), ((tt, tt), ((tt, tt), ((tt, tt), ((tt, tt), ((tt, tt), tt)))))))))))))))))))
    k

-- tests of higher numbers stand after those up to a number
after_lower :
    (a : ℕ) (xs ys : List Own) → Each (λ x. number_of x.asks.refusal ≤ a) xs → Each (λ y. a < number_of y.asks.refusal) ys →
    Each (λ x. Each (After x) ys) xs
after_lower a xs ys h k = each_map xs (λ x l. each_map ys (λ y m. omega arith) k) h

-- all tests of a line stand in order
pub all_order :
    (t : Known) (k : Kind) (ns : List ℕ) (b : Bool) (ps : List Form) (bs cs : List Bool) →
    Pairs After (own 0 Shape b ∷ (placed Number 1 ps bs ++ (placed Range 1 ps cs ++ others t k ns)))
unfolding number_of
all_order t k ns b ps bs cs =
    let ys : List Own = placed Number 1 ps bs in
    let zs : List Own = placed Range 1 ps cs in
    let os : List Own = others t k ns in
    let y = placed_from Number 1 ps bs in
    let z = placed_from Range 1 ps cs in
    let o = others_order t k ns in
    let a : Each (λ x. 2 < number_of x.asks.refusal) (zs ++ os) = each_append _ zs os (each_map zs (λ x h. omega arith) z) (each_map os (λ x h. omega arith) o.0) in
    let p = pairs_append After zs os (placed_pairs Range 1 ps cs) o.1 (after_lower 3 zs os (each_map zs (λ x h. omega arith) z) o.0) in
    let f : Each (After (own 0 Shape b)) (ys ++ (zs ++ os)) = each_append _ ys (zs ++ os) (each_map ys (λ x h. omega arith) y) (each_map (zs ++ os) (λ x h. omega arith) a) in
    (f, pairs_append After ys (zs ++ os) (placed_pairs Number 1 ps bs) p (after_lower 2 ys (zs ++ os) (each_map ys (λ x h. omega arith) y) a))

-- of number fields: the first that is out
pub placed_names : (F : Refusal → ℕ) (r : Refusal) (k : ℕ) (ps : List Form) (bs : List Bool) → F r ≡ first_out k ps bs → Names F (placed r k ps bs)
unfolding first_out
placed_names F r k [] bs h = tt
placed_names F r k (Word w ∷ ps) bs h = placed_names F r (k + 1) ps bs h
placed_names F r k (Num ∷ ps) [] h = tt
placed_names F r k (Num ∷ ps) (b ∷ bs) h =
    let q : (c : Bool) → b ≡ c → F r ≡ cond c (first_out (k + 1) ps bs) k = λ c e. h ∙ ap (λ c. cond c (first_out (k + 1) ps bs) k) e in
    (q false, λ e. placed_names F r (k + 1) ps bs (q true e))

-- none is out of no tests
out_none : (k : ℕ) (ps : List Form) → first_out k ps [] ≡ 0
unfolding first_out
out_none k [] = refl
out_none k (Word w ∷ ps) = out_none (k + 1) ps
out_none k (Num ∷ ps) = refl

-- the first number that is not written says the field
pub unwritten_out : (k : ℕ) (ps : List Form) (fs : List (List ℕ)) → unwritten (numbers k ps fs) ≡ first_out k ps (as_numbers ps fs)
unfolding unwritten numbers first_out
unwritten_out k [] fs = refl
unwritten_out k (Word w ∷ ps) [] = sym (out_none (k + 1) ps)
unwritten_out k (Num ∷ ps) [] = refl
unwritten_out k (Word w ∷ ps) (f ∷ fs) = unwritten_out (k + 1) ps fs
unwritten_out k (Num ∷ ps) (f ∷ fs) = rw number_test (go (ltb (value max_digits f) bad) refl (unwritten_out (k + 1) ps fs))
  where
    go :
        (b : Bool) → ltb (value max_digits f) bad ≡ b → unwritten (numbers (k + 1) ps fs) ≡ first_out (k + 1) ps (as_numbers ps fs) →
        cond b (unwritten (numbers (k + 1) ps fs)) (number_at k f - bad) ≡ cond b (first_out (k + 1) ps (as_numbers ps fs)) k
    go true e h = h
    go false e h = number_field k f e

-- of the others: of `open` the guest is asked for only where the mutex is global
pub others_names : (t : Known) (k : Kind) (ns : List ℕ) → Names (field_of (global t.mutexes (head_or ns)) k ns) (others t k ns)
unfolding others field_of
others_names t k ns = each_kind (λ k. Names (field_of (global t.mutexes (head_or ns)) k ns) (others t k ns))
    (tt, (tt, (tt, (tt, (tt, (omega arith, (omega arith, (omega arith, ((λ e. refl, λ e. (λ g. rw g, λ g. (λ h. rw g, λ h. tt))), (omega arith, (omega arith, (tt, (omega arith, (tt, (tt, (tt, (tt, (tt, (tt, tt)))))))))))))))))))
    k
