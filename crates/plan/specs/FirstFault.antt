-- A refusal's line is the first bad one, and its number and field are what is wrong with that line.
use Prim.Native.Nat.{ℕ, suc, ◌+◌}
use Rattle.std.proofs.Math.Path.{◌≡◌, refl, ap, sym}
use Rattle.std.proofs.Common.{◌∙◌}
use mathlib.Core.List.{List, [], ◌∷◌, ◌++◌}
use Rattle.std.specs.Prelude.{◌↔◌, Bool, ◌&&◌, Ok, Err}
use Rattle.std.proofs.Math.Bool.{true, false, cond}
use Rattle.std.proofs.lemmas.Bool.{false≢true}
use native.Mathlib.Omega.{arith}
use Rattle.std.proofs.Math.Nat.{add-zero}
use Rattle.std.proofs.Math.ListN.{length}
use Rattle.laws.specs.Bytes.{pieces, is_nil}
use Rattle.laws.specs.BytesLaws.{pieces_some}
use Rattle.plan.specs.Limits.{lf}
use Rattle.plan.specs.Refusals.{Complaint, complaint, Refusal, Shape, Fault}
use Rattle.plan.specs.Line.{item_of}
use Rattle.plan.specs.Rules.{start}
use Rattle.plan.specs.Reading.{Judge, Verdict, Faultless, FirstBad, fault_of, field_at, next_of, onward, judge, rules, Refuses, answer, reading_by, reading}
use Rattle.plan.specs.Gathered.{items_in, plan_of}
use Rattle.plan.specs.ListLaws.{append_some}

module _ (J : Judge) where
  -- what is seen after some lines
  abbrev pub seen_after : J.Seen → List (List ℕ) → J.Seen
  seen_after t [] = t
  seen_after t (l ∷ ls) = seen_after (next_of J t (item_of l)) ls

  -- no line has a fault after those before it
  abbrev pub ClearLines : J.Seen → List (List ℕ) → Type 0
  ClearLines t [] = Unit {0}
  ClearLines t (l ∷ ls) = (fault_of J t (item_of l) ≡ Ok tt) × ClearLines (next_of J t (item_of l)) ls

  -- what is wrong with a line before other pieces is r, in its field f; with what follows the last LF it is Shape, in no field, where bytes stand there or a line is due
  abbrev pub HasFault : J.Seen → List ℕ → List (List ℕ) → Refusal → ℕ → Type 0
  HasFault t l [] r f = ((J.ready t && is_nil l) ≡ false) × (r ≡ Shape) × (f ≡ 0)
  HasFault t l (m ∷ ls) r f = (fault_of J t (item_of l) ≡ Err r) × (f ≡ field_at J t (item_of l) r)

  -- of the pieces from line n on, the line of c is the first bad one, and its number and field are what is wrong with it
  pub record FirstFault (t : J.Seen) (n : ℕ) (ls : List (List ℕ)) (c : Complaint) : Type 0 where
    pub before : List (List ℕ)
    pub line : List ℕ
    pub after : List (List ℕ)
    pub whole : ls ≡ before ++ (line ∷ after)
    pub place : c.line ≡ n + length before
    pub clear : ClearLines t before
    pub faulty : HasFault (seen_after t before) line after c.number c.field

  judge_first : (t : J.Seen) (n : ℕ) (ls : List (List ℕ)) (c : Complaint) → is_nil ls ≡ false → judge J t n ls ≡ FirstBad c → FirstFault t n ls c
  unfolding judge
  judge_first t n [] c s h = absurd (false≢true (sym s))
  judge_first t n (l ∷ []) c s h = go (J.ready t && is_nil l) refl h
    where
      go : (b : Bool) → (J.ready t && is_nil l) ≡ b → cond b Faultless (FirstBad (complaint Shape n 0)) ≡ FirstBad c → FirstFault t n (l ∷ []) c
      go true e h = absurd (let z : ◌≡◌ {A = ℕ} 0 1 = cc in omega arith)
      go false e h =
          let p : complaint Shape n 0 ≡ c = cc in
          rw (← p) (record { before = []; line = l; after = []; whole = refl; place = sym (add-zero n); clear = tt; faulty = (e, refl, refl) })
  judge_first t n (l ∷ m ∷ ls) c s h = go (fault_of J t (item_of l)) refl h (judge_first (next_of J t (item_of l)) (n + 1) (m ∷ ls) c refl)
    where
      go :
          (f : Fault) → fault_of J t (item_of l) ≡ f → onward J t (item_of l) f n (judge J (next_of J t (item_of l)) (n + 1) (m ∷ ls)) ≡ FirstBad c →
          (judge J (next_of J t (item_of l)) (n + 1) (m ∷ ls) ≡ FirstBad c → FirstFault (next_of J t (item_of l)) (n + 1) (m ∷ ls) c) →
          FirstFault t n (l ∷ m ∷ ls) c
      go (Ok tt) e h ih =
          let i = ih h in
          record {
            before = l ∷ i.before;
            line = i.line;
            after = i.after;
            whole = ap (λ x. l ∷ x) i.whole;
            place = omega (arith, i.place);
            clear = (e, i.clear);
            faulty = i.faulty;
          }
      go (Err b) e h ih =
          let p : complaint b n (field_at J t (item_of l) b) ≡ c = cc in
          rw (← p) (record { before = []; line = l; after = m ∷ ls; whole = refl; place = sym (add-zero n); clear = tt; faulty = (e, refl) })

  faulty_judge : (t : J.Seen) (n : ℕ) (l : List ℕ) (ls : List (List ℕ)) (r : Refusal) (f : ℕ) → HasFault t l ls r f → judge J t n (l ∷ ls) ≡ FirstBad (complaint r n f)
  unfolding judge
  faulty_judge t n l [] r f h = rw (h.0, h.1, h.2)
  faulty_judge t n l (m ∷ ls) r f h = rw (h.0, h.1)

  first_judge :
      (xs : List (List ℕ)) (t : J.Seen) (n : ℕ) (l : List ℕ) (ls : List (List ℕ)) (r : Refusal) (k : ℕ) → ClearLines t xs → HasFault (seen_after t xs) l ls r k →
      judge J t n (xs ++ (l ∷ ls)) ≡ FirstBad (complaint r (n + length xs) k)
  unfolding judge
  first_judge [] t n l ls r k c f = rw add-zero (faulty_judge t n l ls r k f)
  first_judge (x ∷ xs) t n l ls r k c f =
      let e : n + 1 + length xs ≡ n + suc (length xs) = omega arith in
      simp (append_some xs l ls, c.0) (first_judge xs (next_of J t (item_of x)) (n + 1) l ls r k c.1 f ∙ ap (λ m. FirstBad (complaint r m k)) e)

  -- lines have a first bad one exactly when the verdict names it
  pub first_exactly : (t : J.Seen) (n : ℕ) (s : List ℕ) (c : Complaint) → (judge J t n (pieces lf s) ≡ FirstBad c) ↔ FirstFault t n (pieces lf s) c
  first_exactly t n s c = (
    judge_first t n (pieces lf s) c (pieces_some lf s),
    λ h. ap (judge J t n) h.whole ∙ first_judge h.before t n h.line h.after c.number c.field h.clear h.faulty
        ∙ ap (λ m. FirstBad (complaint c.number m c.field)) (sym h.place),
  )

  -- a reading refuses a line exactly when it is the first bad one
  pub refused_by_law : (t : J.Seen) (s : List ℕ) (c : Complaint) → (reading_by J t s ≡ Refuses c) ↔ FirstFault t 1 (pieces lf s) c
  unfolding reading_by
  refused_by_law t s c = (λ h. (first_exactly t 1 s c).0 (go (judge J t 1 (pieces lf s)) h), λ h. rw ((first_exactly t 1 s c).1 h))
    where
      go : (v : Verdict) → answer v (plan_of (items_in (pieces lf s))) ≡ Refuses c → v ≡ FirstBad c
      go Faultless h = absurd (let z : ◌≡◌ {A = ℕ} 0 1 = cc in omega arith)
      go (FirstBad b) h = cc

-- "The first bad line from the top decides"
pub refused_exactly : (s : List ℕ) (c : Complaint) → (reading s ≡ Refuses c) ↔ FirstFault rules start 1 (pieces lf s) c
refused_exactly = refused_by_law rules start
