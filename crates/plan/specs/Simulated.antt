-- Two judges that agree wherever their states are related give one verdict and one reading: so code may keep another state than the rules.
use Rattle.std.specs.Prelude.{ℕ, ◌+◌, ◌≡◌, cond, ◌↔◌, Option, Some, None, Ok, Err}
use Rattle.std.proofs.Math.Path.{refl, ap}
use Rattle.std.proofs.Common.{sym, ◌∙◌}
use mathlib.Core.List.{List, [], ◌∷◌}
use Rattle.laws.specs.Bytes.{pieces, is_nil}
use Rattle.plan.specs.Limits.{lf}
use Rattle.plan.specs.Refusals.{Refusal, complaint, Fault}
use Rattle.plan.specs.Line.{Item, item_of}
use Rattle.plan.specs.Reading.{Judge, Verdict, FirstBad, fault, fault_of, next_of, finish, onward, judge, Passes, answer, reading_by}
use Rattle.plan.specs.Gathered.{items_in, plan_of}

module _ (I J : Judge) (R : I.Seen → J.Seen → Type 0) where
  -- related states have the same faults and stops, and stay related after an item with no fault
  pub record Alike : Type 0 where
    pub fields : (s : I.Seen) (t : J.Seen) → R s t → (i : Item) (r : Refusal) → I.field s i r ≡ J.field t i r
    pub faults : (s : I.Seen) (t : J.Seen) → R s t → (i : Item) → fault I s i ≡ fault J t i
    pub stops : (s : I.Seen) (t : J.Seen) → R s t → I.ready s ≡ J.ready t
    pub stays : (s : I.Seen) (t : J.Seen) → R s t → (i : Item) → fault J t i ≡ Ok tt → R (I.next s i) (J.next t i)

  pub same_verdict : Alike → (s : I.Seen) (t : J.Seen) (n : ℕ) (ls : List (List ℕ)) → R s t → judge I s n ls ≡ judge J t n ls
  unfolding judge
  same_verdict a s t n [] r = refl
  same_verdict a s t n (l ∷ ls) r = rw (a.stops s t r) (ap (cond (is_nil ls) (finish J t l n)) (go (item_of l) (same_verdict a (next_of I s (item_of l)) (next_of J t (item_of l)) (n + 1) ls)))
    where
      step : (i : Item) (f : Fault) (x y : Verdict) → (f ≡ Ok tt → x ≡ y) → onward I s (Some i) f n x ≡ onward J t (Some i) f n y
      step i (Ok tt) x y e = e refl
      step i (Err b) x y e = ap (λ k. FirstBad (complaint b n k)) (a.fields s t r i b)

      go :
          (o : Option Item) →
          (R (next_of I s o) (next_of J t o) → judge I (next_of I s o) (n + 1) ls ≡ judge J (next_of J t o) (n + 1) ls) →
          onward I s o (fault_of I s o) n (judge I (next_of I s o) (n + 1) ls) ≡ onward J t o (fault_of J t o) n (judge J (next_of J t o) (n + 1) ls)
      go None ih = refl
      go (Some i) ih =
          rw (a.faults s t r i)
          (step i (fault J t i) (judge I (I.next s i) (n + 1) ls) (judge J (J.next t i) (n + 1) ls) (λ e. ih (a.stays s t r i e)))

  pub same_reading : Alike → (s : I.Seen) (t : J.Seen) → R s t → (b : List ℕ) → reading_by I s b ≡ reading_by J t b
  unfolding reading_by
  same_reading a s t r b = ap (λ v. answer v (plan_of (items_in (pieces lf b)))) (same_verdict a s t 1 (pieces lf b) r)

  pub same_passes : Alike → (s : I.Seen) (t : J.Seen) → R s t → (is : List Item) → Passes I s is ↔ Passes J t is
  same_passes a s t r [] = (λ h. sym (a.stops s t r) ∙ h, λ h. a.stops s t r ∙ h)
  same_passes a s t r (i ∷ is) = (
    λ h. let e : fault J t i ≡ Ok tt = sym (a.faults s t r i) ∙ h.0 in (e, (same_passes a (I.next s i) (J.next t i) (a.stays s t r i e) is).0 h.1),
    λ h. (a.faults s t r i ∙ h.0, (same_passes a (I.next s i) (J.next t i) (a.stays s t r i h.0) is).1 h.1),
  )
