-- What the timing of an accepted plan satisfies.
use Rattle.std.specs.Prelude.{ℕ, ◌≤◌, ◌<◌, ◌≡◌, true, false, ltb}
use Rattle.std.proofs.Common.{sym, ◌∙◌, ⊎_elim, arith, ltb-true, ltb-false}
use Rattle.laws.specs.BoolLaws.{bool_cases, same_or_not}
use Rattle.board_keeps.specs.Fair.{Fair, InM, sheet_m}
use Rattle.clock_rules.specs.Clock.{Timing}

-- a job of (v, n) holds m from when it has done a ticks until it has done e: no section begins or ends in between
pub record SectionAt (T : Timing) (v n m a e : ℕ) : Type 0 where
  pub some_mutex : m ≡ 0 → ⊥
  pub starts : T.begins v n a ≡ m
  pub stops : T.ends v n e ≡ m
  pub forward : a < e
  pub not_beyond : e ≤ T.lengths v n
  pub no_start : (x : ℕ) → a < x → x < e → T.begins v n x ≡ 0
  pub no_stop : (x : ℕ) → a < x → x < e → T.ends v n x ≡ 0
  pub listed : T.facts.lists v n m ≡ true

-- a section that begins at a
pub record Begun (T : Timing) (v n m a : ℕ) : Type 0 where
  pub stop : ℕ
  pub section : SectionAt T v n m a stop

-- and one that ends at e
pub record Over (T : Timing) (v n m e : ℕ) : Type 0 where
  pub start : ℕ
  pub section : SectionAt T v n m start e

-- the timing T is paced
pub record Paced (T : Timing) : Type 0 where
  pub fair : Fair T.facts
  -- a VCPU of the plan and a task of it have periods; a task that the plan lacks has no length
  pub some_refill : (v : ℕ) → T.facts.has_vcpu v ≡ true → 0 < T.refill v
  pub some_period : (v n : ℕ) → T.facts.has_task v n ≡ true → 0 < T.period v n
  pub no_length : (v n : ℕ) → T.facts.has_task v n ≡ false → T.lengths v n ≡ 0
  -- what begins or ends is a section
  pub begun : (v n a : ℕ) → (T.begins v n a ≡ 0 → ⊥) → Begun T v n (T.begins v n a) a
  pub over : (v n e : ℕ) → (T.ends v n e ≡ 0 → ⊥) → Over T v n (T.ends v n e) e

module _ {T : Timing} {v n : ℕ} where
  -- the mutex of a section is in range
  pub section_m : Fair T.facts → {m a e : ℕ} → SectionAt T v n m a e → InM m
  section_m f {m} s = sheet_m f v n m s.listed

  -- of two sections that begin at a, neither ends before the other
  stops_first : {m k a e x : ℕ} → SectionAt T v n m a e → SectionAt T v n k a x → e ≤ x
  stops_first {e} {x} s t =
      ⊎_elim (λ z. absurd (t.some_mutex (sym t.stops ∙ s.no_stop x t.forward (ltb-true x e z)))) (λ z. ltb-false x e z) (bool_cases (ltb x e))

  -- what begins at a ends at one place
  pub one_stop : {m k a e x : ℕ} → SectionAt T v n m a e → SectionAt T v n k a x → e ≡ x
  one_stop s t = let g = stops_first s t in let h = stops_first t s in omega arith

  -- of two sections that end at e, neither begins after the other
  starts_last : {m k a e x : ℕ} → SectionAt T v n m a e → SectionAt T v n k x e → x ≤ a
  starts_last {a} {x} s t =
      ⊎_elim (λ z. absurd (t.some_mutex (sym t.starts ∙ s.no_start x (ltb-true a x z) t.forward))) (λ z. ltb-false a x z) (bool_cases (ltb a x))

  -- what ends at e began at one place
  pub one_start : {m k a e x : ℕ} → SectionAt T v n m a e → SectionAt T v n k x e → a ≡ x
  one_start s t = let g = starts_last s t in let h = starts_last t s in omega arith

module _ {T : Timing} (p : Paced T) (v n : ℕ) where
  -- no section begins when the lengths are done
  pub begins_no_more : (a : ℕ) → T.lengths v n ≤ a → T.begins v n a ≡ 0
  begins_no_more a l =
      ⊎_elim (λ z. z) (λ nz. absurd (let s = (p.begun v n a nz).section in let f = s.forward in let e = s.not_beyond in omega arith)) (same_or_not (T.begins v n a) 0)

  -- none ends later than that
  pub ends_no_more : (e : ℕ) → T.lengths v n < e → T.ends v n e ≡ 0
  ends_no_more e l = ⊎_elim (λ z. z) (λ nz. absurd (let b = (p.over v n e nz).section.not_beyond in omega arith)) (same_or_not (T.ends v n e) 0)

  -- and none before the first tick is done
  pub none_ends_first : T.ends v n 0 ≡ 0
  none_ends_first = ⊎_elim (λ z. z) (λ nz. absurd (let f = (p.over v n 0 nz).section.forward in omega arith)) (same_or_not (T.ends v n 0) 0)
