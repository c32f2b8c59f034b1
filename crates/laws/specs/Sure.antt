-- What the contract of a public entry is to be, said of its clauses as they stand: it asks nothing of a call (`Free`), and it leaves nothing open (`Once`).
use Rattle.std.specs.Prelude.{◌≡◌}
use seplogic.Ra.Ura.{Ura}
use base.Logic.{SProp, ent, sep, emp, fst∗, snd∗, via, id⊢}
use contract.Lifetimes.{Lfts}
use contract.Monad.{fact, fact_i, fact_use}
use denote.Triple.Entry.{Args, Res}
use denote.Triple.Clauses.{Clauses, Ended, Lasts, at_exit}

module _ {M : Type 1} (𝓤 : Ura M) where
  -- every call is allowed
  abbrev pub Free : (T : Ended) → Clauses 𝓤 T → Type 1
  Free T c = (κs : Lfts T.signature.lifetimes) (a : Args T.signature κs) → (g : (c κs a).ghost) × ent 𝓤 (emp 𝓤) ((c κs a).requires g)

  -- For arguments a, let x and y each be a result with the last values of all that was lent to be written: from the `ensures` of both, plain facts, it follows that they are the same.
  abbrev pub Once : (T : Ended) → Clauses 𝓤 T → Type 1
  Once T c = (κs : Lfts T.signature.lifetimes) (a : Args T.signature κs) (g h : (c κs a).ghost) (x y : Res T.signature κs × Lasts T κs a) →
      ent 𝓤 (sep 𝓤 ((c κs a).ensures g x.0 (at_exit T κs a x.1)) ((c κs a).ensures h y.0 (at_exit T κs a y.1))) (fact 𝓤 (x ≡ y))

  abbrev pub Sure : (T : Ended) → Clauses 𝓤 T → Type 1
  Sure T c = Free T c × Once T c

  -- no `requires`
  pub free : (g : Unit {0}) × ent 𝓤 (emp 𝓤) (emp 𝓤)
  free = (tt, id⊢ 𝓤 (emp 𝓤))

  -- two assertions, and a fact that each tells
  both : {P Q : SProp 𝓤} {φ ψ χ : Type 0} → ent 𝓤 P (fact 𝓤 φ) → ent 𝓤 Q (fact 𝓤 ψ) → (φ → ψ → χ) → ent 𝓤 (sep 𝓤 P Q) (fact 𝓤 χ)
  both {P} {Q} {φ} {ψ} {χ} u v f = fact_use 𝓤 φ (via 𝓤 P (fst∗ 𝓤 P Q) u) (λ p. fact_use 𝓤 ψ (via 𝓤 Q (snd∗ 𝓤 P Q) v) (λ q. fact_i 𝓤 χ (sep 𝓤 P Q) (f p q)))

  one : {φ : Type 0} → ent 𝓤 (fact 𝓤 φ) (fact 𝓤 φ)
  one {φ} = id⊢ 𝓤 (fact 𝓤 φ)

  and : {φ ψ : Type 0} {Q : SProp 𝓤} → ent 𝓤 Q (fact 𝓤 ψ) → ent 𝓤 (sep 𝓤 (fact 𝓤 φ) Q) (fact 𝓤 (φ × ψ))
  and v = both one v (λ p q. (p, q))

  -- from two contracts, each with one `ensures`; with two; with five
  pub of_one : {φ ψ χ : Type 0} → (φ → ψ → χ) → ent 𝓤 (sep 𝓤 (fact 𝓤 φ) (fact 𝓤 ψ)) (fact 𝓤 χ)
  of_one = both one one

  pub of_two : {φ φ₁ ψ ψ₁ χ : Type 0} → (φ × φ₁ → ψ × ψ₁ → χ) → ent 𝓤 (sep 𝓤 (sep 𝓤 (fact 𝓤 φ) (fact 𝓤 φ₁)) (sep 𝓤 (fact 𝓤 ψ) (fact 𝓤 ψ₁))) (fact 𝓤 χ)
  of_two = both (and one) (and one)

  pub of_five : {φ φ₁ φ₂ φ₃ φ₄ ψ ψ₁ ψ₂ ψ₃ ψ₄ χ : Type 0} → (φ × (φ₁ × (φ₂ × (φ₃ × φ₄))) → ψ × (ψ₁ × (ψ₂ × (ψ₃ × ψ₄))) → χ) →
      ent 𝓤 (sep 𝓤 (sep 𝓤 (fact 𝓤 φ) (sep 𝓤 (fact 𝓤 φ₁) (sep 𝓤 (fact 𝓤 φ₂) (sep 𝓤 (fact 𝓤 φ₃) (fact 𝓤 φ₄))))) (sep 𝓤 (fact 𝓤 ψ) (sep 𝓤 (fact 𝓤 ψ₁) (sep 𝓤 (fact 𝓤 ψ₂) (sep 𝓤 (fact 𝓤 ψ₃) (fact 𝓤 ψ₄)))))) (fact 𝓤 χ)
  of_five = both (and (and (and (and one)))) (and (and (and (and one))))
