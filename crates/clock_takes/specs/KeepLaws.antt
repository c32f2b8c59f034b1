-- What is kept of a task that has asked, by the tests of the code.
use Rattle.std.specs.Prelude.{ℕ, ◌≡◌, List, Bool, true, false}
use Rattle.std.proofs.Common.{sym, subst, ◌∙◌}
use Rattle.clock_marks.specs.Marks.{at_holding, global_mark}
use Rattle.clock_marks.specs.Changes.{PutIn, PutReady, PutHeld}
use Rattle.clock_takes.specs.Asked.{Took, took_global, took_local, Kept, kept_waits, kept_took}

module _ {k k' : List ℕ} {v n m : ℕ} where
  pub takes_global : {k₁ : List ℕ} {a g : Bool} → a ≡ g → a ≡ true → PutHeld k k₁ v n global_mark → PutIn k₁ k' at_holding v true → Took k k' v n m g
  takes_global e h p q = subst (λ x. Took k k' v n m x) (sym h ∙ e) (took_global p q)

  pub takes_local : {a g : Bool} → a ≡ g → a ≡ false → PutHeld k k' v n m → Took k k' v n m g
  takes_local e h p = subst (λ x. Took k k' v n m x) (sym h ∙ e) (took_local p)

  pub keeps_wait : {g w : Bool} → w ≡ true → PutReady k k' v n false → Kept k k' v n m g w
  keeps_wait {g} h p = subst (λ x. Kept k k' v n m g x) (sym h) (kept_waits p)

  pub keeps_took : {g w : Bool} → w ≡ false → Took k k' v n m g → Kept k k' v n m g w
  keeps_took {g} h p = subst (λ x. Kept k k' v n m g x) (sym h) (kept_took p)
