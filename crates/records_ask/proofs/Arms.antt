-- What is said of one case's text is said of what is wanted, if that case is wanted.
-- Assumes nothing.
use Rattle.std.specs.Prelude.{Result}
use Prim.Native.Nat.{ℕ}
use mathlib.Core.Path.{◌≡◌, sym, ap, ◌∙◌}
use mathlib.Core.List.{List}
use Rattle.plan.specs.declared.Refusal.{Refusal}
use Rattle.plan_tables.specs.declared.PlanRecord.{PlanRecord}
use Rattle.plan_tables.specs.Layout.{Tables}
use Rattle.listing_asked.specs.Asked.{text_asked, text_left}
use Rattle.records_ask.specs.Wanted.{Text, wanted}

module _ {v w : Text} {a : Result ℕ Refusal} {p : List ℕ} (r : PlanRecord) (t : Tables) (o : List ℕ) where
  pub in_arm : v ≡ w → (a ≡ text_asked (wanted w) r t o) × (p ≡ text_left (wanted w) r t o) → (a ≡ text_asked (wanted v) r t o) × (p ≡ text_left (wanted v) r t o)
  in_arm e s = (s.0 ∙ ap (λ (u : Text). text_asked (wanted u) r t o) (sym e), s.1 ∙ ap (λ (u : Text). text_left (wanted u) r t o) (sym e))
