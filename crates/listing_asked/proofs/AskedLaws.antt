-- What is worked out for a text is what is asked: b is what the test for 9 said.
use Rattle.std.specs.Prelude.{ℕ, ◌≡◌, List, Bool, true, false, Result, Err}
use Rattle.std.proofs.Math.Path.{sym}
use Rattle.std.proofs.Common.{ap, ◌∙◌}
use Rattle.plan.specs.declared.Refusal.TheVariants.{Foreign}
use Rattle.plan.specs.Plan.{Plan}
use Rattle.plan.specs.declared.Refusal.{Refusal}
use Rattle.plan_tables.specs.declared.PlanRecord.{PlanRecord}
use Rattle.plan_tables.specs.Layout.{Tables}
use Rattle.plan_tables.specs.Given.{plan_in, is_given}
use Rattle.plan_tables.proofs.GivenLaws.{if_given_law, if_foreign}
use Rattle.figures.specs.Tabled.{system_in}
use Rattle.figures_slices.specs.FitLaws.{system_in_law}
use Rattle.listing.specs.Listing.{listing}
use Rattle.listing_lines.specs.Into.{text_answer, text_after}
use Rattle.listing_asked.specs.Asked.{text_asked, text_left, listing_of, listing_asked, listing_left}

module _ {b : Bool} (f : Plan → List ℕ) (r : PlanRecord) (t : Tables) (o : List ℕ) (e : b ≡ is_given r t) where
  -- the tables are not given
  pub foreign_answer : b ≡ false → Err Foreign ≡ text_asked f r t o
  unfolding text_asked
  foreign_answer h = sym (if_foreign r t (λ p. text_answer (f p) o) (Err Foreign) (sym e ∙ h))

  pub foreign_left : b ≡ false → o ≡ text_left f r t o
  unfolding text_left
  foreign_left h = sym (if_foreign r t (λ p. text_after (f p) o) o (sym e ∙ h))

  -- they are
  pub given_answer : {a : Result ℕ Refusal} → b ≡ true → a ≡ text_answer (f (plan_in r t)) o → a ≡ text_asked f r t o
  unfolding text_asked
  given_answer h k = k ∙ sym (if_given_law r t (λ p. text_answer (f p) o) (Err Foreign) (sym e ∙ h))

  pub given_left : {p : List ℕ} → b ≡ true → p ≡ text_after (f (plan_in r t)) o → p ≡ text_left f r t o
  unfolding text_left
  given_left h k = k ∙ sym (if_given_law r t (λ p. text_after (f p) o) o (sym e ∙ h))

-- the listing of the system in the tables is that of the plan in them
listing_in : (r : PlanRecord) (t : Tables) → listing (system_in r t.vcpus t.mutexes t.tasks) ≡ listing_of (plan_in r t)
listing_in r t = ap listing (sym (system_in_law r t))

module _ {b : Bool} (r : PlanRecord) (t : Tables) (o : List ℕ) (e : b ≡ is_given r t) (h : b ≡ true) where
  pub listing_answer : {a : Result ℕ Refusal} → a ≡ text_answer (listing (system_in r t.vcpus t.mutexes t.tasks)) o → a ≡ listing_asked r t o
  listing_answer k = given_answer listing_of r t o e h (k ∙ ap (λ x. text_answer x o) (listing_in r t))

  pub listing_left_law : {p : List ℕ} → p ≡ text_after (listing (system_in r t.vcpus t.mutexes t.tasks)) o → p ≡ listing_left r t o
  listing_left_law k = given_left listing_of r t o e h (k ∙ ap (λ x. text_after x o) (listing_in r t))
