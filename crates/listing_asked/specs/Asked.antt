-- A text asked for of lent tables: 9 first (`if_given`), then 8.
use Rattle.std.specs.Prelude.{ℕ, List, Result, Err}
use Rattle.plan.specs.declared.Refusal.TheVariants.{Foreign}
use Rattle.plan.specs.Plan.{Plan}
use Rattle.plan.specs.declared.Refusal.{Refusal}
use Rattle.plan_tables.specs.declared.PlanRecord.{PlanRecord}
use Rattle.plan_tables.specs.Layout.{Tables}
use Rattle.plan_tables.specs.Given.{if_given}
use Rattle.figures.specs.System.{system}
use Rattle.listing.specs.Listing.{listing}
use Rattle.listing_lines.specs.Into.{text_answer, text_after}

-- what the call answers, and what it leaves in the buffer o: the text of the plan in the tables, or 9 and o as it was lent
unfoldable pub text_asked : (Plan → List ℕ) → PlanRecord → Tables → List ℕ → Result ℕ Refusal
text_asked f r t o = if_given r t (λ p. text_answer (f p) o) (Err Foreign)

unfoldable pub text_left : (Plan → List ℕ) → PlanRecord → Tables → List ℕ → List ℕ
text_left f r t o = if_given r t (λ p. text_after (f p) o) o

-- the listing
abbrev pub listing_of : Plan → List ℕ
listing_of p = listing (system p)

abbrev pub listing_asked : PlanRecord → Tables → List ℕ → Result ℕ Refusal
listing_asked r t o = text_asked listing_of r t o

abbrev pub listing_left : PlanRecord → Tables → List ℕ → List ℕ
listing_left r t o = text_left listing_of r t o
