-- What is written of a plan: the text of each case.
use Rattle.std.specs.Prelude.{ℕ, List}
use Rattle.plan.specs.Plan as plans
use Rattle.plan.specs.Text.{text}
use Rattle.listing_asked.specs.Asked.{listing_of}
pub use Rattle.records_ask.specs.declared.Text.{Text}
pub use Rattle.records_ask.specs.declared.Text.TheVariants.{Listing, Plan}

abbrev pub wanted : Text → plans.Plan → List ℕ
wanted Listing = listing_of
wanted Plan = text
