-- `records_ask::text_in` meets its contract.
use mathlib.Core.Path.{sym}
use lib.Seq.{length-take-le}
use Rattle.records_ask.proofs.Arms.{in_arm}
use Rattle.records_ask.proofs.text_in.Goals as goal

pub slice_bounds-write_listing-end : goal.slice_bounds-write_listing-end
slice_bounds-write_listing-end c = sym (length-take-le _ _ c.requires)

pub slice_bounds-write_plan-end : goal.slice_bounds-write_plan-end
slice_bounds-write_plan-end c = sym (length-take-le _ _ c.requires)

pub returns-in-Listing : goal.returns-in-Listing
returns-in-Listing c = in_arm _ _ _ c.in-Listing.is (c.write_listing.ensures.value, c.write_listing.ensures.out_after)

pub returns-in-Plan : goal.returns-in-Plan
returns-in-Plan c = in_arm _ _ _ c.in-Plan.is (c.write_plan.ensures.value, c.write_plan.ensures.out_after)
