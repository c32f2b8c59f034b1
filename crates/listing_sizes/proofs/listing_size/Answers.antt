-- `listing_size` meets its contract.
use Rattle.text_letters.specs.SizeLaws.{sized_as}
use Rattle.listing_sizes.proofs.TextLaws.{listing_joins, vcpus_joins, tasks_joins, all_text_law, both_sized}
use Rattle.listing_sizes.proofs.listing_size.Goals as goal

pub returns : goal.returns
returns c = both_sized (listing_joins _) c.head_size-x.ensures (both_sized (vcpus_joins _) c.size_vcpus-y.ensures (both_sized (tasks_joins _) c.size_tasks-z.ensures (sized_as (all_text_law _ c.all_fit-fits.ensures) c.all_size.ensures)))
