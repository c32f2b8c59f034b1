-- `read_tally::tally_after` meets its contract.
use mathlib.Core.Path.{ap, ◌∙◌}
use Rattle.read_tally.specs.Tally.{tally_by}
use Rattle.read_tally.proofs.tally_after.Goals as goal

pub returns : goal.returns
returns c = c.tally_by.ensures ∙ ap (tally_by c.args.t) c.mark_in.ensures
