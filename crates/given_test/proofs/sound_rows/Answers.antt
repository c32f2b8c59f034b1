use mathlib.Core.Path.{sym, ◌∙◌}
use Rattle.given_test.specs.Tests.{sound_rows}
use Rattle.given_test.specs.TestLaws.{both_taken, both_missed}
use Rattle.given_test.proofs.sound_rows.Goals as goal

pub clean_rows-requires : goal.clean_rows-requires
clean_rows-requires c = (c.requires, sym c.all_tidy.ensures ∙ c.if-all_tidy.true)

pub returns-then-all_tidy : goal.returns-then-all_tidy
unfolding sound_rows
returns-then-all_tidy c = both_taken c.all_tidy.ensures c.if-all_tidy.true c.clean_rows.ensures

pub returns-else-all_tidy : goal.returns-else-all_tidy
unfolding sound_rows
returns-else-all_tidy c = both_missed _ c.all_tidy.ensures c.if-all_tidy.false
