use mathlib.Core.Path.{sym, ◌∙◌}
use Rattle.clock_begins.specs.Begins.{run_foreign}
use Rattle.clock_tables.proofs.run_of.Goals as goal

pub returns-then-not-is_given : goal.returns-then-not-is_given
returns-then-not-is_given c = run_foreign _ _ _ c.is_given.ensures c.if-not-is_given.true

pub run_to-requires : goal.run_to-requires
run_to-requires c = sym c.is_given.ensures ∙ c.if-not-is_given.false
