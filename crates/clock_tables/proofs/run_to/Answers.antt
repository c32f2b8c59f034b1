use mathlib.Core.Path.{refl, sym}
use Rattle.clock_begins.specs.Begins.{horizon_to, run_range, run_told}
use Rattle.clock_tables.proofs.run_to.Goals as goal

pub returns-then-not-is_horizon : goal.returns-then-not-is_horizon
returns-then-not-is_horizon c = run_range _ _ _ (sym c.requires) refl c.is_horizon.ensures c.if-not-is_horizon.true

pub run_in-requires : goal.run_in-requires
run_in-requires c = (c.requires, horizon_to _ c.is_horizon.ensures c.if-not-is_horizon.false)

pub returns : goal.returns
returns c = run_told _ _ _ (sym c.requires) refl c.is_horizon.ensures c.if-not-is_horizon.false c.run_in.ensures
