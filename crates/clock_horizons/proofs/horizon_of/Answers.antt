-- `clock_horizons::horizon_of` meets its contract.
use mathlib.Core.Path.{sym}
use Rattle.clock_horizons.specs.HorizonLaws.{number_bad, number_in, number_out}
use Rattle.clock_horizons.proofs.horizon_of.Goals as goal

pub returns-then-h-ge-BAD : goal.returns-then-h-ge-BAD
returns-then-h-ge-BAD c = sym (number_bad c.args.h c.if-h-ge-BAD.true)

pub returns-then-h : goal.returns-then-h
returns-then-h c = sym (number_in c.args.h c.if-h-ge-BAD.false c.if-h.true)

pub returns : goal.returns
returns c = sym (number_out c.args.h c.if-h-ge-BAD.false c.if-h.false)
