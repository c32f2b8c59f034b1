-- `times_cell` meets its contract: k says which part it is in, and which VCPU or seat it is of.
use Rattle.clock_cells.specs.FillLaws.{core_place, lengths_place, lock_place, period_place, refill_place}
use mathlib.Core.Path.{◌∙◌}
use Rattle.clock_views.proofs.times_cell.Goals as goal

pub returns-then-k-lt16 : goal.returns-then-k-lt16
returns-then-k-lt16 c = c.core_of.ensures ∙ core_place _ _ c.if-k-lt16.true

pub returns-then-k-lt32 : goal.returns-then-k-lt32
returns-then-k-lt32 c = c.refill_of.ensures ∙ refill_place _ _ c.if-k-lt16.false c.if-k-lt32.true

pub returns-then-k-lt160 : goal.returns-then-k-lt160
returns-then-k-lt160 c =
    let p = c.requires in
    c.period_of.ensures ∙ period_place _ _ _ _ _ p.0 _ c.if-k-lt32.false c.if-k-lt160.true

pub returns-then-k-lt288 : goal.returns-then-k-lt288
returns-then-k-lt288 c =
    let p = c.requires in
    c.lengths_of.ensures ∙ lengths_place _ _ _ _ _ p.0 _ c.if-k-lt160.false c.if-k-lt288.true

pub returns : goal.returns
returns c = lock_place _ _ c.if-k-lt288.false c.lock_time.ensures
