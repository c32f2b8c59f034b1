use Rattle.laws.specs.RowLaws.{lacking_none}
use Rattle.given_tidy.specs.GuestLaws.{guest_more, guest_hit, guest_none}
use Rattle.given_tidy.proofs.guest_in.Goals as goal

pub loop-i-init : goal.loop-i-init
loop-i-init c = lacking_none

pub returns-then-cell-v : goal.returns-then-cell-v
returns-then-cell-v c = guest_hit _ _ _ c.loop-i.invariant c.loop-i-test.true c.cell-guest.ensures
    c.cell.ensures c.if-cell-v.true

pub loop-i-preserved : goal.loop-i-preserved
loop-i-preserved c = guest_more _ _ _ c.loop-i.invariant c.loop-i-test.true c.cell.ensures c.if-cell-v.false

pub returns : goal.returns
returns c = guest_none _ _ _ c.loop-i.invariant c.loop-i-test.false
