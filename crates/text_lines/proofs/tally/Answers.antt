-- `text_lines::tally` meets its contract.
use Rattle.laws.specs.Steps.{tallied_none, tallied_more, tallied_skip, tallied_end}
use Rattle.text_lines.proofs.tally.Goals as goal
use Rattle.text_lines.proofs.tally.Goals.{then-x-b, else-x-b}

pub loop-x-init : goal.loop-x-init
loop-x-init c = tallied_none

pub loop-x-preserved : goal.loop-x-preserved
loop-x-preserved c =
    elim c.if-x-b.branch [
      | then-x-b w ↦ tallied_more c.loop-x.invariant c.loop-x-test.true w.if-x-b.true w.n-is
      | else-x-b w ↦ tallied_skip c.loop-x.invariant c.loop-x-test.true w.if-x-b.false w.n-is
    ]

pub returns : goal.returns
returns c = tallied_end c.loop-x.invariant c.loop-x-test.false
