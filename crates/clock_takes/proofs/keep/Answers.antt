-- `clock_takes::keep` meets its contract.
use Rattle.clock_takes.specs.KeepLaws.{keeps_wait, keeps_took}
use Rattle.clock_takes.proofs.keep.Goals as goal

pub put_ready-requires : goal.put_ready-requires
put_ready-requires c = c.requires

pub take-requires : goal.take-requires
take-requires c = c.requires

pub shape_of-marks-then-waits : goal.shape_of-marks-then-waits
shape_of-marks-then-waits c = c.marks-1.given

pub returns-then-waits : goal.returns-then-waits
returns-then-waits c = keeps_wait c.if-waits.true c.put_ready.ensures

pub shape_of-marks-else-waits : goal.shape_of-marks-else-waits
shape_of-marks-else-waits c = c.marks-else-waits-1.given

pub returns-else-waits : goal.returns-else-waits
returns-else-waits c = keeps_took c.if-waits.false c.take.ensures
