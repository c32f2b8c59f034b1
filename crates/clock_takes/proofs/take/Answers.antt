-- `clock_takes::take` meets its contract.
use mathlib.Core.Path.{◌∙◌}
use native.Mathlib.Omega.{arith}
use Rattle.clock_supplies.specs.SizedLaws.{sized_put_held}
use Rattle.clock_takes.specs.KeepLaws.{takes_global, takes_local}
use Rattle.clock_takes.proofs.take.Goals as goal

pub put_held-requires : goal.put_held-requires
put_held-requires c = c.requires

pub put_in-requires : goal.put_in-requires
put_in-requires c =
    let h = sized_put_held c.requires.0 (record { from = c.requires.1; to = c.requires.2 }) (record { from = c.requires.3; to = c.requires.4 }) c.put_held.ensures in
    (h, omega arith, c.requires.1, c.requires.2)

pub put_held-requires-else-is_global : goal.put_held-requires-else-is_global
put_held-requires-else-is_global c = c.requires

pub shape_of-marks-then-is_global : goal.shape_of-marks-then-is_global
shape_of-marks-then-is_global c = c.marks-then-is_global-1.given ∙ c.marks-1.given

pub returns-then-is_global : goal.returns-then-is_global
returns-then-is_global c =
    takes_global c.is_global.ensures c.if-is_global.true c.put_held.ensures c.put_in.ensures

pub shape_of-marks-else-is_global : goal.shape_of-marks-else-is_global
shape_of-marks-else-is_global c = c.marks-else-is_global-1.given

pub returns-else-is_global : goal.returns-else-is_global
returns-else-is_global c =
    takes_local c.is_global.ensures c.if-is_global.false c.put_held-else-is_global.ensures
