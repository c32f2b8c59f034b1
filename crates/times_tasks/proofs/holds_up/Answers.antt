-- `holds_up` meets its contract.
use mathlib.Core.Bool.{◌&&◌}
use mathlib.Core.Path.{ap₂}
use Rattle.times_tasks.proofs.holds_up.Goals as goal

pub returns : goal.returns
returns c = ap₂ ◌&&◌ c.is_higher.ensures c.lacks.ensures
