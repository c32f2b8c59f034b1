-- `read_fill::put_run` meets its contract.
use Prim.Native.Nat.{◌+◌}
use mathlib.Core.Path.{ap₂}
use Rattle.read_fill.specs.Fill.{run_put}
use Rattle.read_fill.proofs.Laws.{put_told}
use Rattle.read_fill.proofs.put_run.Goals as goal

pub returns : goal.returns
unfolding run_put
returns c =
    put_told 9 _ _ c.mark_in-on.ensures (ap₂ ◌+◌ c.last_row.ensures.is c.run_place.ensures.is) c.put.ensures
