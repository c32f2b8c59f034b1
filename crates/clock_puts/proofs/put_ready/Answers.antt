-- `put_ready` meets its contract.
use native.Mathlib.Omega.{arith}
use Rattle.clock_puts.specs.PutLaws.{put_ready_is, tasks_set, ready_set}
use Rattle.clock_puts.proofs.put_ready.Goals as goal

pub put-s-requires : goal.put-s-requires
put-s-requires c = (tasks_set _ _ c.requires.0 c.requires.1 c.requires.2, c.requires.3, omega arith)

pub put-requires : goal.put-requires
put-requires c = (ready_set _ _ _ c.requires.0, c.requires.1, c.requires.2)

pub returns : goal.returns
returns c = let p = c.requires in put_ready_is _ _ _ _ _ _ p.0 p.1 p.2 p.4 c.put-s.ensures c.put.ensures
