-- `put_held` meets its contract.
use native.Mathlib.Omega.{arith}
use Rattle.clock_puts.specs.PutLaws.{put_held_is, holders_set, held_place}
use Rattle.clock_puts.proofs.put_held.Goals as goal

pub put-requires : goal.put-requires
put-requires c = (holders_set _ _ c.requires.0 c.requires.1 c.requires.2, c.requires.3, omega arith)

pub bounds-marks-j : goal.bounds-marks-j
bounds-marks-j c = held_place _ _ _ _ c.requires.0 c.seat.ensures.1

pub returns : goal.returns
returns c = let p = c.requires in put_held_is _ _ _ _ _ _ p.0 p.1 p.2 p.3 p.4 c.seat.ensures.0 c.put.ensures
