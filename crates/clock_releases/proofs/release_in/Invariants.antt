-- `release_in` meets its contract: those of the first n tasks that are due are released.
use Prim.Native.Nat.{◌≤◌}
use Rattle.board_seats.specs.Seats.{seat}
use Rattle.clock_releases.specs.Opens.{Releases}
use Rattle.clock_releases.proofs.release_in.Given as goal

abbrev pub invariant-loop-n : goal.invariant-loop-n
invariant-loop-n l = Releases l.times l.initial.marks l.nexts l.t (seat l.v 0) (seat l.v l.n) l.marks × (l.n ≤ 8)
