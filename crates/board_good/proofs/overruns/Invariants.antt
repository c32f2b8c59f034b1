-- The overruns to v are filled.
use Rattle.board_seats.specs.Seats.{overrun_of}
use Rattle.board_walks.specs.WalkLaws.{Filled}
use Rattle.board_good.proofs.overruns.Given as goal

abbrev pub invariant-loop-v : goal.invariant-loop-v
invariant-loop-v l = Filled 0 16 (λ v. overrun_of l.view v) l.all l.v
