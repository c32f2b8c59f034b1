-- No task above n waits for a local mutex under the cap.
use mathlib.Core.Bool.{◌&&◌}
use Rattle.board_seats.specs.Seats.{local_waiter}
use lib.Dec.{leb}
use Rattle.laws.specs.RangeLaws.{Down}
use Rattle.board_walks.proofs.local_under.Given as goal

abbrev pub invariant-loop-n : goal.invariant-loop-n
invariant-loop-n l = Down 8 (λ j. local_waiter l.view l.a l.v j && leb j l.cap) l.n
