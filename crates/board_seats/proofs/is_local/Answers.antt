use Rattle.board_seats.specs.Seats.{is_m, owner_at}
use Rattle.board_seats.specs.SeatLaws.{local_test}
use Rattle.board_seats.proofs.is_local.Goals as goal

pub returns : goal.returns
returns c =
    let a = c.args in
    rw (c.both.ensures, c.owner.ensures, c.within.ensures) (local_test a.v (is_m a.m) (owner_at a.view.now a.m))
