use mathlib.Core.Path.{refl, ap, ◌∙◌}
use lib.Dec.{ltb}
use Rattle.board_seats.specs.Seats.{is_m, owner_at}
use Rattle.board_seats.specs.SeatLaws.{when_test}
use Rattle.board_seats.proofs.has_mutex.Goals as goal

pub returns : goal.returns
returns c =
    let a = c.args in
    ap (ltb 0) c.owner.ensures ∙ when_test (ltb 0) (is_m a.m) (owner_at a.view.now a.m) refl
