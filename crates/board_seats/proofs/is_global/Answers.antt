use mathlib.Core.Path.{refl, ap, ◌∙◌}
use lib.Dec.{eqb}
use Rattle.board_seats.specs.Seats.{is_m, owner_at}
use Rattle.board_seats.specs.SeatLaws.{when_test}
use Rattle.board_seats.proofs.is_global.Goals as goal

pub returns : goal.returns
returns c =
    let a = c.args in
    ap (λ x. eqb x 17) c.owner.ensures ∙ when_test (λ x. eqb x 17) (is_m a.m) (owner_at a.view.now a.m) refl
