use Prim.Native.Nat.{◌-◌}
use mathlib.Core.Path.{refl, ap, ◌∙◌}
use lib.Dec.{ltb}
use lib.ListN.{get_or}
use Rattle.board_seats.specs.Seats.{is_v}
use Rattle.board_seats.specs.SeatLaws.{when_test}
use Rattle.board_seats.proofs.has_vcpu.Goals as goal

pub returns : goal.returns
returns c =
    let a = c.args in
    ap (ltb 0) c.budget.ensures ∙ when_test (ltb 0) (is_v a.v) (get_or a.view.now (a.v - 1) 0) refl
