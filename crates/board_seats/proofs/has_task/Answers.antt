use mathlib.Core.Path.{refl, ap, ◌∙◌}
use mathlib.Core.Bool.{◌&&◌}
use lib.Dec.{ltb}
use Rattle.board_seats.specs.Seats.{is_v, is_n, task_at}
use Rattle.board_seats.specs.SeatLaws.{when_test}
use Rattle.board_seats.proofs.has_task.Goals as goal

pub returns : goal.returns
returns c =
    let a = c.args in
    ap (ltb 0) c.task.ensures ∙ when_test (ltb 0) (is_v a.v && is_n a.n) (task_at a.view.now a.v a.n) refl
