use mathlib.Core.Path.{◌∙◌, sym}
use borrow.Author.Tests.{ne_eqb}
use Rattle.board_seats.specs.SeatLaws.{waits_not, waits_local}
use Rattle.board_seats.proofs.local_waiter.Goals as goal

pub returns-then-w-eq0 : goal.returns-then-w-eq0
returns-then-w-eq0 c =
    let a = c.args in
    waits_not a.view.now a.a.now a.v a.n (sym c.wait-w.ensures.0 ∙ c.if-w-eq0.true)

pub returns : goal.returns
returns c =
    let a = c.args in
    waits_local a.view.now a.a.now a.v a.n c.wait-w.ensures.0 (ne_eqb _ _ c.if-w-eq0.false) c.is_local.ensures
