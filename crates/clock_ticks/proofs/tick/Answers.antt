use Rattle.clock_ticks.specs.ListLaws.{open_room, tick_missed, turns_room, tick_over}
use Rattle.clock_ticks.proofs.tick.Goals as goal

pub open-o-requires : goal.open-o-requires
open-o-requires c =
    let a = c.args in
    let q = c.requires in
    (q.going.0, q.going.1, q.going.2, open_room q.going.0 a.on a.t a.out.now q.room_at)

pub returns-then-n-ne0 : goal.returns-then-n-ne0
returns-then-n-ne0 c =
    let a = c.args in
    let q = c.requires in
    tick_missed q.going.0 a.on a.t a.out.now q.room_at c.open-o.ensures c.if-n-ne0.true

pub turns-e-requires : goal.turns-e-requires
turns-e-requires c =
    let a = c.args in
    let q = c.requires in
    let e = c.open-o.ensures in
    let z = c.if-n-ne0.false in
    record { going = (e.opens z).going; room_at = turns_room q.going.0 a.on a.t a.out.now q.room_at e z }

pub returns : goal.returns
returns c =
    let a = c.args in
    let q = c.requires in
    tick_over q.going.0 a.on a.t a.out.now q.room_at c.open-o.ensures c.if-n-ne0.false c.turns-e.ensures
