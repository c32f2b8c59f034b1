-- A tick's text and the line of a missed job have room in the buffer, by Rooms.
use Rattle.clock_tells.specs.Rooms.{told_room, text_counted, missed_room}
use Rattle.clock_tells.proofs.tell_tick.Goals as goal

pub tick-k-requires-clause-room_at : goal.tick-k-requires-clause-room_at
tick-k-requires-clause-room_at g c =
    let q = c.requires in
    let a = c.args in
    told_room q.0 q.2 a.t q.3 a.out.now q.4

pub slice_bounds-write-end : goal.slice_bounds-write-end
slice_bounds-write-end g c =
    let q = c.requires in
    let a = c.args in
    (text_counted q.0 q.2 a.t q.3 a.out.now q.4 c.tick-k.ensures).0

pub slice_bounds-write-end-2 : goal.slice_bounds-write-end-2
slice_bounds-write-end-2 g c =
    let q = c.requires in
    let a = c.args in
    (text_counted q.0 q.2 a.t q.3 a.out.now q.4 c.tick-k.ensures).1

pub missed_line-e-requires : goal.missed_line-e-requires
missed_line-e-requires g c =
    let q = c.requires in
    let a = c.args in
    missed_room q.0 q.2 a.t q.3 a.out.now q.4 c.tick-k.ensures
