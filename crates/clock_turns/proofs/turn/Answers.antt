-- `turn` meets its contract.
use Rattle.clock_turns.specs.Turning.{asks_room, idle_room, may_work, turn_ends}
use Rattle.clock_turns.proofs.turn.Goals as goal

pub asks-p-requires : goal.asks-p-requires
asks-p-requires c =
    let a = c.args in
    let q = c.requires in record { going = q.going; room_at = asks_room q.going.0 a.on a.t a.out.now a.at a.c q.room_at; known_pick = q.known_pick }

pub lose-w-requires : goal.lose-w-requires
lose-w-requires c =
    let a = c.args in
    let q = c.requires in
    let u = c.asks-p in
    let x = u.new in record { going = (u.ensures.going, q.going.1); room_at = idle_room q.going.0 a.on a.t a.out.now a.at a.c q.room_at {hs₁ = x.holder} {ws₁ = x.waits} {k₁ = x.marks} {o₁ = x.out} u.ensures }

pub works-requires : goal.works-requires
works-requires c =
    let a = c.args in
    let q = c.requires in
    let u = c.asks-p in
    let d = c.lose-w in
    let x = u.new in
    let y = d.new in let h = may_work q.going.0 a.on a.t a.out.now a.at a.c q.room_at {hs₁ = x.holder} {ws₁ = x.waits} {k₁ = x.marks} {o₁ = x.out} u.ensures {ls₂ = y.left} {os₂ = y.over} {ss₂ = y.stopped} {k₂ = y.marks} {o₂ = y.out} d.ensures in record { going = h.0; room_at = h.1 }

pub returns : goal.returns
returns c =
    let a = c.args in
    let q = c.requires in
    let u = c.asks-p in
    let d = c.lose-w in
    let w = c.works in
    let x = u.new in
    let y = d.new in
    let z = w.new in let h = turn_ends q.going.0 a.on a.t a.out.now a.at a.c q.room_at {hs₁ = x.holder} {ws₁ = x.waits} {k₁ = x.marks} {o₁ = x.out} u.ensures {ls₂ = y.left} {os₂ = y.over} {ss₂ = y.stopped} {k₂ = y.marks} {o₂ = y.out} d.ensures {ls₃ = z.left} {os₃ = z.over} {ss₃ = z.stopped} {hs₃ = z.holder} {ws₃ = z.waits} {k₃ = z.marks} {o₃ = z.out} w.ensures.did w.ensures.handed_value in record { turned = h.0; handed_value = h.1 }
