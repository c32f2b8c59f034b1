-- `works` meets its contract.
use Rattle.clock_turns.specs.Turning.{none_ends, one_may, one_ends}
use Rattle.clock_turns.proofs.works.Goals as goal

pub returns-then-v-eq0 : goal.returns-then-v-eq0
returns-then-v-eq0 c =
    let a = c.args in
    let q = c.requires in let h = none_ends q.going.0 a.on a.t a.out.now a.at q.going.1 c.if-v-eq0.true in record { did = h.0; handed_value = h.1 }

pub work-requires : goal.work-requires
work-requires c =
    let a = c.args in
    let q = c.requires in let h = one_may q.going.0 a.on a.t a.out.now a.at q.going.1 c.if-v-eq0.false q.room_at in record { going = h.0; room_at = h.1 }

pub returns : goal.returns
returns c =
    let a = c.args in
    let q = c.requires in
    let w = c.work in
    let y = w.new in let h = one_ends q.going.0 a.on a.t a.out.now a.at q.going.1 c.if-v-eq0.false {ls' = y.left} {os' = y.over} {ss' = y.stopped} {hs' = y.holder} {ws' = y.waits} {k' = y.marks} {o' = y.out} w.ensures.going_2 w.ensures.made w.ensures.marks_after w.ensures.handed_value in record { did = h.0; handed_value = h.1 }
