use Rattle.clock_dues.specs.Places.{mutex_here_law, mutex_other, mutex_past}
use Rattle.clock_dues.proofs.mutex_at.Goals as goal

pub returns-then-at-d : goal.returns-then-at-d
returns-then-at-d c =
    let a = c.args in
    mutex_here_law a.times.now a.part a.v a.n a.q a.d c.if-q-lt8.true c.seat.ensures.0 c.at.ensures c.if-at-d.true c.at-then-at-d.ensures

pub returns-else-at-d : goal.returns-else-at-d
returns-else-at-d c =
    let a = c.args in
    mutex_other a.times.now a.part a.v a.n a.q a.d c.if-q-lt8.true c.seat.ensures.0 c.at.ensures c.if-at-d.false

pub returns-else-q-lt8 : goal.returns-else-q-lt8
returns-else-q-lt8 c = let a = c.args in mutex_past a.times.now a.part a.v a.n a.q a.d c.if-q-lt8.false
