use Rattle.clock_begins.specs.Begins.{begun_going}
use Rattle.clock.proofs.tell_plan.Goals as goal

pub tell_run-requires : goal.tell_run-requires
tell_run-requires g c =
    let q = c.requires in
    let b = c.begin.ensures in
    (begun_going b, b.started.nexts, b.small, q.1, q.2)
