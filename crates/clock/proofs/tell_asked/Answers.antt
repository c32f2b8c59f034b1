use Rattle.clock.specs.Rooms.{until_to, alone_room}
use Rattle.clock.proofs.tell_asked.Goals as goal

pub tell_plan-requires : goal.tell_plan-requires
tell_plan-requires g c =
    let q = c.requires in
    let h = c.in-Ok in
    (q.0, until_to c.args.src.now c.horizon_from.ensures h.h h.is, q.1)

pub refused_alone-w-requires : goal.refused_alone-w-requires
refused_alone-w-requires g c = alone_room _ c.args.out.now c.requires.1
