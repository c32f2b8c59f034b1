use Rattle.std.proofs.Common.{rules}
use Rattle.clock.specs.Rooms.{refused_room}
use Rattle.clock.proofs.tell_refusal.Goals as goal

pub refused_line-w-requires : goal.refused_line-w-requires
refused_line-w-requires g c =
    let a = c.args in refused_room a.c (search rules) (search rules) a.out.now c.requires
