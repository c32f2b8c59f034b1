use Rattle.clock.specs.Rooms.{end_room}
use Rattle.clock.proofs.tell_end.Goals as goal

pub end_line-e-requires : goal.end_line-e-requires
end_line-e-requires g c = let q = c.requires in end_room _ q.0 c.args.out.now q.1
