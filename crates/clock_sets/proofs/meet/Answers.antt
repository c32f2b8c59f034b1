use Rattle.clock_sets.specs.SetLaws.{meet_is}
use Rattle.clock_sets.proofs.meet.Goals as goal

pub returns : goal.returns
returns c = meet_is c.args.a c.args.b
