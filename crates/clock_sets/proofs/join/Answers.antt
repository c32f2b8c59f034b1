use Rattle.clock_sets.specs.SetLaws.{join_is}
use Rattle.clock_sets.proofs.join.Goals as goal

pub returns : goal.returns
returns c = join_is c.args.a c.args.b c.requires.0 c.requires.1
