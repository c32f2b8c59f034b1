use Rattle.clock_sets.specs.SetLaws.{with_is}
use Rattle.clock_sets.proofs.with.Goals as goal

pub returns : goal.returns
returns c = let a = c.args in with_is a.s a.v c.requires.0 c.requires.1 c.requires.2
