use Rattle.clock_sets.specs.SetLaws.{without_is}
use Rattle.clock_sets.proofs.without.Goals as goal

pub returns : goal.returns
returns c = let a = c.args in without_is a.s a.v c.requires.0 c.requires.1
