use Rattle.clock_sets.specs.SetLaws.{less_is}
use Rattle.clock_sets.proofs.less.Goals as goal

pub returns : goal.returns
returns c = less_is c.args.a c.args.b c.ranges.b.fits
