use Rattle.clock_spends.specs.Spending.{spending_is, put_needs}
use mathlib.Core.Path.{refl}
use Rattle.clock_spends.proofs.spend.Goals as goal

pub put_more-requires : goal.put_more-requires
put_more-requires c = put_needs c.requires c.at-v.ensures c.at-n.ensures

pub returns : goal.returns
returns c = spending_is c.requires c.at-v.ensures c.at-n.ensures c.idling-idle.ensures.1 c.lose.ensures c.lose_own.ensures c.put_more.ensures refl c.sub.ensures
