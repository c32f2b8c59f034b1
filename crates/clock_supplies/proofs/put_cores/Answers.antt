-- `put_cores` meets its contract.
use Rattle.clock_supplies.specs.CoreLaws.{cores_are}
use Rattle.clock_supplies.proofs.put_cores.Goals as goal

pub returns : goal.returns
returns c = cores_are _ _ _ _ _ _ c.requires c.core_set.ensures c.core_set-2.ensures c.core_set-3.ensures c.core_set-4.ensures
