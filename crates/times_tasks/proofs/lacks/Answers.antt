-- `lacks` meets its contract.
use Rattle.times_tasks.specs.WaitLaws.{flag_is}
use Rattle.times_tasks.proofs.lacks.Goals as goal

pub returns : goal.returns
returns c = let h = c.requires in flag_is _ (h.0.flags.at _ h.1).is
