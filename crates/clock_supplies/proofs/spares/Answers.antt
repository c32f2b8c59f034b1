-- `spares` meets its contract.
use Rattle.clock_supplies.proofs.spares.Goals as goal

pub returns-else-stopped : goal.returns-else-stopped
returns-else-stopped c = rw (c.in-WithOverrun.is, c.if-stopped.false)
