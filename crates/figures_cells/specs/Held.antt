-- The system that a plan in lent tables is.
use Rattle.figures.specs.System.{System}
use Rattle.figures.specs.Tabled.{system_in}
use Rattle.figures_cells.specs.declared.PlanTables.{PlanTables}

abbrev pub system_of : PlanTables → System
system_of t = system_in t.plan t.vcpus.now t.mutexes.now t.tasks.now
