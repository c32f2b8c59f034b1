-- A plan as the analysis and the board see it: its tasks in one list, without sections and opens, which say only where a line may reach.
use Rattle.std.specs.Prelude.{List}
use Rattle.plan.specs.declared.Policy.{Policy}
use Rattle.plan.specs.declared.OverrunChoice.{OverrunChoice}
use Rattle.plan.specs.Plan.{Vcpu, Mutex, Task, Plan, tasks_of}

pub record System : Type 0 where
  pub policy : Policy
  pub overrun : OverrunChoice
  pub vcpus : List Vcpu
  pub mutexes : List Mutex
  pub tasks : List Task

abbrev pub system : Plan → System
system p = record { policy = p.policy; overrun = p.overrun; vcpus = p.vcpus; mutexes = p.mutexes; tasks = tasks_of p.sections }
