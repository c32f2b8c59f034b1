-- `put_vcpus` meets its contract: the VCPUs before this one have their budgets and overruns, and have not stopped.
use Rattle.board_seats.specs.Seats.{budget_of, overrun_of}
use Rattle.board_walks.specs.WalkLaws.{Filled}
use Rattle.clock_firsts.proofs.put_vcpus.Given as goal

abbrev pub invariant-loop-v : goal.invariant-loop-v
invariant-loop-v l = Filled 0 16 (λ x. budget_of l.view x) l.left l.v × Filled 0 16 (λ x. overrun_of l.view x) l.over l.v
