-- `local_owner` meets its contract: m is local to no VCPU above v.
use Rattle.figures_cells.specs.Held.{system_of}
use Rattle.plan.specs.Lookup.{local_to}
use Rattle.laws.specs.RangeLaws.{Down}
use Rattle.board_viewcells.proofs.local_owner.Given as goal

abbrev pub invariant-loop-v : goal.invariant-loop-v
invariant-loop-v l = Down 16 (λ w. local_to (system_of l.t).mutexes w l.m) l.v
