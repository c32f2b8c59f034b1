-- `log_answers::answers` meets its contract.
use Prim.Native.Nat.{◌-◌, ◌≤◌}
use lib.ListN.{length, drop}
use Rattle.board_rules.specs.PlanViews.{facts}
use Rattle.board_events.specs.Events.{replies_to}
use Rattle.board_rules.specs.Settle.{Marked}
use Rattle.log_answers.specs.TellLaws.{Run}
use Rattle.log_answers.proofs.answers.Given as goal

abbrev pub invariant-loop-rest : goal.invariant-loop-rest
invariant-loop-rest l = (l.at ≤ length l.src) × Run l.on (replies_to (facts l.plan) l.initial.t l.src) l.initial.out l.out (replies_to (facts l.plan) l.t (drop l.at l.src)) l.n l.at × Marked (facts l.plan) l.t

abbrev pub decreases-loop-rest : goal.decreases-loop-rest
decreases-loop-rest l = length l.src - l.at
