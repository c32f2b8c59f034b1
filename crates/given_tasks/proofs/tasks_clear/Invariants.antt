use mathlib.Core.Path.{◌≡◌}
use Rattle.laws.specs.Rows.{rows, Passed}
use Rattle.plan_tables.specs.Layout.{vcpu_row}
use Rattle.given_tidy.specs.Hosts.{last_at}
use Rattle.given_tasks.specs.Clear.{task_at}
use Rattle.given_tasks.proofs.tasks_clear.Given as goal

abbrev pub invariant-loop-i : goal.invariant-loop-i
invariant-loop-i l = Passed (task_at l.guests l.hosted l.owners l.opens l.t (rows l.n (vcpu_row l.vt))) (λ k. k) l.m l.i × (l.last ≡ last_at (rows l.n (vcpu_row l.vt)) l.t l.i)

-- a task's answer, from the guests
