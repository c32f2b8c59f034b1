-- `write_rows::tasks_told` meets its contract.
use mathlib.Core.Path.{◌≡◌}
use Rattle.laws.specs.Rows.{rows}
use Rattle.plan_tables.specs.Layout.{vcpu_row}
use Rattle.given_tidy.specs.Hosts.{last_at}
use Rattle.given_test.specs.Feed.{task_lines}
use Rattle.write_rows.specs.Rows.{ToldRows}
use Rattle.write_rows.proofs.tasks_told.Given as goal

abbrev pub invariant-loop-i : goal.invariant-loop-i
invariant-loop-i l = ToldRows l.on (task_lines (rows l.c (vcpu_row l.vt)) l.t) l.m l.initial.out l.out l.n l.k l.i × (l.last ≡ last_at (rows l.c (vcpu_row l.vt)) l.t l.i)
