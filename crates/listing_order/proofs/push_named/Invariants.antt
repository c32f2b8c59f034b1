-- `push_named` meets its contract: the places of the tasks among the rows before this one are written.
use Rattle.laws.specs.Rows.{rows}
use Rattle.laws.specs.Sums.{only}
use Rattle.listing_order.specs.Pushed.{Growing, is_task}
use Rattle.plan_tables.specs.Layout.{task_row}
use lib.ListN.{length}
use mathlib.Core.Path.{◌≡◌}
use Rattle.listing_order.proofs.push_named.Given as goal

abbrev pub invariant-loop-i : goal.invariant-loop-i
invariant-loop-i l = (length l.order ≡ length l.initial.order) × Growing l.t.tasks.now l.count l.initial.order l.k (λ j. only (is_task l.v l.n) (rows j (task_row l.t.tasks.now))) l.count l.order l.e l.i
