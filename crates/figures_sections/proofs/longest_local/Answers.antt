-- `longest_local` meets its contract.
use Prim.Native.Nat.{◌-◌}
use Rattle.figures.specs.Figures.{longest_local}
use Rattle.laws.specs.RowLaws.{greatest_all, greatest_more, greatest_none}
use Rattle.plan_tables.specs.Layout.{task_row}
use Rattle.figures_sections.proofs.longest_local.Goals as goal

pub loop-j-init : goal.loop-j-init
unfolding longest_local task_row
loop-j-init c = greatest_none

pub loop-j-preserved : goal.loop-j-preserved
unfolding longest_local task_row
loop-j-preserved c = greatest_more c.loop-j.invariant c.loop-j-test.true c.local_ticks-x.ensures c.larger-s.ensures

pub returns : goal.returns
unfolding longest_local task_row
returns c = rw (← c.lock_count-e.ensures.is) (greatest_all c.loop-j.invariant c.loop-j-test.false)
