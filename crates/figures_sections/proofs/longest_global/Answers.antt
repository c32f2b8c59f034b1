-- `longest_global` meets its contract.
use Prim.Native.Nat.{◌-◌}
use Rattle.figures.specs.Figures.{longest_global}
use Rattle.laws.specs.RowLaws.{greatest_all, greatest_more, greatest_none}
use Rattle.plan_tables.specs.Layout.{task_row}
use Rattle.figures_sections.proofs.longest_global.Goals as goal

pub loop-j-init : goal.loop-j-init
unfolding longest_global task_row
loop-j-init c = greatest_none

pub loop-j-preserved : goal.loop-j-preserved
unfolding longest_global task_row
loop-j-preserved c = greatest_more c.loop-j.invariant c.loop-j-test.true c.global_ticks-x.ensures c.larger-s.ensures

pub returns : goal.returns
unfolding longest_global task_row
returns c = rw (← c.lock_count-n.ensures.is) (greatest_all c.loop-j.invariant c.loop-j-test.false)
