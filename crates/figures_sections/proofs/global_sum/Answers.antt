-- `global_sum` meets its contract.
use Prim.Native.Nat.{◌-◌}
use Rattle.figures.specs.Figures.{global_sum}
use Rattle.laws.specs.RowLaws.{summed_all, summed_more, summed_none}
use Rattle.plan_tables.specs.Layout.{task_row}
use borrow.Author.Rules.{rules}
use Rattle.figures_sections.proofs.global_sum.Goals as goal

pub loop-j-init : goal.loop-j-init
unfolding global_sum task_row
loop-j-init c = summed_none

pub loop-j-preserved : goal.loop-j-preserved
unfolding global_sum task_row
loop-j-preserved c = summed_more c.loop-j.invariant c.loop-j-test.true c.global_ticks-x.ensures

pub returns : goal.returns
unfolding global_sum task_row
returns c = rw (← c.lock_count-n.ensures.is) (summed_all 8 (search rules) c.loop-j.invariant c.loop-j-test.false)
