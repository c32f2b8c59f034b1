-- `lengths_of` meets its contract.
use Prim.Native.Nat.{◌-◌}
use Rattle.figures.specs.Figures.{lengths}
use Rattle.figures.specs.PartLaws.{is_sum}
use Rattle.laws.specs.RowLaws.{summed_all, summed_more, summed_none}
use Rattle.plan_tables.specs.Layout.{task_row}
use borrow.Author.Rules.{rules}
use Rattle.figures_sections.proofs.lengths_of.Goals as goal

pub loop-j-init : goal.loop-j-init
unfolding lengths task_row
loop-j-init c = summed_none

pub loop-j-preserved : goal.loop-j-preserved
unfolding lengths task_row
loop-j-preserved c = summed_more c.loop-j.invariant c.loop-j-test.true c.lock_length-x.ensures

pub returns : goal.returns
unfolding lengths task_row
returns c = is_sum {l = 16000000} c.task_cell.ensures (rw (← c.lock_count-n.ensures.is) (summed_all 8 (search rules) c.loop-j.invariant c.loop-j-test.false))
