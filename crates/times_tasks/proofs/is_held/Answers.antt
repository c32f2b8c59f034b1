-- `is_held` meets its contract: no task before this one holds task i up.
use Rattle.figures.specs.Answers.{is_held}
use Rattle.figures.specs.Tabled.{system_in}
use Rattle.laws.specs.RowLaws.{lacking_all, lacking_more, lacking_none, lacking_out}
use Rattle.times_tasks.proofs.is_held.Goals as goal

pub loop-h-init : goal.loop-h-init
unfolding is_held system_in
loop-h-init c = lacking_none

pub returns-then-holds_up : goal.returns-then-holds_up
unfolding is_held system_in
returns-then-holds_up c = lacking_out c.loop-h.invariant c.loop-h-test.true c.holds_up.ensures c.if-holds_up.true

pub loop-h-preserved : goal.loop-h-preserved
unfolding is_held system_in
loop-h-preserved c = lacking_more c.loop-h.invariant c.loop-h-test.true c.holds_up.ensures c.if-holds_up.false

pub returns : goal.returns
unfolding is_held system_in
returns c = lacking_all c.loop-h.invariant c.loop-h-test.false
