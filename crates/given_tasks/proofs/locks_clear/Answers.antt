use Rattle.laws.specs.RowLaws.{passed_none, passed_more, passed_out, passed_all}
use mathlib.Core.Bool.{not}
use mathlib.Core.Path.{ap}
use Rattle.given_tasks.proofs.locks_clear.Goals as goal

pub loop-j-init : goal.loop-j-init
loop-j-init c = passed_none

pub returns-then-not-one : goal.returns-then-not-one
returns-then-not-one c = passed_out c.loop-j.invariant c.loop-j-test.true c.lock_at-one.ensures (ap not c.if-not-one.true)

pub loop-j-preserved : goal.loop-j-preserved
loop-j-preserved c = passed_more c.loop-j.invariant c.loop-j-test.true c.lock_at-one.ensures (ap not c.if-not-one.false)

pub returns : goal.returns
returns c = passed_all c.loop-j.invariant c.loop-j-test.false
