use Rattle.laws.specs.RowLaws.{passed_none, passed_more, passed_out, passed_all}
use Rattle.given_tidy.specs.Tests.{all_tidy}
use mathlib.Core.Bool.{not}
use mathlib.Core.Path.{ap}
use Rattle.given_tidy.proofs.all_tidy.Goals as goal

pub loop-i-init : goal.loop-i-init
loop-i-init c = passed_none

pub returns-then-not-one : goal.returns-then-not-one
unfolding all_tidy
returns-then-not-one c = passed_out c.loop-i.invariant c.loop-i-test.true c.tidy-one.ensures (ap not c.if-not-one.true)

pub loop-i-preserved : goal.loop-i-preserved
loop-i-preserved c = passed_more c.loop-i.invariant c.loop-i-test.true c.tidy-one.ensures (ap not c.if-not-one.false)

pub returns : goal.returns
unfolding all_tidy
returns c = passed_all c.loop-i.invariant c.loop-i-test.false
