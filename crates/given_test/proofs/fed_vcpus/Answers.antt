use Rattle.given_test.specs.FeedLaws.{fed_none, fed_more, fed_all}
use Rattle.given_test.proofs.fed_vcpus.Goals as goal

pub loop-i-init : goal.loop-i-init
loop-i-init c = fed_none

pub loop-i-preserved : goal.loop-i-preserved
loop-i-preserved c = fed_more c.loop-i.invariant c.loop-i-test.true c.fed_vcpu-s.ensures

pub returns : goal.returns
returns c = fed_all c.loop-i.invariant c.loop-i-test.false
