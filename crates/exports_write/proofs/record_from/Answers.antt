-- `exports_write::record_from` meets its contract.
use Rattle.exports_write.specs.Numbers.{record_made}
use Rattle.exports_write.proofs.record_from.Goals as goal

pub returns : goal.returns
returns c =
    record_made c.args.numbers.now c.at.ensures c.policy_from-policy.ensures c.at-2.ensures c.overrun_from-overrun.ensures
    c.at-vcpus.ensures c.at-mutexes.ensures c.at-opens.ensures c.at-tasks.ensures
