-- `read_tally::tally_by` meets its contract.
use Rattle.read_tally.proofs.Laws.{tally_told}
use Rattle.read_tally.proofs.tally_by.Goals as goal

pub returns : goal.returns
returns c =
    let x = c.args in
    tally_told x.t x.m c.policy_by.ensures c.overrun_by.ensures
    c.bump.ensures c.bump-2.ensures c.bump-3.ensures
    c.bump-4.ensures c.locks_by.ensures
