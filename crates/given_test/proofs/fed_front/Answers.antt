use Rattle.given_test.specs.RowLaws.{front_fed}
use Rattle.given_test.proofs.fed_front.Goals as goal

pub returns : goal.returns
returns c = front_fed c.args.r c.policy_kind-kind.ensures c.fresh.ensures
    c.fed-first.ensures c.fed.ensures
