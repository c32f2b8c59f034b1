use Rattle.board_rules.specs.BoardLaws.{good_in}
use Rattle.board_rules.proofs.Board.good.Goals as goal

pub returns : goal.returns
returns c = let a = c.args in
    rw (c.both-2.ensures, c.both.ensures, c.seats_good.ensures, c.all_tasks_good-tasks.ensures, c.vcpus_good-vcpus.ensures, good_in a.plan.now.policy a.plan.now.overrun a.plan.now.view.now a.self)
