use Rattle.given_tasks.proofs.Laws.{guest_told}
use Rattle.given_tasks.proofs.guest_clear.Goals as goal

pub returns : goal.returns
returns c =
    let a = c.args in
    guest_told a.hosted.now a.f a.g c.at-known.ensures c.within.ensures
