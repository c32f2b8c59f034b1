use mathlib.Core.Path.{ap}
use mathlib.Core.Bool.{true}
use Rattle.judge_coded.specs.declared.Seen.{Seen}
use Rattle.given_test.specs.Feed.{Run}
use Rattle.given_test.proofs.fresh.Goals as goal

pub returns : goal.returns
returns c =
    let f : Seen → Run = λ s. record { ok = true; seen = s } in
    ap f c.start-seen.ensures
