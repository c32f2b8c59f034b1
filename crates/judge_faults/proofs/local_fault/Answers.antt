use mathlib.Core.Path.{ap, ◌∙◌}
use lib.Dec.{leb}
use Rattle.judge_coded.specs.Coded.{mutex_fault}
use Rattle.judge_faults.proofs.local_fault.Goals as goal

pub returns : goal.returns
returns c =
    let a = c.args in
    c.mutex_fault.ensures ∙ ap (λ x. mutex_fault a.t a.m a.v (leb 1 x)) c.at.ensures
