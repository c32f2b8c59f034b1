use Rattle.clock_nexts.specs.Gather.{gathered_with}
use mathlib.Core.Bool.{true≢false}
use mathlib.Core.Path.{sym, ◌∙◌}
use Rattle.clock_nexts.proofs.gather.Goals as goal

pub returns-then-on : goal.returns-then-on
returns-then-on c = let p = c.requires in let q = gathered_with (record { from = p.0; to = p.1 }) c.with.ensures in (q.0, q.1, λ _. q.2)

pub returns : goal.returns
returns c = (c.requires.2, λ w i e. e, λ e. absurd (true≢false (sym e ∙ c.if-on.false)))
