-- `put_waits` meets its contract: every place is 0.
use Rattle.std.proofs.Common.{ap, ◌∙◌, replicate, rules}
use Rattle.clock_firsts.proofs.Fills.{replicate_list}
use Rattle.clock_firsts.proofs.put_waits.Goals as goal

pub returns : goal.returns
returns c = c.fill.ensures.after (λ y h. search rules) ∙ ap (λ n. replicate n 0) c.requires ∙ replicate_list _ 0
