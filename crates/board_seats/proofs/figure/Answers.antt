use mathlib.Core.Path.{ap, ◌∙◌}
use lib.ListN.{get_or}
use Rattle.board_seats.proofs.figure.Goals as goal

pub returns : goal.returns
returns c = c.at.ensures ∙ ap (λ k. get_or c.args.a.now k 0) c.sub.ensures
