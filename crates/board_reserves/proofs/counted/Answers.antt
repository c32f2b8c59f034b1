use mathlib.Core.Path.{sym, ◌∙◌}
use Rattle.board_walks.specs.Walks.{holds_global}
use Rattle.board_reserves.specs.SupplyLaws.{none_counts}
use Rattle.board_reserves.proofs.counted.Goals as goal

pub returns-then-o-eq0 : goal.returns-then-o-eq0
returns-then-o-eq0 c = let a = c.args in none_counts (holds_global a.view.now a.holder.now a.v) c.if-o-eq0.true

pub returns-then-holds_global : goal.returns-then-holds_global
returns-then-holds_global c = rw (sym c.holds_global.ensures ∙ c.if-holds_global.true)

pub returns-else-holds_global : goal.returns-else-holds_global
returns-else-holds_global c = rw (sym c.holds_global.ensures ∙ c.if-holds_global.false)
