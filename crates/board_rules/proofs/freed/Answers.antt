use mathlib.Core.Path.{sym, ◌∙◌}
use Rattle.board_rules.specs.BoardLaws.{freed_global_law, freed_local_law}
use Rattle.board_rules.specs.Lent.{board_of}
use Rattle.board_rules.proofs.freed.Goals as goal

pub returns-then-is_global : goal.returns-then-is_global
returns-then-is_global c = λ o os own k. let a = c.args in
    c.freed_global.ensures o os own k ∙ sym (freed_global_law a.policy o a.view.now (board_of a.left.now os a.stopped.now a.holder.now a.waits.now) a.v a.m (sym c.is_global.ensures ∙ c.if-is_global.true))

pub freed_local-requires : goal.freed_local-requires
freed_local-requires c = let q = c.requires in (q.0, q.1, q.2, q.3, sym c.is_global.ensures ∙ c.if-is_global.false, q.4, q.5)

pub returns : goal.returns
returns c = λ o os own k. let a = c.args in
    c.freed_local.ensures o os k ∙ sym (freed_local_law a.policy o a.view.now (board_of a.left.now os a.stopped.now a.holder.now a.waits.now) a.v a.m (sym c.is_global.ensures ∙ c.if-is_global.false))
