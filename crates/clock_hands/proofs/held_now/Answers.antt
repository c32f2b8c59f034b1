-- `held_now` meets its contract.
use Rattle.clock_hands.specs.Freed.{held_global_law, held_local_law}
use Rattle.clock_hands.proofs.held_now.Goals as goal

pub returns-then-held_global : goal.returns-then-held_global
returns-then-held_global c = let a = c.args in held_global_law a.view.now a.holder.now a.w a.x c.held_global.ensures c.if-held_global.true

pub returns : goal.returns
returns c = let a = c.args in held_local_law a.view.now a.holder.now a.w a.x c.held_global.ensures c.if-held_global.false c.held_local.ensures
