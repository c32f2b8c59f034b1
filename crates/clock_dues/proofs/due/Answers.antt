use mathlib.Core.Path.{sym, ◌∙◌}
use Rattle.clock_dues.specs.Places.{due_is}
use Rattle.clock_dues.proofs.due.Goals as goal

pub returns-then-holds : goal.returns-then-holds
returns-then-holds c =
    due_is c.args.times.now c.args.marks.now (record { from = c.requires.0; to = c.requires.1 }) (record { from = c.requires.2; to = c.requires.3 }) c.seat-s.ensures.0 c.at.ensures c.at-2.ensures
    c.args.holder.now c.mutex_at-m.ensures (rw (sym c.holds.ensures ∙ c.if-holds.true))

pub returns : goal.returns
returns c =
    due_is c.args.times.now c.args.marks.now (record { from = c.requires.0; to = c.requires.1 }) (record { from = c.requires.2; to = c.requires.3 }) c.seat-s.ensures.0 c.at.ensures c.at-2.ensures
    c.args.holder.now c.mutex_at-m.ensures (rw (sym c.holds.ensures ∙ c.if-holds.false))
