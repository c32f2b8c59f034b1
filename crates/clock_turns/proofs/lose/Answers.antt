-- `lose` meets its contract.
use mathlib.Core.Path.{sym, ◌∙◌}
use Rattle.clock_turns.specs.Turning.{none_lost}
use Rattle.clock_turns.proofs.lose.Goals as goal

pub idle_uses-requires : goal.idle_uses-requires
idle_uses-requires c =
    let q = c.requires in record { c_bound = (q.going.1, sym c.under_p.ensures ∙ c.if-under_p.true, q.going.0); room_at = q.room_at }

pub returns-then-under_p : goal.returns-then-under_p
returns-then-under_p c =
    let u = c.idle_uses.ensures in
    record { going = u.going; made = u.made; done = u.marks_unchanged }

pub returns : goal.returns
returns c =
    let a = c.args in
    let q = c.requires in
    none_lost q.going.0 a.on a.t a.out.now a.at a.c (sym c.under_p.ensures ∙ c.if-under_p.false)
