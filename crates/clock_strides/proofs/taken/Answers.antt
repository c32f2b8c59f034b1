use Rattle.clock_spends.specs.Spending.{spend_needs}
use Rattle.clock_strides.specs.TurnsOn.{stride_spent, turn_looked, turn_made, known_pick}
use mathlib.Core.Bool.{true≢false, false≢true}
use native.Mathlib.Omega.{arith}
use Rattle.clock_strides.proofs.taken.Goals as goal

pub returns-then-look : goal.returns-then-look
returns-then-look c = let q = c.requires in (λ e. absurd (false≢true e), λ _. turn_looked q.0 q.1 c.args.c c.if-look.true)

pub spend-requires : goal.spend-requires
spend-requires c =
    let q = c.requires in
    let l = c.if-at-gt0.true in
    let e = c.at.ensures in
    spend_needs q.0 q.1 q.2 (omega arith) (omega (arith, l, e))

pub returns-then-at-gt0 : goal.returns-then-at-gt0
returns-then-at-gt0 c =
    let q = c.requires in
    let l = c.if-at-gt0.true in
    let e = c.at.ensures in
    (λ _. stride_spent q.0 q.1 q.2 c.if-look.false (omega (arith, l, e)) c.spend.ensures, λ z. absurd (true≢false z))

pub turn-r-requires : goal.turn-r-requires
turn-r-requires c =
    let o = c.args in
    let q = c.requires in record { going = (q.0, q.2); room_at = λ e. absurd (false≢true e); known_pick = known_pick q.1 o.c q.2 c.at-2.ensures c.at-3.ensures }

pub forget_if-requires : goal.forget_if-requires
forget_if-requires c = c.requires.1.long

pub returns : goal.returns
returns c =
    let o = c.args in
    let q = c.requires in
    let u = c.turn-r.ensures in
    (λ e. absurd (false≢true e), λ _. turn_made q.0 q.1 o.c u.handed_value u.turned.going u.turned.after c.forget_if.ensures c.if-look.false)
