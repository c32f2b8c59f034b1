use Rattle.clock_skips.specs.SkipLaws.{soon_is, not_open, step_missed, step_opened, step_still, stride_ready, step_strode}
use Rattle.clock_spends.specs.Putting.{forgot_counted}
use mathlib.Core.Bool.{false, false≢true}
use native.Mathlib.Omega.{arith}
use mathlib.Core.Path.{refl}
use Rattle.clock_skips.proofs.stride.Goals as goal

pub slice_bounds-open-end : goal.slice_bounds-open-end
slice_bounds-open-end c = refl

pub open-o-requires : goal.open-o-requires
open-o-requires c =
    let q = c.requires in
    let l = q.2 in
    let m = q.3 in
    let e = soon_is c.args.nexts.now c.at.ensures c.at-2.ensures c.sooner-soon.ensures.2 in
    let u = c.if-soon-t.true in
    (q.0, not_open q.1 (omega (arith, e, u)), omega arith, λ z. absurd (false≢true z))

pub returns-then-n-ne0 : goal.returns-then-n-ne0
returns-then-n-ne0 c =
    let e = soon_is c.args.nexts.now c.at.ensures c.at-2.ensures c.sooner-soon.ensures.2 in
    let u = c.if-soon-t.true in
    step_missed (omega (arith, e, u)) c.open-o.ensures c.if-n-ne0.true c.args.t false

pub forget-requires : goal.forget-requires
forget-requires c = c.requires.4.long

pub returns-then-soon-t : goal.returns-then-soon-t
returns-then-soon-t c =
    let e = soon_is c.args.nexts.now c.at.ensures c.at-2.ensures c.sooner-soon.ensures.2 in
    let u = c.if-soon-t.true in
    step_opened (omega (arith, e, u)) c.open-o.ensures c.if-n-ne0.false (forgot_counted c.requires.4.long c.forget.ensures)

pub overflow_add-result : goal.overflow_add-result
overflow_add-result c = let q = c.requires in omega (arith, q.2, q.3)

pub returns-then-k-eq0 : goal.returns-then-k-eq0
returns-then-k-eq0 c =
    let q = c.requires in
    let e = soon_is c.args.nexts.now c.at.ensures c.at-2.ensures c.sooner-soon.ensures.2 in
    let u = c.if-soon-t.false in
    step_still q.0 q.1 (omega (arith, e, u)) q.4

pub spend_all-requires : goal.spend_all-requires
spend_all-requires c =
    let q = c.requires in
    let e = soon_is c.args.nexts.now c.at.ensures c.at-2.ensures c.sooner-soon.ensures.2 in
    let u = c.if-soon-t.false in
    let b = c.sooner-most.ensures in
    let b₀ = b.0 in
    let l = c.least-k.ensures in
    let f = c.sub.ensures in
    let z = c.if-k-eq0.false in
    stride_ready q.0 q.1 (omega (arith, e, u)) q.4 (omega (arith, e, b₀)) b.1 (omega (arith, l.0, f), l.1) (omega arith)

pub overflow_add-result-2 : goal.overflow_add-result-2
overflow_add-result-2 c =
    let q = c.requires in
    let m = q.3 in
    let b = c.sooner-most.ensures.1 in
    let e = c.least-k.ensures.0 in
    let f = c.sub.ensures in
    omega arith

pub returns : goal.returns
returns c =
    let q = c.requires in
    let e = soon_is c.args.nexts.now c.at.ensures c.at-2.ensures c.sooner-soon.ensures.2 in
    let u = c.if-soon-t.false in
    let b = c.sooner-most.ensures in
    let b₀ = b.0 in
    let l = c.least-k.ensures in
    let f = c.sub.ensures in
    let z = c.if-k-eq0.false in
    step_strode q.0 q.1 (omega (arith, e, u)) q.4 (omega (arith, e, b₀)) b.1 (omega (arith, l.0, f), l.1) (omega arith) c.spend_all.ensures
