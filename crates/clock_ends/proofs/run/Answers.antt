use Rattle.clock_ends.specs.EndLaws.{reached_first, reached_end, known_going, known_nexts, known_long, known_end, known_missed, known_strode, strode_less, turns_going, turns_counted, turns_less, known_turned, counted_none, zeros}
use mathlib.Core.Path.{refl, sym, ◌∙◌}
use mathlib.Core.Logic.{inl}
use borrow.Author.Tests.{not-true, not-false}
use native.Mathlib.Omega.{arith}
use Rattle.clock_ends.proofs.run.Goals as goal

pub loop-t-init : goal.loop-t-init
loop-t-init c = let q = c.requires in record { came = inl (reached_first q.0 q.1 refl); counted = counted_none q.0 refl zeros }

pub stride-s-requires : goal.stride-s-requires
stride-s-requires c =
    let i = c.loop-t.invariant in
    (known_going i, known_nexts i, c.loop-t-test.true, c.requires.2, i.counted)

pub returns-then-n-ne0 : goal.returns-then-n-ne0
returns-then-n-ne0 c = known_missed c.loop-t.invariant c.loop-t-test.true c.stride-s.ensures c.if-n-ne0.true

pub loop-t-smaller-then-not-s : goal.loop-t-smaller-then-not-s
loop-t-smaller-then-not-s c = strode_less c.loop-t.invariant c.loop-t-test.true c.stride-s.ensures c.if-n-ne0.false (not-true _ c.if-not-s.true)

pub loop-t-preserved-then-not-s : goal.loop-t-preserved-then-not-s
loop-t-preserved-then-not-s c = known_strode c.loop-t.invariant c.loop-t-test.true c.stride-s.ensures c.if-n-ne0.false (not-true _ c.if-not-s.true)

pub turns_on-requires : goal.turns_on-requires
turns_on-requires c =
    let i = c.loop-t.invariant in
    let l = c.loop-t-test.true in
    let q = c.stride-s.ensures in
    let z = c.if-n-ne0.false in
    let e = not-false _ c.if-not-s.false in
    (turns_going i l q z e, turns_counted i l q z e)

pub loop-t-smaller : goal.loop-t-smaller
loop-t-smaller c = turns_less c.loop-t.invariant c.loop-t-test.true c.stride-s.ensures c.if-n-ne0.false (not-false _ c.if-not-s.false)

pub loop-t-preserved : goal.loop-t-preserved
loop-t-preserved c = known_turned c.loop-t.invariant c.loop-t-test.true c.stride-s.ensures c.if-n-ne0.false (not-false _ c.if-not-s.false) c.turns_on.ensures

pub returns : goal.returns
returns c = let l = c.loop-t-test.false in reached_end (known_end c.loop-t.invariant (omega arith)) (omega arith)
