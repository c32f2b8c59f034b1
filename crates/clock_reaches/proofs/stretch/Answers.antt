use Rattle.clock_reaches.specs.Reaches.{rest_some, end_coming, stretch_free, stretch_before, stretch_within}
use mathlib.Core.Logic.{inl, inr}
use mathlib.Core.Path.{sym, refl, ◌∙◌}
use native.Mathlib.Omega.{arith}
use Rattle.clock_reaches.proofs.stretch.Goals as goal

pub overflow_sub-rest : goal.overflow_sub-rest
overflow_sub-rest c =
    let l = rest_some c.args.times.now c.args.holder.now c.args.marks.now c.requires.0 c.requires.1 c.requires.2 c.requires.3 c.requires.4 c.seat-s.ensures.0 c.at-d.ensures c.at-q.ensures c.at.ensures in
    omega arith

pub overflow_sub-rest-2 : goal.overflow_sub-rest-2
overflow_sub-rest-2 c =
    let l = rest_some c.args.times.now c.args.holder.now c.args.marks.now c.requires.0 c.requires.1 c.requires.2 c.requires.3 c.requires.4 c.seat-s.ensures.0 c.at-d.ensures c.at-q.ensures c.at.ensures in
    omega arith

pub returns-then-q-ge8 : goal.returns-then-q-ge8
returns-then-q-ge8 c =
    let l = rest_some c.args.times.now c.args.holder.now c.args.marks.now c.requires.0 c.requires.1 c.requires.2 c.requires.3 c.requires.4 c.seat-s.ensures.0 c.at-d.ensures c.at-q.ensures c.at.ensures in
    let h = c.if-q-ge8.true in
    stretch_free c.args.times.now c.args.holder.now c.args.marks.now c.requires.0 c.requires.1 c.requires.2 c.requires.3 c.requires.4 c.seat-s.ensures.0 c.at-d.ensures c.at-q.ensures
    (λ y z. omega arith) c.at.ensures (omega arith)

pub returns-then-m-eq0 : goal.returns-then-m-eq0
returns-then-m-eq0 c =
    let l = rest_some c.args.times.now c.args.holder.now c.args.marks.now c.requires.0 c.requires.1 c.requires.2 c.requires.3 c.requires.4 c.seat-s.ensures.0 c.at-d.ensures c.at-q.ensures c.at.ensures in
    let h = sym c.at-m.ensures ∙ c.if-m-eq0.true in
    stretch_free c.args.times.now c.args.holder.now c.args.marks.now c.requires.0 c.requires.1 c.requires.2 c.requires.3 c.requires.4 c.seat-s.ensures.0 c.at-d.ensures c.at-q.ensures
    (λ y z. omega arith) c.at.ensures (omega arith)

pub returns-then-d-b : goal.returns-then-d-b
returns-then-d-b c =
    let h = c.if-q-ge8.false in
    let y = c.if-d-b.true in
    stretch_before c.args.times.now c.args.holder.now c.args.marks.now c.requires.0 c.requires.1 c.requires.2 c.requires.3 c.requires.4 c.seat-s.ensures.0 c.at-d.ensures c.at-q.ensures
    (omega arith) c.at-m.ensures c.if-m-eq0.false c.at-b.ensures refl (omega arith)

pub overflow_sub-within : goal.overflow_sub-within
overflow_sub-within c =
    let h = c.if-q-ge8.false in
    let l = end_coming c.args.times.now c.args.holder.now c.args.marks.now c.requires.0 c.requires.1 c.requires.2 c.requires.3 c.requires.4 c.seat-s.ensures.0 c.at-d.ensures c.at-q.ensures
    (omega arith) c.at-m.ensures c.if-m-eq0.false c.at-b.ensures c.at-2.ensures in
    omega arith

pub overflow_sub-within-2 : goal.overflow_sub-within-2
overflow_sub-within-2 c =
    let h = c.if-q-ge8.false in
    let l = end_coming c.args.times.now c.args.holder.now c.args.marks.now c.requires.0 c.requires.1 c.requires.2 c.requires.3 c.requires.4 c.seat-s.ensures.0 c.at-d.ensures c.at-q.ensures
    (omega arith) c.at-m.ensures c.if-m-eq0.false c.at-b.ensures c.at-2.ensures in
    omega arith

pub returns-then-b-d : goal.returns-then-b-d
returns-then-b-d c =
    let h = c.if-q-ge8.false in
    let y = c.if-b-d.true in
    let l = end_coming c.args.times.now c.args.holder.now c.args.marks.now c.requires.0 c.requires.1 c.requires.2 c.requires.3 c.requires.4 c.seat-s.ensures.0 c.at-d.ensures c.at-q.ensures
    (omega arith) c.at-m.ensures c.if-m-eq0.false c.at-b.ensures c.at-2.ensures in
    stretch_within c.args.times.now c.args.holder.now c.args.marks.now c.requires.0 c.requires.1 c.requires.2 c.requires.3 c.requires.4 c.seat-s.ensures.0 c.at-d.ensures c.at-q.ensures
    (omega arith) c.at-m.ensures c.if-m-eq0.false c.at-b.ensures c.at-2.ensures (omega arith) (λ z. absurd (omega arith)) (inl y)

pub returns-then-holds : goal.returns-then-holds
returns-then-holds c =
    let h = c.if-q-ge8.false in
    let y = c.if-b-d.false in
    let z = c.if-d-b.false in
    let l = end_coming c.args.times.now c.args.holder.now c.args.marks.now c.requires.0 c.requires.1 c.requires.2 c.requires.3 c.requires.4 c.seat-s.ensures.0 c.at-d.ensures c.at-q.ensures
    (omega arith) c.at-m.ensures c.if-m-eq0.false c.at-b.ensures c.at-2.ensures in
    stretch_within c.args.times.now c.args.holder.now c.args.marks.now c.requires.0 c.requires.1 c.requires.2 c.requires.3 c.requires.4 c.seat-s.ensures.0 c.at-d.ensures c.at-q.ensures
    (omega arith) c.at-m.ensures c.if-m-eq0.false c.at-b.ensures c.at-2.ensures (omega arith) (λ z. sym c.holds.ensures ∙ c.if-holds.true) (inr (omega arith))

pub returns : goal.returns
returns c =
    let h = c.if-q-ge8.false in
    let z = c.if-d-b.false in
    let y = c.if-b-d.false in
    stretch_before c.args.times.now c.args.holder.now c.args.marks.now c.requires.0 c.requires.1 c.requires.2 c.requires.3 c.requires.4 c.seat-s.ensures.0 c.at-d.ensures c.at-q.ensures
    (omega arith) c.at-m.ensures c.if-m-eq0.false c.at-b.ensures c.at-2.ensures (omega arith)
