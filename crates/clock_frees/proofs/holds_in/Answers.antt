-- `holds_in` meets its contract. The loop's invariant: those left hold a global mutex just where the holders of v do.
use Prim.Native.Nat.{◌<◌}
use mathlib.Core.Path.{ap, sym, subst, ◌∙◌}
use native.Mathlib.Omega.{arith}
use Rattle.clock_hands.specs.Holding.{global_among, among_none, among_in, among_hit, among_less, among_fewer}
use Rattle.clock_frees.proofs.holds_in.Goals as goal

pub loop-rest-init : goal.loop-rest-init
loop-rest-init c =
    let a = c.args in
    let q = c.requires in
    (subst (λ y. y < 256) (sym c.at-rest.ensures) (q.0.few_holders a.v (record { from = q.1; to = q.2 })), ap (global_among a.marks.now a.v) c.at-rest.ensures)

pub highest_in-x-requires : goal.highest_in-x-requires
highest_in-x-requires c = let l = c.loop-rest.invariant.0 in omega arith

pub held-requires : goal.held-requires
held-requires c = (c.requires.2, c.highest_in-x.ensures.narrow c.loop-rest.invariant.0)

pub returns-then-held-eq33 : goal.returns-then-held-eq33
returns-then-held-eq33 c =
    let a = c.args in
    let i = c.loop-rest.invariant in
    sym (among_hit a.marks.now a.v i.0 c.loop-rest-test.true c.highest_in-x.ensures (sym c.held.ensures ∙ c.if-held-eq33.true)) ∙ i.1

pub without-rest-requires : goal.without-rest-requires
without-rest-requires c =
    let a = c.args in
    let j = among_in a.marks.now a.v c.loop-rest.invariant.0 c.loop-rest-test.true c.highest_in-x.ensures in
    let t = j.to in (j.from, omega arith)

pub loop-rest-smaller : goal.loop-rest-smaller
loop-rest-smaller c =
    let a = c.args in
    among_fewer a.marks.now a.v c.loop-rest.invariant.0 c.loop-rest-test.true c.highest_in-x.ensures c.without-rest.ensures

pub loop-rest-preserved : goal.loop-rest-preserved
loop-rest-preserved c =
    let a = c.args in
    let i = c.loop-rest.invariant in
    let l = i.0 in
    let w = c.without-rest.ensures.within in (
      omega arith,
      among_less a.marks.now a.v l c.loop-rest-test.true c.highest_in-x.ensures (λ e. c.if-held-eq33.false (c.held.ensures ∙ e)) c.without-rest.ensures ∙ i.1,
    )

pub returns : goal.returns
returns c =
    let a = c.args in
    sym (among_none a.marks.now a.v c.loop-rest.rest c.loop-rest-test.false) ∙ c.loop-rest.invariant.1
