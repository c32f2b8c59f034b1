-- `renew` meets its contract: the nexts before this one are renewed, and r is the least of them.
use borrow.Author.Rules.{rules}
use mathlib.Core.Path.{◌∙◌, ap}
use native.Mathlib.Omega.{arith}
use Rattle.clock_nexts.specs.Nexts.{sooner}
use Rattle.clock_nexts.specs.ScanLaws.{soonest_none, soonest_more, soonest_to}
use Rattle.clock_nexts.specs.WriteLaws.{wrote_none, wrote_to, renewal_here, renewal_more}
use Rattle.clock_nexts.proofs.renew.Goals as goal

pub loop-i-init : goal.loop-i-init
loop-i-init c = (search rules, search rules, wrote_none, soonest_none)

pub renewed-y-requires : goal.renewed-y-requires
renewed-y-requires c =
    let p = c.requires in
    let e = p.3 in
    let q = c.loop-i-test.true in
    (p.0.to _ (omega arith), p.4)

pub loop-i-preserved : goal.loop-i-preserved
loop-i-preserved c =
    let h = c.loop-i.invariant in
    let q = c.loop-i-test.true in
    let e = c.requires.3 in
    let n = c.renewed-y.ensures in (
      search rules,
      search rules,
      renewal_more c.args.times.now c.args.t h.2 c.requires.1 h.0 (omega arith) n,
      soonest_more h.3 h.0 (c.sooner-r.ensures ∙ ap (λ y. sooner y c.loop-i.r) (renewal_here c.args.times.now c.args.t h.2 n)),
    )

pub returns : goal.returns
returns c =
    let h = c.loop-i.invariant in
    let l = c.loop-i-test.false in
    (wrote_to h.2 h.1 l, soonest_to h.3 h.1 l)
