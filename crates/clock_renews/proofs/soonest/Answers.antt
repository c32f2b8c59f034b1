-- `soonest` meets its contract: r is the least of the cells before this one.
use Rattle.std.proofs.Common.{ℕ, ◌≡◌, ◌<◌, ◌≤◌, ◌+◌, ◌-◌, List, length, get_or, take, drop, ap, ◌∙◌, arith, length-take-le, length-drop, get_or-take, get_or-drop}
use Rattle.clock_nexts.specs.Nexts.{sooner}
use Rattle.clock_nexts.specs.ScanLaws.{soonest_none, soonest_more, soonest_to}
use Rattle.clock_renews.proofs.soonest.Goals as goal

part_long : (l : List ℕ) (a e : ℕ) → e ≤ length l → length (take (e - a) (drop a l)) ≡ e - a
part_long l a e h = length-take-le (e - a) (drop a l) (omega (arith, length-drop a l))

part_at : (l : List ℕ) (a e i : ℕ) → i < e - a → get_or (take (e - a) (drop a l)) i 0 ≡ get_or l (a + i) 0
part_at l a e i h = get_or-take (e - a) (drop a l) i 0 h ∙ get_or-drop a l i 0

pub loop-x-init : goal.loop-x-init
loop-x-init c =
    let z : c.args.a + 0 ≡ c.args.a = omega arith in
    (omega arith, rw z soonest_none)

pub loop-x-preserved : goal.loop-x-preserved
loop-x-preserved c =
    let l = c.args.nexts.now in
    let a = c.args.a in
    let e = c.args.e in
    let i = c.loop-x.x-index in
    let h = c.loop-x.invariant in
    let p = c.requires in
    let n : i < e - a = omega (arith, part_long l a e (omega arith)) in
    let z : a + (i + 1) ≡ a + i + 1 = omega arith in
    (omega arith, rw z (soonest_more h.1 (omega arith) (c.sooner-r.ensures ∙ ap (λ y. sooner y c.loop-x.r) (part_at l a e i n))))

pub returns : goal.returns
returns c =
    let h = c.loop-x.invariant in
    let p = c.requires in
    let n = part_long c.args.nexts.now c.args.a c.args.e (omega arith) in
    soonest_to h.1 (omega arith) (omega arith)
