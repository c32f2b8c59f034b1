-- Of those above n, `best` is the topmost by rank, and `high` its rank.
use mathlib.Core.Path.{sym, ◌∙◌}
use native.Mathlib.Omega.{arith}
use Rattle.laws.specs.BoolLaws.{clash}
use Rattle.laws_picks.specs.PickLaws.{top_le}
use Rattle.clock_sets.specs.Sets.{in_set}
use Rattle.clock_marks.specs.Marks.{held_cell}
use Rattle.clock_dues.specs.Picking.{rank_of}
use Rattle.clock_picks.specs.PickedN.{rank_some, rank_by}
use Rattle.clock_picks.specs.Scans.{scan_none, scan_left, scan_took, scan_all}
use Rattle.clock_picks.proofs.pick_ranked.Goals as goal
use Rattle.clock_picks.proofs.pick_ranked.Goals.{then-has+then-high-p, then-has+else-high-p, else-has}

pub loop-n-init : goal.loop-n-init
loop-n-init c = scan_none

pub loop-n-preserved : goal.loop-n-preserved
loop-n-preserved c =
    let a = c.args in
    let h = c.has.ensures in
    let t = c.loop-n-test.true in
    elim c.if-has.branch [
      | then-has+then-high-p w ↦
          scan_took c.loop-n.invariant t (sym h ∙ w.if-has.true) (rank_by a.view.now a.waits.now a.marks.now a.v c.loop-n.n w.seat.ensures.0 w.at.ensures w.rank-p.ensures) w.if-high-p.true w.best-is w.high-is
      | then-has+else-high-p w ↦
          scan_left c.loop-n.invariant t (λ y. let e = rank_by a.view.now a.waits.now a.marks.now a.v c.loop-n.n w.seat.ensures.0 w.at.ensures w.rank-p.ensures in omega (arith, e, w.if-high-p.false)) w.best-is w.high-is
      | else-has w ↦ scan_left c.loop-n.invariant t (λ y. absurd (clash y (sym h ∙ w.if-has.false))) w.best-is w.high-is
    ]

pub returns : goal.returns
returns c =
    let a = c.args in
    let e = scan_all (λ j g y z. rank_some a.view.now a.waits.now a.v (held_cell a.marks.now a.v j) j g) c.loop-n.invariant (omega arith) in
    (e, rw e (top_le 8 (in_set a.set) (λ j. rank_of a.view.now a.waits.now a.v (held_cell a.marks.now a.v j) j)))
