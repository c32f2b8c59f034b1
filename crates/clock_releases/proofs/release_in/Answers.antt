-- `release_in` meets its contract: those of the first n tasks that are due are released.
use mathlib.Core.Path.{sym, ◌∙◌}
use native.Mathlib.Omega.{arith}
use Rattle.board_keeps.specs.Fair.{InV}
use Rattle.clock_releases.specs.ReleaseLaws.{releases_none, releases_leave, releases_take, releases_row}
use Rattle.clock_releases.proofs.release_in.Goals as goal
use Rattle.clock_releases.proofs.release_in.Goals.{then-is_due, else-is_due}

pub loop-n-init : goal.loop-n-init
loop-n-init c = (releases_none _ _ c.requires.0 (λ j a b. absurd (omega arith)), omega arith)

pub release-requires : goal.release-requires
release-requires c =
    let p = c.requires in
    let l = c.loop-n-test.true in
    (c.loop-n.invariant.0.sized, p.2, p.3, omega arith, omega arith)

pub loop-n-preserved : goal.loop-n-preserved
loop-n-preserved c =
    let p = c.requires in
    let h = c.loop-n.invariant.0 in
    let l = c.loop-n-test.true in
    let i : InV _ = record { from = p.2; to = p.3 } in
    let e = c.seat.ensures.0 in
    let d = c.is_due.ensures in (
      elim c.if-is_due.branch [
        | then-is_due w ↦ rw w.marks-is (releases_take i l e d h w.if-is_due.true w.release.ensures)
        | else-is_due w ↦ rw w.marks-is (releases_leave i l e d h w.if-is_due.false)
      ],
      omega arith,
    )

pub shape_of-marks : goal.shape_of-marks
shape_of-marks c = c.loop-n.invariant.0.sized.long ∙ sym c.requires.0.long

pub returns : goal.returns
returns c = releases_row c.args.v c.loop-n.invariant.0 c.loop-n.invariant.1 c.loop-n-test.false
