-- `releases` meets its contract: the due tasks of the first i VCPUs are released.
use mathlib.Core.Path.{sym, ◌∙◌}
use native.Mathlib.Omega.{arith}
use Rattle.clock_releases.specs.ReleaseLaws.{releases_none, rows_leave, rows_take, rows_all}
use Rattle.clock_releases.proofs.releases.Goals as goal
use Rattle.clock_releases.proofs.releases.Goals.{then-nexts-i, else-nexts-i}

pub loop-i-init : goal.loop-i-init
loop-i-init c = (releases_none _ _ c.requires.0 (λ j a b. absurd (omega arith)), omega arith)

pub release_in-requires : goal.release_in-requires
release_in-requires c =
    let l = c.loop-i-test.true in
    (c.loop-i.invariant.0.sized, c.requires.1, omega arith, omega arith)

pub loop-i-preserved : goal.loop-i-preserved
loop-i-preserved c =
    let p = c.requires in
    let h = c.loop-i.invariant.0 in
    let l = c.loop-i-test.true in (
      elim c.if-nexts-i.branch [
        | then-nexts-i w ↦ rw w.marks-is (rows_take l h w.release_in.ensures)
        | else-nexts-i w ↦ rw w.marks-is (rows_leave l h (p.2.rows _ (record { from = omega arith; to = omega arith })) w.if-nexts-i.false)
      ],
      omega arith,
    )

pub shape_of-marks : goal.shape_of-marks
shape_of-marks c = c.loop-i.invariant.0.sized.long ∙ sym c.requires.0.long

pub returns : goal.returns
returns c = rows_all c.loop-i.invariant.0 c.loop-i.invariant.1 c.loop-i-test.false
