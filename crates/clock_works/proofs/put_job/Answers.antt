-- `put_job` meets its contract.
use mathlib.Core.Path.{◌∙◌}
use native.Mathlib.Omega.{arith}
use Rattle.clock_works.specs.Worked.{job_done, job_ended, place_before, sized_before}
use Rattle.clock_works.proofs.put_job.Goals as goal

pub overflow_add-q : goal.overflow_add-q
overflow_add-q c =
    let q = c.requires in
    let h = place_before c.args.d (record { from = q.1; to = q.2 }) (record { from = q.3; to = q.4 }) q.0 c.put_done.ensures in
    let e = c.place-q.ensures in
    omega arith

pub put_place-requires : goal.put_place-requires
put_place-requires c =
    let q = c.requires in
    (sized_before c.args.d (record { from = q.1; to = q.2 }) (record { from = q.3; to = q.4 }) q.0 c.put_done.ensures, q.1, q.2, q.3, q.4)

pub shape_of-marks-then-m-ne0 : goal.shape_of-marks-then-m-ne0
shape_of-marks-then-m-ne0 c = c.put_place.auto.marks ∙ c.put_done.auto.marks

pub returns-then-m-ne0 : goal.returns-then-m-ne0
returns-then-m-ne0 c =
    let q = c.requires in
    job_ended c.args.d (record { from = q.1; to = q.2 }) (record { from = q.3; to = q.4 }) q.0 c.put_done.ensures c.place-q.ensures c.put_place.ensures c.if-m-ne0.true

pub shape_of-marks-else-m-ne0 : goal.shape_of-marks-else-m-ne0
shape_of-marks-else-m-ne0 c = c.put_done.auto.marks

pub returns-else-m-ne0 : goal.returns-else-m-ne0
returns-else-m-ne0 c =
    let q = c.requires in
    job_done (record { from = q.1; to = q.2 }) (record { from = q.3; to = q.4 }) q.0 c.put_done.ensures c.if-m-ne0.false
