-- `one_more` meets its contract.
use mathlib.Core.Path.{◌∙◌}
use Rattle.clock_works.specs.Worked.{job_sized, more_last, more_on}
use Rattle.clock_works.proofs.one_more.Goals as goal

pub put_ready-requires : goal.put_ready-requires
put_ready-requires c =
    let q = c.requires in
    (job_sized q.0 (record { from = q.1; to = q.2 }) (record { from = q.3; to = q.4 }) c.put_job.ensures, q.1, q.2, q.3, q.4)

pub shape_of-marks-then-d-e : goal.shape_of-marks-then-d-e
shape_of-marks-then-d-e c = c.put_ready.auto.marks ∙ c.put_job.auto.marks

pub returns-then-d-e : goal.returns-then-d-e
returns-then-d-e c =
    let q = c.requires in
    more_last c.args.times.now c.args.m (record { from = q.1; to = q.2 }) (record { from = q.3; to = q.4 }) c.done-d.ensures c.seat.ensures.0 c.at-e.ensures c.put_job.ensures c.if-d-e.true c.put_ready.ensures

pub shape_of-marks-else-d-e : goal.shape_of-marks-else-d-e
shape_of-marks-else-d-e c = c.put_job.auto.marks

pub returns-else-d-e : goal.returns-else-d-e
returns-else-d-e c =
    let q = c.requires in
    more_on c.args.times.now c.args.m (record { from = q.1; to = q.2 }) (record { from = q.3; to = q.4 }) c.done-d.ensures c.seat.ensures.0 c.at-e.ensures c.put_job.ensures c.if-d-e.false
