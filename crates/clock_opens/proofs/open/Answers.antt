-- `open` meets its contract.
use mathlib.Core.Path.{◌∙◌}
use Rattle.clock_misses.specs.DueLaws.{paired_periods}
use Rattle.clock_releases.specs.OpenLaws.{opening}
use Rattle.clock_opens.proofs.open.Goals as goal

pub tops_due-w-requires : goal.tops_due-w-requires
tops_due-w-requires c = c.requires

pub jobs_due-requires : goal.jobs_due-requires
jobs_due-requires c =
    let p = c.requires in
    let h = c.tops_due-w.ensures in
    (paired_periods p.0.paired, h.topped.mirrors.sized, h.long, h.jobs, p.2)

pub shape_of-left : goal.shape_of-left
shape_of-left c = c.tops_due-w.auto.left

pub shape_of-over : goal.shape_of-over
shape_of-over c = c.tops_due-w.auto.over

pub shape_of-stopped : goal.shape_of-stopped
shape_of-stopped c = c.tops_due-w.auto.stopped

pub shape_of-marks : goal.shape_of-marks
shape_of-marks c = c.jobs_due.auto.marks ∙ c.tops_due-w.auto.marks

pub shape_of-nexts : goal.shape_of-nexts
shape_of-nexts c = c.jobs_due.auto.nexts ∙ c.tops_due-w.auto.nexts

pub shape_of-out : goal.shape_of-out
shape_of-out c = c.tops_due-w.auto.out

pub returns : goal.returns
returns c =
    let p = c.requires in
    let j = c.jobs_due.ensures in
    opening p.0 p.1 p.2 c.tops_due-w.ensures j.0 j.1
