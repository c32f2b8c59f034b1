-- `read_plan::fill_if` meets its contract.
use Rattle.read_fill.specs.Fill.{vcpu_put, mutex_put, open_put, task_put}
use Rattle.read_answer.specs.JudgedLaws.{left_on, left_off}
use Rattle.read_plan.proofs.fill_if.Goals as goal

pub returns-then-on : goal.returns-then-on
returns-then-on c =
    let a = c.args in
    let h = c.if-on.true in
    let f = c.read_lines in record { vt_after = left_on a.on vcpu_put a.src.now a.vt.now _ h f.ensures.vt_after; mt_after = left_on a.on mutex_put a.src.now a.mt.now _ h f.ensures.mt_after; ot_after = left_on a.on open_put a.src.now a.ot.now _ h f.ensures.ot_after; kt_after = left_on a.on task_put a.src.now a.kt.now _ h f.ensures.kt_after }

pub returns-else-on : goal.returns-else-on
returns-else-on c =
    let a = c.args in
    let h = c.if-on.false in record { vt_after = left_off a.on vcpu_put a.src.now a.vt.now h; mt_after = left_off a.on mutex_put a.src.now a.mt.now h; ot_after = left_off a.on open_put a.src.now a.ot.now h; kt_after = left_off a.on task_put a.src.now a.kt.now h }
