-- `read_plan::read_plan` meets its contract.
use mathlib.Core.Path.{◌≡◌, ◌∙◌}
use Rattle.plan_tables.specs.Layout.{Tables, lent}
use Rattle.read_answer.specs.Into.{plan_answer}
use Rattle.read_answer.specs.JudgedLaws.{Left, read_answer, read_left}
use Rattle.read_plan.proofs.read_plan.Goals as goal

pub returns : goal.returns
returns c =
    let a = c.args in
    let s = a.src.now in
    let t : Tables = lent a.vt.now a.mt.now a.ot.now a.kt.now in
    let j = c.judge_lines-a in
    let w = c.with_room-b in
    let o = c.is_accepted in
    let f = c.fill_if in
    let e : w.result ≡ plan_answer s t = read_answer s t j.result w.result j.ensures w.ensures in
    let l : Left s t o.result = read_left s t w.result o.result e o.ensures in record { value = e; vt_after = f.ensures.vt_after ∙ l.vcpus; mt_after = f.ensures.mt_after ∙ l.mutexes; ot_after = f.ensures.ot_after ∙ l.opens; kt_after = f.ensures.kt_after ∙ l.tasks }
