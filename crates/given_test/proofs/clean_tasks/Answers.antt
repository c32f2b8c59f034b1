use Rattle.laws.specs.Rows.{rows}
use Rattle.plan_tables.specs.Layout.{vcpu_row}
use Rattle.given_tidy.specs.TestLaws.{few_locks}
use Rattle.given_test.specs.TaskLaws.{clean_told, clean_missed}
use Rattle.given_test.proofs.clean_tasks.Goals as goal

pub returns-then-run-m : goal.returns-then-run-m
returns-then-run-m c =
    let a = c.args in
    clean_told a.run (rows a.n (vcpu_row a.vt.now)) a.t.now c.requires.3 a.m c.requires.1 (few_locks a.t.now a.m c.requires.2)
    c.within.ensures c.if-run-m.true c.seen_clear.ensures

pub returns-else-run-m : goal.returns-else-run-m
returns-else-run-m c =
    let a = c.args in
    clean_missed a.run (rows a.n (vcpu_row a.vt.now)) a.t.now c.requires.3 a.m c.requires.1 (few_locks a.t.now a.m c.requires.2)
    c.within.ensures c.if-run-m.false
