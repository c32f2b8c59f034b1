-- `write_tables::plan_told` meets its contract.
use borrow.Author.Rules.{rules}
use Rattle.plan_tables.specs.Layout.{lent}
use Rattle.text_told.proofs.ToldLaws.{space_first, space_then, told_then}
use Rattle.write_tables.specs.Parts.{plan_joins, vcpus_joins, mutexes_joins, opens_joins, tasks_joins, given_few, given_tidy, space_plan}
use Rattle.write_tables.proofs.plan_told.Goals as goal

pub front-first-requires : goal.front-first-requires
front-first-requires c =
    let t = lent c.args.vt.now c.args.mt.now c.args.ot.now c.args.ts.now in
    space_first (plan_joins c.args.r t) (space_plan c.args.r t c.requires.0 c.requires.1)

pub rows_told-vcpus-requires : goal.rows_told-vcpus-requires
rows_told-vcpus-requires c =
    let t = lent c.args.vt.now c.args.mt.now c.args.ot.now c.args.ts.now in
    let u0 = c.front-first.ensures in
    let s0 = space_then (plan_joins c.args.r t) (space_plan c.args.r t c.requires.0 c.requires.1) u0 in
    (let f = (given_few c.args.r t c.requires.0).vcpus in search rules, space_first (vcpus_joins c.args.r t) s0)

pub rows_told-mutexes-requires : goal.rows_told-mutexes-requires
rows_told-mutexes-requires c =
    let t = lent c.args.vt.now c.args.mt.now c.args.ot.now c.args.ts.now in
    let u0 = c.front-first.ensures in
    let s0 = space_then (plan_joins c.args.r t) (space_plan c.args.r t c.requires.0 c.requires.1) u0 in
    let u1 = c.rows_told-vcpus.ensures in
    let s1 = space_then (vcpus_joins c.args.r t) s0 u1 in
    (let f = (given_few c.args.r t c.requires.0).mutexes in search rules, space_first (mutexes_joins c.args.r t) s1)

pub rows_told-opens-requires : goal.rows_told-opens-requires
rows_told-opens-requires c =
    let t = lent c.args.vt.now c.args.mt.now c.args.ot.now c.args.ts.now in
    let u0 = c.front-first.ensures in
    let s0 = space_then (plan_joins c.args.r t) (space_plan c.args.r t c.requires.0 c.requires.1) u0 in
    let u1 = c.rows_told-vcpus.ensures in
    let s1 = space_then (vcpus_joins c.args.r t) s0 u1 in
    let u2 = c.rows_told-mutexes.ensures in
    let s2 = space_then (mutexes_joins c.args.r t) s1 u2 in
    (let f = (given_few c.args.r t c.requires.0).opens in search rules, space_first (opens_joins c.args.r t) s2)

pub tasks_told-tasks-requires : goal.tasks_told-tasks-requires
tasks_told-tasks-requires c =
    let t = lent c.args.vt.now c.args.mt.now c.args.ot.now c.args.ts.now in
    let u0 = c.front-first.ensures in
    let s0 = space_then (plan_joins c.args.r t) (space_plan c.args.r t c.requires.0 c.requires.1) u0 in
    let u1 = c.rows_told-vcpus.ensures in
    let s1 = space_then (vcpus_joins c.args.r t) s0 u1 in
    let u2 = c.rows_told-mutexes.ensures in
    let s2 = space_then (mutexes_joins c.args.r t) s1 u2 in
    let u3 = c.rows_told-opens.ensures in
    let s3 = space_then (opens_joins c.args.r t) s2 u3 in
    (let f = (given_few c.args.r t c.requires.0).vcpus in search rules, let f = (given_few c.args.r t c.requires.0).tasks in search rules, given_tidy c.args.r t c.requires.0, space_first (tasks_joins c.args.r t) s3)

pub tell-requires : goal.tell-requires
tell-requires c =
    let t = lent c.args.vt.now c.args.mt.now c.args.ot.now c.args.ts.now in
    let u0 = c.front-first.ensures in
    let s0 = space_then (plan_joins c.args.r t) (space_plan c.args.r t c.requires.0 c.requires.1) u0 in
    let u1 = c.rows_told-vcpus.ensures in
    let s1 = space_then (vcpus_joins c.args.r t) s0 u1 in
    let u2 = c.rows_told-mutexes.ensures in
    let s2 = space_then (mutexes_joins c.args.r t) s1 u2 in
    let u3 = c.rows_told-opens.ensures in
    let s3 = space_then (opens_joins c.args.r t) s2 u3 in
    let u4 = c.tasks_told-tasks.ensures in
    let s4 = space_then (tasks_joins c.args.r t) s3 u4 in
    s4

pub returns : goal.returns
returns c =
    let t = lent c.args.vt.now c.args.mt.now c.args.ot.now c.args.ts.now in
    let u0 = c.front-first.ensures in
    let s0 = space_then (plan_joins c.args.r t) (space_plan c.args.r t c.requires.0 c.requires.1) u0 in
    let u1 = c.rows_told-vcpus.ensures in
    let s1 = space_then (vcpus_joins c.args.r t) s0 u1 in
    let u2 = c.rows_told-mutexes.ensures in
    let s2 = space_then (mutexes_joins c.args.r t) s1 u2 in
    let u3 = c.rows_told-opens.ensures in
    let s3 = space_then (opens_joins c.args.r t) s2 u3 in
    let u4 = c.tasks_told-tasks.ensures in
    let s4 = space_then (tasks_joins c.args.r t) s3 u4 in
    told_then (plan_joins c.args.r t) (space_plan c.args.r t c.requires.0 c.requires.1) u0 (told_then (vcpus_joins c.args.r t) s0 u1 (told_then (mutexes_joins c.args.r t) s1 u2 (told_then (opens_joins c.args.r t) s2 u3 (told_then (tasks_joins c.args.r t) s3 u4 c.tell.ensures))))
