use borrow.Author.Rules.{rules}
use Rattle.plan_tables.specs.Layout.{lent}
use Rattle.given_test.specs.BareLaws.{front_bare, vcpus_bare, mutexes_bare, opens_bare}
use Rattle.given_test.specs.TestLaws.{rows_clean}
use Rattle.given_test.proofs.clean_rows.Goals as goal

pub clean_tasks-requires : goal.clean_tasks-requires
clean_tasks-requires c = (
  search rules,
  search rules,
  c.requires.1,
  opens_bare c.args.ot.now c.args.r.opens c.fed_opens-opens.ensures
      (mutexes_bare c.args.mt.now c.args.r.mutexes c.fed_mutexes-mutexes.ensures
      (vcpus_bare c.args.vt.now c.args.r.vcpus c.fed_vcpus-vcpus.ensures (front_bare c.args.r c.fed_front-front.ensures))),
)

pub returns : goal.returns
returns c =
    let x = c.args in
    rows_clean x.r (lent x.vt.now x.mt.now x.ot.now x.ts.now) c.fed_front-front.ensures
    c.fed_vcpus-vcpus.ensures c.fed_mutexes-mutexes.ensures
    c.fed_opens-opens.ensures c.clean_tasks.ensures
