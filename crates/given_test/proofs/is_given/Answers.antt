use Rattle.plan_tables.specs.Layout.{lent}
use Rattle.given_test.specs.TestLaws.{few_told, given_told, given_refused}
use Rattle.given_test.proofs.is_given.Goals as goal

pub sound_rows-requires : goal.sound_rows-requires
sound_rows-requires c =
    let x = c.args in
    few_told x.r (lent x.vt.now x.mt.now x.ot.now x.ts.now) c.roomy.ensures c.few.ensures c.if-roomy-few.true

pub returns-then-roomy-few : goal.returns-then-roomy-few
returns-then-roomy-few c =
    let x = c.args in
    given_told x.r (lent x.vt.now x.mt.now x.ot.now x.ts.now) c.roomy.ensures c.few.ensures
    c.if-roomy-few.true c.sound_rows.ensures

pub returns-else-roomy-few : goal.returns-else-roomy-few
returns-else-roomy-few c =
    let x = c.args in
    given_refused x.r (lent x.vt.now x.mt.now x.ot.now x.ts.now) c.roomy.ensures c.few.ensures c.if-roomy-few.false
