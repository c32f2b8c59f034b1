-- `exports_write::write_numbers` meets its contract.
use Rattle.plan_tables.specs.Layout.{lent}
use Rattle.exports_write.specs.Numbers.{numbers_none, numbers_some}
use Rattle.exports_write.proofs.write_numbers.Goals as goal

pub returns-then-not-is_record : goal.returns-then-not-is_record
returns-then-not-is_record c =
    let t = lent c.args.vt.now c.args.mt.now c.args.ot.now c.args.ts.now in let h = numbers_none c.args.numbers.now t c.args.out.now c.is_record.ensures c.if-not-is_record.true in record { value = h.0; out_after = h.1 }

pub returns : goal.returns
returns c =
    let t = lent c.args.vt.now c.args.mt.now c.args.ot.now c.args.ts.now in
    let h = c.write_plan.ensures in let h = numbers_some c.args.numbers.now t c.args.out.now c.is_record.ensures c.if-not-is_record.false c.record_from-r.ensures h.value h.out_after in record { value = h.0; out_after = h.1 }
