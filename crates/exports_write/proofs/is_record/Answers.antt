-- `exports_write::is_record` meets its contract.
use Rattle.exports_write.specs.Numbers.{record_told}
use Rattle.exports_write.proofs.is_record.Goals as goal

pub returns : goal.returns
returns c = record_told c.args.numbers.now c.at.ensures c.at-2.ensures
