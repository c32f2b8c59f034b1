-- `records::no_rows` meets its contract.
use borrow.Author.Rules.{rules}
use Rattle.records.specs.Sheet.{no_rows}
use Rattle.records.proofs.no_rows.Goals as goal

pub returns : goal.returns
unfolding no_rows
returns c = search rules
