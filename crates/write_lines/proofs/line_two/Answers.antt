-- `write_lines::line_two` meets its contract.
use Rattle.laws.specs.Decimal.{decimal}
use Rattle.text_told.proofs.ToldLaws.{space_first, space_then, told_then}
use Rattle.write_lines.specs.Texts.{word_joins}
use Rattle.write_lines.proofs.line_two.Goals as goal

pub word_one-k-requires : goal.word_one-k-requires
word_one-k-requires c = space_first (word_joins c.args.w.now (decimal c.args.a) _) c.requires

pub tell_last-requires : goal.tell_last-requires
tell_last-requires c = space_then (word_joins c.args.w.now (decimal c.args.a) _) c.requires c.word_one-k.ensures

pub returns : goal.returns
returns c = told_then (word_joins c.args.w.now (decimal c.args.a) _) c.requires c.word_one-k.ensures c.tell_last.ensures
