-- `write_lines::mutex_line` meets its contract.
use Rattle.text_told.proofs.ToldLaws.{space_first, space_then, told_then}
use Rattle.write_lines.specs.Texts.{mutex_joins}
use Rattle.write_lines.proofs.mutex_line.Goals as goal

pub word_one-k-requires : goal.word_one-k-requires
word_one-k-requires c = space_first (mutex_joins c.args.m c.args.owner) c.requires

pub owner_rest-requires : goal.owner_rest-requires
owner_rest-requires c = space_then (mutex_joins c.args.m c.args.owner) c.requires c.word_one-k.ensures

pub returns : goal.returns
returns c = told_then (mutex_joins c.args.m c.args.owner) c.requires c.word_one-k.ensures c.owner_rest.ensures
