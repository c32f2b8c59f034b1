-- `write_lines::line_five` meets its contract.
use Rattle.laws.specs.Decimal.{decimal}
use Rattle.text_letters.specs.TabbedLaws.{rest_joins}
use Rattle.text_told.proofs.ToldLaws.{space_first, space_then, told_then}
use Rattle.write_lines.specs.Texts.{word_joins}
use Rattle.write_lines.proofs.line_five.Goals as goal

pub word_one-k-requires : goal.word_one-k-requires
word_one-k-requires c = space_first (word_joins c.args.w.now (decimal c.args.a) _) c.requires

pub tell_number-l-requires : goal.tell_number-l-requires
tell_number-l-requires c = space_first (rest_joins _ _) (space_then (word_joins c.args.w.now (decimal c.args.a) _) c.requires c.word_one-k.ensures)

pub tell_number-m-requires : goal.tell_number-m-requires
tell_number-m-requires c = space_first (rest_joins _ _) (space_then (rest_joins _ _) (space_then (word_joins c.args.w.now (decimal c.args.a) _) c.requires c.word_one-k.ensures) c.tell_number-l.ensures)

pub tell_number-p-requires : goal.tell_number-p-requires
tell_number-p-requires c = space_first (rest_joins _ _) (space_then (rest_joins _ _) (space_then (rest_joins _ _) (space_then (word_joins c.args.w.now (decimal c.args.a) _) c.requires c.word_one-k.ensures) c.tell_number-l.ensures) c.tell_number-m.ensures)

pub tell_last-requires : goal.tell_last-requires
tell_last-requires c = space_then (rest_joins _ _) (space_then (rest_joins _ _) (space_then (rest_joins _ _) (space_then (word_joins c.args.w.now (decimal c.args.a) _) c.requires c.word_one-k.ensures) c.tell_number-l.ensures) c.tell_number-m.ensures) c.tell_number-p.ensures

pub returns : goal.returns
returns c = told_then (word_joins c.args.w.now (decimal c.args.a) _) c.requires c.word_one-k.ensures (told_then (rest_joins _ _) (space_then (word_joins c.args.w.now (decimal c.args.a) _) c.requires c.word_one-k.ensures) c.tell_number-l.ensures (told_then (rest_joins _ _) (space_then (rest_joins _ _) (space_then (word_joins c.args.w.now (decimal c.args.a) _) c.requires c.word_one-k.ensures) c.tell_number-l.ensures) c.tell_number-m.ensures (told_then (rest_joins _ _) (space_then (rest_joins _ _) (space_then (rest_joins _ _) (space_then (word_joins c.args.w.now (decimal c.args.a) _) c.requires c.word_one-k.ensures) c.tell_number-l.ensures) c.tell_number-m.ensures) c.tell_number-p.ensures c.tell_last.ensures)))
