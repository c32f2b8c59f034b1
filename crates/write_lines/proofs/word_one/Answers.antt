-- `write_lines::word_one` meets its contract.
use Rattle.text_letters.specs.WroteLaws.{joins}
use Rattle.text_told.proofs.ToldLaws.{space_first, space_then, told_then}
use Rattle.write_lines.proofs.word_one.Goals as goal

pub tell-k-requires : goal.tell-k-requires
tell-k-requires c = space_first (joins _ _) c.requires

pub tell_number-requires : goal.tell_number-requires
tell_number-requires c = space_then (joins _ _) c.requires c.tell-k.ensures

pub returns : goal.returns
returns c = told_then (joins _ _) c.requires c.tell-k.ensures c.tell_number.ensures
