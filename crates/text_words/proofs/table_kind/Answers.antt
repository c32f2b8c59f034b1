-- `text_lines::table_kind` meets its contract: one kind after the other.
use Rattle.text_words.specs.Keys.{table_kind, key_of, spell}
use Rattle.text_words.specs.KindLaws.{first_then}
use Rattle.text_words.proofs.table_kind.Goals as goal

pub returns : goal.returns
unfolding table_kind key_of spell
returns c =
    first_then _ _ c.first.ensures
    (first_then _ _ c.first-global.ensures
    (first_then _ _ c.first-local.ensures
    (first_then _ _ c.first-open.ensures
    c.sheet_kind.ensures)))
