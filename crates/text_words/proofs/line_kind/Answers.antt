-- `text_lines::line_kind` meets its contract: one kind after the other.
use Rattle.text_words.specs.Keys.{line_kind, key_of, spell}
use Rattle.text_words.specs.KindLaws.{first_then}
use Rattle.text_words.proofs.line_kind.Goals as goal

pub returns : goal.returns
unfolding line_kind key_of spell
returns c =
    first_then _ _ c.first.ensures
    (first_then _ _ c.first-po.ensures
    (first_then _ _ c.first-pn.ensures
    (first_then _ _ c.first-d_o.ensures
    (first_then _ _ c.first-dn.ensures
    c.table_kind-table.ensures))))
