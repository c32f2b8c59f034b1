-- `text_lines::sheet_kind` meets its contract: one kind after the other.
use Rattle.text_words.specs.Keys.{sheet_kind, key_of, spell}
use Rattle.text_words.specs.KindLaws.{first_then}
use Rattle.text_words.proofs.sheet_kind.Goals as goal

pub returns : goal.returns
unfolding sheet_kind key_of spell
returns c =
    first_then _ _ c.first.ensures
    (first_then _ _ c.first-task.ensures
    (first_then _ _ c.first-run.ensures
    (first_then _ _ c.first-lock.ensures
    (first_then _ _ c.first-end.ensures
    c.event_kind.ensures))))
