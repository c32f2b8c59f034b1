-- `text_lines::event_kind` meets its contract: one kind after the other.
use Rattle.text_words.specs.Keys.{event_kind, key_of, spell}
use Rattle.text_words.specs.KindLaws.{first_then}
use Rattle.text_words.proofs.event_kind.Goals as goal

pub returns : goal.returns
unfolding event_kind key_of spell
returns c =
    first_then _ _ c.first.ensures
    (first_then _ _ c.first-free.ensures
    (first_then _ _ c.first-used.ensures
    (first_then _ _ c.first-top.ensures
    c.first-show.ensures)))
