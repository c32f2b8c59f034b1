-- `clock_words::event_tabs` meets its contract.
use Rattle.text_letters.specs.WroteLaws.{wrote_as, fits_as}
use Rattle.clock_words.specs.EventLaws.{ask_tabs, free_tabs, use_tabs, top_tabs, show_tabs}
use Rattle.clock_words.proofs.event_tabs.Goals as goal

pub word_three-requires : goal.word_three-requires
word_three-requires c = fits_as (ask_tabs c.in-Ask.is) c.requires

pub word_three-requires-in-Free : goal.word_three-requires-in-Free
word_three-requires-in-Free c = fits_as (free_tabs c.in-Free.is) c.requires

pub word_two-requires : goal.word_two-requires
word_two-requires c = fits_as (use_tabs c.in-Use.is) c.requires

pub word_one-requires : goal.word_one-requires
word_one-requires c = fits_as (top_tabs c.in-Top.is) c.requires

pub word_two-requires-in-Show : goal.word_two-requires-in-Show
word_two-requires-in-Show c = fits_as (show_tabs c.in-Show.is) c.requires

pub returns-in-Ask : goal.returns-in-Ask
returns-in-Ask c = wrote_as (ask_tabs c.in-Ask.is) c.word_three.ensures

pub returns-in-Free : goal.returns-in-Free
returns-in-Free c = wrote_as (free_tabs c.in-Free.is) c.word_three-in-Free.ensures

pub returns-in-Use : goal.returns-in-Use
returns-in-Use c = wrote_as (use_tabs c.in-Use.is) c.word_two.ensures

pub returns-in-Top : goal.returns-in-Top
returns-in-Top c = wrote_as (top_tabs c.in-Top.is) c.word_one.ensures

pub returns-in-Show : goal.returns-in-Show
returns-in-Show c = wrote_as (show_tabs c.in-Show.is) c.word_two-in-Show.ensures
