-- `lock_time` meets its contract: c says which part it is in, and which seat and lock it is of.
use Rattle.clock_cells.specs.FillLaws.{begin_place, end_place, mutex_place}
use mathlib.Core.Path.{◌∙◌}
use Rattle.clock_views.proofs.lock_time.Goals as goal

pub returns-then-c-lt1024 : goal.returns-then-c-lt1024
returns-then-c-lt1024 c =
    let p = c.requires in
    c.begin_of.ensures ∙ begin_place _ _ _ _ _ p.0 _ c.if-c-lt1024.true

pub returns-then-c-lt2048 : goal.returns-then-c-lt2048
returns-then-c-lt2048 c =
    let p = c.requires in
    c.end_of.ensures ∙ end_place _ _ _ _ _ p.0 _ c.if-c-lt1024.false c.if-c-lt2048.true

pub returns : goal.returns
returns c =
    let p = c.requires in
    c.mutex_of.ensures ∙ mutex_place _ _ _ _ _ p.0 _ c.if-c-lt2048.false p.1
