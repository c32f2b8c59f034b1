-- What code takes apart: the event that a line tells.
use Rattle.std.specs.Prelude.{Bool, true, false, Option, Some, None}
use Rattle.plan.specs.declared.Refusal.TheVariants.{Shape, Number}
use Rattle.board_rules.specs.Facts.{Facts}
use Rattle.board_rules.specs.declared.Board.{Board}
use Rattle.board_rules.specs.declared.Event.{Event}
use Rattle.board_rules.specs.declared.Outcome.{Outcome}
use Rattle.board_rules.specs.Board.{step, refused}

-- the event, where there is one
abbrev pub told_of : Option Event → Option Event
told_of None = None
told_of (Some e) = Some e

-- one event whose line has its numbers written as they should be, or not
unfoldable pub on_said : Facts → Board → Bool → Event → Outcome
on_said F b ok e = elim ok [ true ↦ step F b e | false ↦ refused b Number ]

abbrev pub on_told : Facts → Board → Bool → Option Event → Outcome
on_told F b ok None = refused b Shape
on_told F b ok (Some e) = on_said F b ok e
