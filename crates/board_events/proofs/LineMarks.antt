-- A line of events leaves a board on which a mark stands where it is due such a one.
use Rattle.std.specs.Prelude.{ℕ, List, Bool, true, false, Option, Some, None}
use Rattle.plan.specs.Line.{Item, shape, written, item_of}
use Rattle.board_rules.specs.Facts.{Facts}
use Rattle.board_rules.specs.declared.Board.{Board}
use Rattle.board_rules.specs.declared.Event.{Event}
use Rattle.board_rules.specs.Settle.{Marked}
use Rattle.board_rules.proofs.Marked.{step_marked}
use Rattle.board_events.specs.Events.{event_of, on_event, on_item, on_line}

module _ (F : Facts) (b : Board) (k : Marked F b) where
  event_marked : (ok : Bool) (x : Option Event) → Marked F (on_event F b ok x).board
  event_marked ok None = k
  event_marked true (Some e) = step_marked F b k e
  event_marked false (Some e) = k

  item_marked : (x : Option Item) → Marked F (on_item F b x).board
  item_marked None = k
  item_marked (Some i) = event_marked (written (shape i.kind) i.nums) (event_of i.kind i.nums)

  pub line_marked : (l : List ℕ) → Marked F (on_line F b l).board
  unfolding on_line
  line_marked l = item_marked (item_of l)
