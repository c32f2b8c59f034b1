-- The VCPU that an event names, and how an event may change a board.
use Rattle.std.specs.Prelude.{ℕ}
use Rattle.board_rules.specs.Facts.{Facts}
use Rattle.board_rules.specs.declared.Board.{Board}
use Rattle.board_rules.specs.declared.Event.{Event}
use Rattle.board_rules.specs.declared.Event.TheVariants.{Ask, Free, Use, Top, Show}
use Rattle.board_rules.specs.Board.{settled}
use Rattle.board_keeps.specs.Fair.{InV}
use Rattle.board_keeps.specs.Shaped.{Shaped}
use Rattle.board_rules.specs.SettleEvents.{OthersKeep}

-- the v that each event names
abbrev pub own_vcpu : Event → ℕ
own_vcpu (Ask v n m) = v
own_vcpu (Free v n m) = v
own_vcpu (Use v t) = v
own_vcpu (Top v) = v
own_vcpu (Show v n) = v

-- an event of v leaves the board as it was, or settles one in which the other VCPUs keep what `OthersKeep` says
pub data OwnChange (F : Facts) (v : ℕ) (b : Board) : Board → Type 0 where
  stays : OwnChange F v b b
  completes : (b' : Board) → Shaped b' → InV v → OthersKeep F v b b' → OwnChange F v b (settled F b')
