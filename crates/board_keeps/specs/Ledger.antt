-- The ticks accepted for a VCPU since its last `top` (or the start), added up from the events and their answers.
use Rattle.std.specs.Prelude.{ℕ, ◌+◌, Bool, true, false, ◌&&◌, List, [], ◌∷◌, eqb}
use Rattle.std.specs.Prelude.{if◌then◌else◌}
use Rattle.board_rules.specs.declared.Event.{Event}
use Rattle.board_rules.specs.declared.Event.TheVariants.{Ask, Free, Use, Top, Show}
use Rattle.board_rules.specs.declared.BoardAnswer.{BoardAnswer}
use Rattle.board_rules.specs.declared.BoardAnswer.TheVariants.{Granted, Waits, Freed, Left, Shows, Refused}

-- `use` or `top` is accepted: it is answered `left b o`
abbrev pub accepted : BoardAnswer → Bool
accepted Granted = false
accepted Waits = false
accepted (Freed w) = false
accepted (Left b o) = true
accepted (Shows t v) = false
accepted (Refused r) = false

-- the ticks of v, after one event and its answer: `use v u` adds u, `top v` starts anew
unfoldable pub entered : ℕ → ℕ → Event → BoardAnswer → ℕ
entered v t (Ask w n m) a = t
entered v t (Free w n m) a = t
entered v t (Use w u) a = if accepted a && eqb w v then t + u else t
entered v t (Top w) a = if accepted a && eqb w v then 0 else t
entered v t (Show w n) a = t

-- the ticks of v after the events, where they were t before
unfoldable pub ledger : ℕ → ℕ → List Event → List BoardAnswer → ℕ
ledger v t [] xs = t
ledger v t (e ∷ es) [] = t
ledger v t (e ∷ es) (a ∷ xs) = ledger v (entered v t e a) es xs
