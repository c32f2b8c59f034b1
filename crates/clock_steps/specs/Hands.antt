-- A mutex that is handed on.
use Rattle.std.specs.Prelude.{Bool, true, false, ◌||◌, List, [], ◌∷◌}
use Rattle.board_rules.specs.declared.Next.TheVariants.{Nobody, To}
use Rattle.board_rules.specs.declared.BoardAnswer.{BoardAnswer}
use Rattle.board_rules.specs.declared.BoardAnswer.TheVariants.{Granted, Waits, Freed, Left, Shows, Refused}

-- a freed mutex goes to a task that waited
abbrev pub hands_on : BoardAnswer → Bool
hands_on Granted = false
hands_on Waits = false
hands_on (Freed Nobody) = false
hands_on (Freed (To v n)) = true
hands_on (Left b o) = false
hands_on (Shows t v) = false
hands_on (Refused r) = false

abbrev pub any_hands_on : List BoardAnswer → Bool
any_hands_on [] = false
any_hands_on (a ∷ rest) = hands_on a || any_hands_on rest
