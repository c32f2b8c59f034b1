-- The marks of the places before i are counted.
use Prim.Native.Nat.{◌-◌}
use lib.Dec.{eqb}
use lib.ListN.{get_or}
use Rattle.board_turns.specs.TurnLaws.{Counted}
use Rattle.board_turns.proofs.awaited.Given as goal

abbrev pub invariant-loop-i : goal.invariant-loop-i
invariant-loop-i l = Counted 128 (λ s. eqb (get_or l.waits (s - 1) 0) l.w) l.k l.i
