-- `same_before` meets its contract.
use Prim.Native.Nat.{◌≤◌}
use Rattle.answers_copies.proofs.same_before.Given as goal

abbrev pub invariant-loop-e : goal.invariant-loop-e
invariant-loop-e l = l.e ≤ l.j
