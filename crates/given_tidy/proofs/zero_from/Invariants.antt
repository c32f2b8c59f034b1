use Prim.Native.Nat.{◌+◌}
use lib.Dec.{eqb}
use Rattle.laws.specs.Rows.{Passed}
use Rattle.plan_tables.specs.Layout.{task_width, cell}
use Rattle.given_tidy.proofs.zero_from.Given as goal

abbrev pub invariant-loop-j : goal.invariant-loop-j
invariant-loop-j l = Passed (λ x. eqb x 0) (λ k. cell l.t task_width l.i (l.c + k)) l.n l.j
