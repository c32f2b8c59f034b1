-- `records::put_three` meets its contract.
use native.Mathlib.Omega.{arith}
use native.Mathlib.Numerals.{unary_clauses}
use lib.ListN.{length-set}
use Rattle.records.proofs.put_three.Goals as goal

pub bounds-d-k-2 : goal.bounds-d-k-2
bounds-d-k-2 c = simp length-set (omega arith)

pub bounds-d-k-3 : goal.bounds-d-k-3
bounds-d-k-3 c = simp length-set (omega arith)

pub returns : goal.returns
returns c = simp unary_clauses
