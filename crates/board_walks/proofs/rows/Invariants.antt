-- The rows to v are filled.
use mathlib.Core.List.{[]}
use Rattle.board_walks.specs.Walks.{row_of}
use Rattle.board_walks.specs.WalkLaws.{Filled}
use Rattle.board_walks.proofs.rows.Given as goal

abbrev pub invariant-loop-v : goal.invariant-loop-v
invariant-loop-v l = Filled [] 16 (λ v. row_of l.a v) l.rows l.v
