-- `write_rows::locks` meets its contract.
use Rattle.given_test.specs.Feed.{lock_lines}
use Rattle.write_rows.specs.Rows.{ToldRows}
use Rattle.write_rows.proofs.locks.Given as goal

abbrev pub invariant-loop-j : goal.invariant-loop-j
invariant-loop-j l = ToldRows l.on (lock_lines l.t l.i) l.c l.initial.out l.out l.n l.k l.j
