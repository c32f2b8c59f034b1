-- `text_lines::past` meets its contract.
use Prim.Native.Nat.{◌+◌}
use mathlib.Core.Path.{sym}
use native.Mathlib.Omega.{arith}
use lib.ListN.{drop_of_length-le}
use Rattle.laws.specs.Steps.{take_rest}
use Rattle.text_lines.proofs.past.Goals as goal

pub returns-then-n-s : goal.returns-then-n-s
returns-then-n-s c = let a = c.args in take_rest (a.n + 1) a.s.now

pub returns-else-n-s : goal.returns-else-n-s
returns-else-n-s c = let a = c.args in sym (drop_of_length-le a.s.now {i = a.n + 1} (omega arith))
