use native.Mathlib.Omega.{arith}
use native.Mathlib.Nat.{mul-le-mul}
use Rattle.given_tidy.proofs.cell.Goals as goal

pub overflow_mul-i : goal.overflow_mul-i
overflow_mul-i c = omega (arith, mul-le-mul c.requires.0 c.requires.1)

pub overflow_add-i : goal.overflow_add-i
overflow_add-i c = omega (arith, mul-le-mul c.requires.0 c.requires.1)
