-- `put_task` meets its contract.
use lib.ListN.{length-set}
use mathlib.Core.Path.{refl}
use native.Mathlib.Omega.{arith}
use Rattle.figures_stored.proofs.put_task.Goals as goal

pub bounds-tf-i-2 : goal.bounds-tf-i-2
bounds-tf-i-2 c = simp length-set (omega arith)

pub bounds-tf-i-3 : goal.bounds-tf-i-3
bounds-tf-i-3 c = simp length-set (omega arith)

pub bounds-tf-i-4 : goal.bounds-tf-i-4
bounds-tf-i-4 c = simp length-set (omega arith)

pub shape_of-tf : goal.shape_of-tf
shape_of-tf c = simp length-set

pub returns : goal.returns
returns c = refl
