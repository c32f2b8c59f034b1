-- `put_vcpu` meets its contract.
use lib.ListN.{length-set}
use mathlib.Core.Path.{refl}
use native.Mathlib.Omega.{arith}
use Rattle.figures_vcpus.proofs.put_vcpu.Goals as goal

pub bounds-vf-a-2 : goal.bounds-vf-a-2
bounds-vf-a-2 c = simp length-set (omega arith)

pub shape_of-vf : goal.shape_of-vf
shape_of-vf c = simp length-set

pub returns : goal.returns
returns c = refl
