use Rattle.board_walks.specs.WalkLaws.{of_vcpu_law}
use Rattle.board_walks.proofs.of_vcpu.Goals as goal

pub returns : goal.returns
returns c = let a = c.args in rw (c.both.ensures, c.sub-base.ensures) (of_vcpu_law a.h a.v)
