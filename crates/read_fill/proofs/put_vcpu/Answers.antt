-- `read_fill::put_vcpu` meets its contract.
use Rattle.read_fill.proofs.Laws.{vcpu_told}
use Rattle.read_fill.proofs.put_vcpu.Goals as goal

pub returns : goal.returns
returns c =
    vcpu_told _ _ _ c.mark_in-on.ensures c.place-k.ensures.is c.put_two.ensures c.put_two-2.ensures c.put.ensures
