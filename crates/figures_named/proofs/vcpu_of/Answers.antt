-- `vcpu_of` meets its contract: a VCPU that the plan has is found in its rows.
use Rattle.figures_found.specs.First.{vcpu_is, vcpu_within}
use Rattle.figures_named.proofs.vcpu_of.Goals as goal

pub returns : goal.returns
returns c = let e = c.vcpu_row.ensures in
    let l = vcpu_within c.args.t.now.plan _ _ e c.requires in
    (l, vcpu_is _ _ _ e _ _ l)
