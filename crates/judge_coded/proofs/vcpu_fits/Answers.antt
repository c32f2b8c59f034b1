-- `judge_coded::vcpu_fits` meets its contract.
use Rattle.plan.specs.Rules.{vcpu_fits}
use Rattle.judge_coded.proofs.vcpu_fits.Goals as goal

pub returns : goal.returns
unfolding vcpu_fits
returns c = rw (c.within-5.ensures, c.within-4.ensures, c.within-3.ensures, c.within-2.ensures, c.within.ensures)
