-- `preempts_by` meets its contract.
use Rattle.figures.specs.PartLaws.{is_in, is_out}
use Rattle.figures_vcpus.proofs.preempts_by.Goals as goal

pub returns-then-is_higher_on : goal.returns-then-is_higher_on
returns-then-is_higher_on c = let h = c.requires in
    is_in c.is_higher_on.ensures c.if-is_higher_on.true (h.0.ghts.at _ h.2)

pub returns-else-is_higher_on : goal.returns-else-is_higher_on
returns-else-is_higher_on c = is_out _ _ c.is_higher_on.ensures c.if-is_higher_on.false
