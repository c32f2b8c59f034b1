-- `load_at` meets its contract.
use Rattle.figures.specs.PartLaws.{is_in, is_out}
use Rattle.figures_stored.proofs.load_at.Goals as goal

pub returns-then-is_higher : goal.returns-then-is_higher
returns-then-is_higher c = is_in c.is_higher.ensures c.if-is_higher.true c.longest_at.ensures

pub returns-else-is_higher : goal.returns-else-is_higher
returns-else-is_higher c = is_out _ _ c.is_higher.ensures c.if-is_higher.false
