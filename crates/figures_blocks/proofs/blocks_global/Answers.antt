-- `blocks_global` meets its contract.
use Rattle.figures.specs.PartLaws.{is_in, is_out}
use Rattle.figures_blocks.proofs.blocks_global.Goals as goal

pub returns-then-is_lower : goal.returns-then-is_lower
returns-then-is_lower c = is_in c.is_lower.ensures c.if-is_lower.true c.longest_at.ensures

pub returns-else-is_lower : goal.returns-else-is_lower
returns-else-is_lower c = is_out _ _ c.is_lower.ensures c.if-is_lower.false
