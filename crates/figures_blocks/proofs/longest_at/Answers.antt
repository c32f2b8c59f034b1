-- `longest_at` meets its contract.
use Rattle.figures_blocks.proofs.longest_at.Goals as goal

pub returns : goal.returns
returns c = c.requires.0.longest.at _ c.requires.1
