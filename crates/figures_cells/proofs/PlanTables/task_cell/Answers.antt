-- `task_cell` meets its contract.
use borrow.Author.Rules.{rules}
use native.Mathlib.Omega.{arith}
use Rattle.figures_cells.proofs.PlanTables.task_cell.Goals as goal

pub returns : goal.returns
returns c = let h = c.requires in record { is = search rules; small = c.args.self.now.fit.task_small _ (omega arith) }
