-- `lock_count` meets its contract.
use borrow.Author.Rules.{rules}
use Rattle.figures_cells.proofs.PlanTables.lock_count.Goals as goal

pub returns : goal.returns
returns c = let h = c.requires in record { is = search rules; small = c.args.self.now.fit.task_locks _ h }
