-- `records_saved::no_tasks` meets its contract.
use borrow.Author.Rules.{rules}
use Rattle.records.specs.Blank.{no_tasks}
use Rattle.records_saved.proofs.no_tasks.Goals as goal

pub returns : goal.returns
unfolding no_tasks
returns c = search rules
