-- `step_given` meets its contract.
use Rattle.board_tables.proofs.step_given.Goals as goal

pub returns : goal.returns
returns c = rw (← c.fill_facts.ensures) c.step_tested.ensures
