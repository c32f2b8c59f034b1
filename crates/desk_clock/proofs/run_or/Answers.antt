-- `run_or` meets its contract.
use Rattle.desk_runs.proofs.RanLaws.{ran_accepted, ran_refused}
use Rattle.desk_clock.proofs.run_or.Goals as goal

pub run_to-requires : goal.run_to-requires
run_to-requires c = c.requires.given c.in-Ok.r c.in-Ok.is

pub returns-in-Ok : goal.returns-in-Ok
returns-in-Ok c = ran_accepted _ _ c.in-Ok.is c.run_to.ensures

pub returns-in-Err : goal.returns-in-Err
returns-in-Err c = ran_refused _ _ c.in-Err.is
