use Rattle.plan_tables.proofs.GivenLaws.{roomy_code}
use Rattle.plan_tables.proofs.roomy.Goals as goal

pub returns : goal.returns
returns c = let a = c.args in roomy_code a.r a.v a.m a.o a.k
