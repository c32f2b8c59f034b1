use Rattle.judge_coded.proofs.ranged.Goals as goal

pub returns : goal.returns
returns c = cc
