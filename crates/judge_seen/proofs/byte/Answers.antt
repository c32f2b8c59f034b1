use Rattle.std.proofs.Common.{rules}
use Rattle.judge_coded.specs.Coded.{byte}
use Rattle.judge_seen.proofs.byte.Goals as goal

pub returns : goal.returns
unfolding byte
returns c = search rules
