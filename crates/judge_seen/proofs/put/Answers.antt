use lib.Seq.{set_out}
use mathlib.Core.Path.{ap, sym}
use lib.ListN.{set}
use native.Mathlib.Omega.{arith}
use Rattle.judge_coded.specs.Coded.{byte}
use Rattle.judge_seen.proofs.put.Goals as goal

pub returns-then-k-d : goal.returns-then-k-d
returns-then-k-d c = let a = c.args in ap (λ b. set a.d.now a.i b) c.byte.ensures

pub returns-else-k-d : goal.returns-else-k-d
returns-else-k-d c = let a = c.args in sym (set_out a.d.now a.i (byte a.x) (omega arith))
