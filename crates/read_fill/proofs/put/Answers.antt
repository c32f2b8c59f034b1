-- `read_fill::put` meets its contract.
use lib.Seq.{set_out}
use mathlib.Core.Path.{sym}
use Rattle.read_fill.specs.Fill.{put_if}
use Rattle.read_fill.proofs.put.Goals as goal

pub returns-then-k-d : goal.returns-then-k-d
unfolding put_if
returns-then-k-d c = simp c.if-on.true

pub returns-else-k-d : goal.returns-else-k-d
unfolding put_if
returns-else-k-d c = let a = c.args in simp c.if-on.true (sym (set_out a.d.now a.k a.x c.if-k-d.false))

pub returns-else-on : goal.returns-else-on
unfolding put_if
returns-else-on c = simp c.if-on.false
