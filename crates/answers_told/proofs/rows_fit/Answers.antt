-- `rows_fit` meets its contract: the answers before this one are fits.
use mathlib.Core.Path.{refl}
use Prim.Native.Nat.{◌-◌}
use Rattle.laws.specs.RowLaws.{passed_none, passed_more, passed_out, passed_all}
use mathlib.Core.Bool.{not}
use Rattle.std.proofs.Common.{ne_eqb}
use Rattle.std.proofs.Common.{eq-eqb}
use mathlib.Core.Path.{ap}
use Rattle.answers_told.proofs.rows_fit.Goals as goal

pub loop-k-init : goal.loop-k-init
loop-k-init c = passed_none

pub returns-then-not-b : goal.returns-then-not-b
returns-then-not-b c = passed_out c.loop-k.invariant c.loop-k-test.true refl (ap not (ne_eqb _ _ c.if-not-b.true))

pub loop-k-preserved : goal.loop-k-preserved
loop-k-preserved c = passed_more c.loop-k.invariant c.loop-k-test.true refl (ap not (eq-eqb _ _ c.if-not-b.false))

pub returns : goal.returns
returns c = passed_all c.loop-k.invariant c.loop-k-test.false
