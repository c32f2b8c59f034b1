use mathlib.Core.Path.{ap}
use lib.Dec.{eqb}
use borrow.Author.Tests.{ne_eqb}
use Rattle.std.proofs.Common.{eq-eqb}
use Rattle.laws.specs.RowLaws.{passed_none, passed_more, passed_out, passed_all}
use Rattle.plan_tables.specs.Given.{zero_from}
use mathlib.Core.Bool.{not}
use Rattle.given_tidy.proofs.zero_from.Goals as goal

pub loop-j-init : goal.loop-j-init
loop-j-init c = passed_none

pub returns-then-not-zero : goal.returns-then-not-zero
unfolding zero_from
returns-then-not-zero c =
    passed_out c.loop-j.invariant c.loop-j-test.true (ap (λ x. eqb x 0) c.cell-zero.ensures) (ap not (ne_eqb _ _ c.if-not-zero.true))

pub loop-j-preserved : goal.loop-j-preserved
loop-j-preserved c =
    passed_more c.loop-j.invariant c.loop-j-test.true (ap (λ x. eqb x 0) c.cell-zero.ensures) (ap not (eq-eqb _ _ c.if-not-zero.false))

pub returns : goal.returns
unfolding zero_from
returns c = passed_all c.loop-j.invariant c.loop-j-test.false
