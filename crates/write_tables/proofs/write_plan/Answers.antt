-- `write_tables::write_plan` meets its contract.
use mathlib.Core.Path.{◌∙◌, sym}
use Rattle.plan.specs.Text.{text}
use Rattle.listing_asked.proofs.AskedLaws.{foreign_answer, foreign_left, given_answer, given_left}
use Rattle.write_tables.proofs.write_plan.Goals as goal

pub returns-then-not-is_given : goal.returns-then-not-is_given
returns-then-not-is_given c =
    let e = c.is_given.ensures in
    let f = c.if-not-is_given.true in record { value = foreign_answer text _ _ _ e f; out_after = foreign_left text _ _ _ e f }

pub plan_into-requires : goal.plan_into-requires
plan_into-requires c = sym c.is_given.ensures ∙ c.if-not-is_given.false

pub returns : goal.returns
returns c =
    let e = c.is_given.ensures in
    let f = c.if-not-is_given.false in
    let h = c.plan_into.ensures in record { value = given_answer text _ _ _ e f h.value; out_after = given_left text _ _ _ e f h.out_after }
