-- `write_tables::fits` meets its contract.
use mathlib.Core.Path.{refl}
use mathlib.Core.Bool.{false≢true}
use Rattle.plan.specs.Text.{text}
use Rattle.plan_tables.specs.Layout.{lent}
use Rattle.plan_tables.specs.Given.{plan_in}
use Rattle.write_asked.specs.Short.{text_short}
use Rattle.write_tables.specs.Parts.{room_sure, room_counted}
use Rattle.write_tables.proofs.fits.Goals as goal

pub returns-then-out-ge-MOST_TEXT : goal.returns-then-out-ge-MOST_TEXT
returns-then-out-ge-MOST_TEXT c =
    let a = c.args in
    let t = lent a.vt.now a.mt.now a.ot.now a.ts.now in record { value = room_sure (text (plan_in a.r t)) a.out.now (text_short a.r t c.requires) refl c.if-out-ge-MOST_TEXT.true; out_unchanged = refl }

pub plan_told-size-requires : goal.plan_told-size-requires
plan_told-size-requires c = (c.requires, λ e. absurd (false≢true e))

pub returns : goal.returns
returns c = let h = room_counted c.plan_told-size.ensures refl in record { value = h.0; out_unchanged = h.1 }
