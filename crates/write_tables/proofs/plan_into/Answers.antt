-- `write_tables::plan_into` meets its contract.
use Rattle.plan.specs.Text.{text}
use Rattle.plan_tables.specs.Layout.{lent}
use Rattle.plan_tables.specs.Given.{plan_in}
use Rattle.write_tables.specs.Parts.{none_told, room_told, whole_told}
use mathlib.Core.Bool.{not}
use mathlib.Core.Path.{ap}
use Rattle.write_tables.proofs.plan_into.Goals as goal

pub returns-then-not-fits : goal.returns-then-not-fits
returns-then-not-fits c =
    let a = c.args in
    let x = text (plan_in a.r (lent a.vt.now a.mt.now a.ot.now a.ts.now)) in
    let f = c.fits.ensures in let h = none_told x f.value f.out_unchanged (ap not c.if-not-fits.true) in record { value = h.0; out_after = h.1 }

pub plan_told-n-requires : goal.plan_told-n-requires
plan_told-n-requires c =
    let a = c.args in
    let x = text (plan_in a.r (lent a.vt.now a.mt.now a.ot.now a.ts.now)) in
    let f = c.fits.ensures in
    (c.requires, λ e. room_told x f.value f.out_unchanged (ap not c.if-not-fits.false))

pub returns : goal.returns
returns c =
    let a = c.args in
    let x = text (plan_in a.r (lent a.vt.now a.mt.now a.ot.now a.ts.now)) in
    let f = c.fits.ensures in let h = whole_told x f.value f.out_unchanged (ap not c.if-not-fits.false) c.plan_told-n.ensures in record { value = h.0; out_after = h.1 }
