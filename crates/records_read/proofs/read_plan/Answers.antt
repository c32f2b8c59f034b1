-- What `read_in` leaves in the rows, copied into the records, is what reading leaves of them.
use Rattle.std.proofs.Common.{ℕ, List, length, subst}
use Rattle.records_read.specs.After.{ReadIn}
use Rattle.records_read.proofs.ReadLaws.{read_count, read_all}
use Rattle.records_read.proofs.read_plan.Goals as goal

pub save-requires : goal.save-requires
save-requires c =
    let a = c.args in
    let r = c.read_in-a in
    let P : List ℕ → Type 0 = λ z. ReadIn a.src.now a.vt.now a.mt.now a.ot.now z (length a.tasks.now) r.result r.new.vt r.new.mt r.new.ot r.new.rows in
    read_count a.src.now a.vt.now a.mt.now a.ot.now a.tasks.now r.result r.new.vt r.new.mt r.new.ot r.new.rows (subst P c.no_rows-rows.ensures r.ensures) c.count_of-n.result c.count_of-n.ensures

pub returns : goal.returns
returns c =
    let a = c.args in
    let r = c.read_in-a in
    let P : List ℕ → Type 0 = λ z. ReadIn a.src.now a.vt.now a.mt.now a.ot.now z (length a.tasks.now) r.result r.new.vt r.new.mt r.new.ot r.new.rows in
    read_all a.src.now a.vt.now a.mt.now a.ot.now a.tasks.now r.result r.new.vt r.new.mt r.new.ot r.new.rows (subst P c.no_rows-rows.ensures r.ensures) c.count_of-n.result c.count_of-n.ensures c.save.new.tasks c.save.ensures
