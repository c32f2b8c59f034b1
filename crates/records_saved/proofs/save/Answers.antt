-- The first rows are written as records.
use Rattle.std.proofs.Common.{◌≡◌, ◌<◌, ℕ, List, ◌+◌, length, slice_set, refl, ap, ◌∙◌, arith}
use Rattle.records.specs.declared.Task.{Task}
use Rattle.records.specs.Sheet.{task_of, saved}
use Rattle.records.specs.SaveLaws.{saved_none, saved_more, saved_length}
use Rattle.records_saved.proofs.save.Goals as goal

pub loop-i-init : goal.loop-i-init
loop-i-init c = (omega arith, refl, saved_none c.args.tasks.now c.args.rows.now)

-- one row more
next :
    (ks us : List Task) (t : List ℕ) (i : ℕ) (k : Task) → i < length ks → k ≡ task_of t i → us ≡ saved ks t i →
    slice_set us i k ≡ saved ks t (i + 1)
next ks us t i k l e h = ap (λ u. slice_set u i k) h ∙ ap (λ v. slice_set (saved ks t i) i v) e ∙ saved_more ks t i l

pub loop-i-preserved : goal.loop-i-preserved
loop-i-preserved c =
    let ks = c.args.tasks.now in
    let i = c.loop-i.i in
    let p = c.requires in
    let e = next ks c.loop-i.tasks c.args.rows.now i c.task_of-t.result (omega arith) c.task_of-t.ensures c.loop-i.invariant.2 in
    (omega arith, ap length e ∙ saved_length ks c.args.rows.now (i + 1) (omega arith), e)
