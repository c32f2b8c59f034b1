-- The lent rows hold the numbers of the records so far.
use Rattle.std.proofs.Common.{◌≡◌, ◌<◌, ℕ, List, ◌*◌, ◌+◌, ◌≤◌, min, length, get_or, ap, ◌∙◌, arith}
use Rattle.std.proofs.lemmas.List.Edits.{sets}
use Rattle.plan.specs.Limits.{most_tasks}
use Rattle.plan_tables.specs.Layout.{over, task_width}
use Rattle.records.specs.Sheet.{Task, blank_task, task_nums, sheet_rows, cut_to}
use Rattle.records.specs.SheetLaws.{cut_long, cut_few, cut_none, cut_more, over_long}
use Rattle.records.proofs.load.Goals as goal

pub loop-i-init : goal.loop-i-init
loop-i-init c = (omega arith, omega arith, cut_none c.args.tasks.now c.args.rows.now)

-- one record more
next :
    (ks : List Task) (ys xs zs : List ℕ) (i : ℕ) (t : Task) → i < length ks → i * task_width + task_width ≤ length ys →
    t ≡ get_or ks i blank_task → xs ≡ over (sheet_rows (cut_to i ks)) ys → zs ≡ sets xs (i * task_width) (task_nums t) →
    zs ≡ over (sheet_rows (cut_to (i + 1) ks)) ys
next ks ys xs zs i t l room e h g =
    g ∙ ap (λ u. sets u (i * task_width) (task_nums t)) h ∙ ap (λ v. sets (over (sheet_rows (cut_to i ks)) ys) (i * task_width) (task_nums v)) e ∙ cut_more ks ys i l room

pub loop-i-preserved : goal.loop-i-preserved
loop-i-preserved c =
    let i = c.loop-i.i in
    let e = next c.args.tasks.now c.args.rows.now c.loop-i.rows c.put_row.new.d i c.task_at.result (omega arith) (omega arith) c.task_at.ensures c.loop-i.invariant.2 c.put_row.ensures in
    let k = cut_long (i + 1) c.args.tasks.now in
    (omega arith, ap length e ∙ over_long (sheet_rows (cut_to (i + 1) c.args.tasks.now)) c.args.rows.now (omega arith), e)

pub returns : goal.returns
returns c =
    let ks = c.args.tasks.now in
    let m = min c.args.n most_tasks in
    let n : c.loop-i.i ≡ min (length ks) m = omega arith in
    ((let k = cut_long m ks in omega arith), c.loop-i.invariant.2 ∙ ap (λ l. over (sheet_rows l) c.args.rows.now) (ap (λ j. cut_to j ks) n ∙ cut_few m ks))
