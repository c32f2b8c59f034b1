-- A table of blank records, and rows of numbers that are kept in it.
use Rattle.std.specs.Prelude.{ℕ, ◌*◌, ◌≤◌, min, ◌≡◌, List, length, drop, replicate}
use Rattle.std.proofs.Common.{ap, ◌∙◌, arith, take_at}
use Rattle.std.proofs.lemmas.List.{length-replicate}
use Rattle.laws.specs.Sums.{flat}
use Rattle.laws.specs.Rows.{rows}
use Rattle.laws.specs.RowLaws.{rows_length}
use Rattle.plan.specs.Limits.{most_tasks}
use Rattle.plan_tables.specs.Layout.{task_width, over}
use Rattle.plan_tables.specs.FlatLaws.{over_rows}
use Rattle.records.specs.Sheet.{Task, blank_task, task_nums, sheet_rows, cut_to, task_of, saved}
use Rattle.records.specs.SaveLaws.{nums_back}

-- eight records at a time
abbrev pub at_atime : ℕ
at_atime = 8

unfoldable pub no_tasks : List Task
no_tasks = replicate at_atime blank_task

pub none_many : length no_tasks ≡ at_atime
unfolding no_tasks
none_many = length-replicate {A = Task} at_atime blank_task

-- kept as records and copied back, the first n rows of numbers are as they were
pub kept_rows : (t : List ℕ) (n : ℕ) → n ≤ at_atime → n * task_width ≤ length t → over (sheet_rows (cut_to (min n most_tasks) (saved no_tasks t n))) t ≡ t
unfolding cut_to saved sheet_rows
kept_rows t n l room =
    let ks : List Task = rows n (task_of t) in
    let many : length ks ≡ n = rows_length n (task_of t) in
    ap (λ u. over (flat task_nums u) t) (take_at ks (drop n no_tasks) (min n most_tasks) (omega arith))
    ∙ over_rows task_nums task_width n (task_of t) t (λ i h. nums_back t i) (omega arith)
