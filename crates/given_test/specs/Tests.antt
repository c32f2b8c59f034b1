-- The test for 9 as code makes it, test by test.
use Rattle.std.specs.Prelude.{List, [], ◌∷◌, ◌++◌, Bool, ◌&&◌}
use Rattle.laws.specs.Rows.{rows}
use Rattle.plan.specs.declared.Kind.TheVariants.{PlanLine, EndLine}
use Rattle.plan.specs.Line.{Item}
use Rattle.plan.specs.Text.{item, policy_kind}
use Rattle.judge_coded.specs.Coded.{coded, start}
use Rattle.plan_tables.specs.Layout.{Tables, vcpu_row}
use Rattle.plan_tables.specs.declared.PlanRecord.{PlanRecord}
use Rattle.plan_tables.specs.Given.{clean}
pub use Rattle.given_tidy.specs.Tests.{most_rows, few, Few, all_tidy}
use Rattle.given_test.specs.Feed.{lined, vcpu_lines, mutex_lines, open_lines, task_lines}

-- the first two lines
abbrev pub front_items : PlanRecord → List Item → List Item
front_items r is = item PlanLine [] ∷ item (policy_kind r.policy r.overrun) [] ∷ is

-- the items of the rows in the order of their lines
unfoldable pub row_items : PlanRecord → Tables → List Item
row_items r t =
    front_items r
    (lined r.vcpus (vcpu_lines t.vcpus)
    ++ (lined r.mutexes (mutex_lines t.mutexes)
    ++ (lined r.opens (open_lines t.opens)
    ++ (lined r.tasks (task_lines (rows r.vcpus (vcpu_row t.vcpus)) t.tasks) ++ (item EndLine [] ∷ [])))))

-- the items of the rows have no fault
unfoldable pub clean_rows : PlanRecord → Tables → Bool
clean_rows r t = clean coded start (row_items r t)

-- the tasks are tidy and the rows clean
unfoldable pub sound_rows : PlanRecord → Tables → Bool
sound_rows r t = all_tidy t.tasks r.tasks && clean_rows r t
