-- What reading leaves of lent records. Of the other three tables: `refusal_leaves`, `acceptance_leaves` (read_answer/Claims).
use Prim.Native.Nat.{ℕ}
use Rattle.std.specs.Prelude.{◌≡◌, Ok, Err}
use Rattle.std.proofs.Math.Path.{ap, sym}
use Rattle.std.proofs.Common.{◌∙◌}
use mathlib.Core.List.{List}
use Rattle.std.proofs.Math.ListN.{drop}
use Rattle.std.proofs.Math.Seq.{drop_at}
use Rattle.laws.specs.Rows.{rows}
use Rattle.laws.specs.RowLaws.{rows_length}
use Rattle.plan.specs.declared.Complaint.{Complaint}
use Rattle.plan_tables.specs.declared.PlanRecord.{PlanRecord}
use Rattle.plan_tables.specs.Layout.{Tables}
use Rattle.read_answer.specs.Into.{plan_answer, tables_after}
use Rattle.records.specs.declared.Task.{Task}
use Rattle.records.specs.Sheet.{tables_of, task_of, saved}
use Rattle.records.specs.SaveLaws.{saved_none}
use Rattle.records_read.specs.After.{count_of, sheets_after}

module _ (s vt mt ot : List ℕ) (ks : List Task) where
  abbrev lent_to : Tables
  lent_to = tables_of vt mt ot ks

  -- "Every refusal leaves the lent tables .. as they were lent": the records
  pub sheets_kept : (x : Complaint) → plan_answer s lent_to ≡ Err x → sheets_after s vt mt ot ks ≡ ks
  unfolding sheets_after
  sheets_kept x e = ap (λ a. saved ks (tables_after s lent_to).tasks (count_of a)) e ∙ sym (saved_none ks (tables_after s lent_to).tasks)

  -- "An accepted plan leaves table rows beyond its count untouched": the records
  pub sheets_beyond : (r : PlanRecord) → plan_answer s lent_to ≡ Ok r → drop r.tasks (sheets_after s vt mt ot ks) ≡ drop r.tasks ks
  unfolding sheets_after saved
  sheets_beyond r e =
      let t : List ℕ = (tables_after s lent_to).tasks in
      ap (λ a. drop r.tasks (saved ks t (count_of a))) e
      ∙ drop_at (rows r.tasks (task_of t)) (drop r.tasks ks) r.tasks (rows_length r.tasks (task_of t))
