-- From bytes to bytes: an accepted plan, read into records and written out of them, comes back byte for byte, and what is written out of records, read into them again, leaves their numbers (over rows of numbers, and into other tables: write_asked/Back).
use Rattle.std.specs.Prelude.{ℕ, ◌≡◌, List, take, Ok}
use Rattle.std.proofs.Common.{ap, ◌∙◌}
use Rattle.plan_tables.specs.declared.PlanRecord.{PlanRecord}
use Rattle.plan_tables.specs.Layout.{Tables}
use Rattle.read_answer.specs.Into.{plan_answer, tables_after}
use Rattle.listing_lines.specs.Into.{text_answer, text_after}
use Rattle.listing_asked.specs.Asked.{text_asked, text_left}
use Rattle.write_asked.specs.Asked.{plan_asked, plan_left}
use Rattle.write_asked.proofs.Back.{read_written, written_back}
use Rattle.records.specs.declared.Task.{Task}
use Rattle.records.specs.Sheet.{tables_of}
use Rattle.records_read.specs.After.{sheets_after}
use Rattle.records_read.proofs.ReadLaws.{sheets_left}
use Rattle.records_ask.specs.declared.Text.TheVariants.{Plan}
use Rattle.records_ask.specs.Wanted.{wanted}

module _ (vt mt ot : List ℕ) (ks : List Task) (r : PlanRecord) where
  -- the tables that are lent
  abbrev lent : Tables
  lent = tables_of vt mt ot ks

  -- read, and written
  pub sheet_written :
      (s : List ℕ) → plan_answer s lent ≡ Ok r →
      let u : Tables = tables_after s lent in
      let left : Tables = tables_of u.vcpus u.mutexes u.opens (sheets_after s vt mt ot ks) in
      (o : List ℕ) → (text_asked (wanted Plan) r left o ≡ text_answer s o) × (text_left (wanted Plan) r left o ≡ text_after s o)
  sheet_written s e o =
      let w = read_written s lent r e o in
      (ap (λ t. plan_asked r t o) (sheets_left s vt mt ot ks) ∙ w.0, ap (λ t. plan_left r t o) (sheets_left s vt mt ot ks) ∙ w.1)

  -- written, and read: the same record, and the numbers of the tables and records as they are
  pub sheet_read :
      (o : List ℕ) (n : ℕ) → text_asked (wanted Plan) r lent o ≡ Ok n →
      let s : List ℕ = take n (text_left (wanted Plan) r lent o) in
      let u : Tables = tables_after s lent in
      (plan_answer s lent ≡ Ok r) × (tables_of u.vcpus u.mutexes u.opens (sheets_after s vt mt ot ks) ≡ lent)
  sheet_read o n e =
      let w = written_back r lent o n e in
      (w.0, sheets_left (take n (text_left (wanted Plan) r lent o)) vt mt ot ks ∙ w.1)
