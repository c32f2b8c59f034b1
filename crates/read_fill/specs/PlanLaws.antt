-- What the lines of a valid plan's text write into tables with room are its rows.
use Rattle.std.specs.Prelude.{ℕ, ◌≡◌, List}
use Rattle.std.proofs.Common.{ap, ◌∙◌}
use Rattle.laws.specs.Bytes.{pieces}
use Rattle.laws.specs.SumLaws.{each_map}
use Rattle.plan.specs.Limits.{lf}
use Rattle.plan.specs.Plan.{Plan}
use Rattle.plan.specs.Text.{items_of, text}
use Rattle.plan.specs.Valid.{Valid}
use Rattle.plan_tables.specs.Layout.{Tables, filled, record_of}
use Rattle.plan_tables.proofs.GivenLaws.{Roomy}
use Rattle.text_lines.specs.declared.Said.{Said}
use Rattle.read_tally.specs.declared.Tally.{Tally}
use Rattle.read_tally.specs.Tally.{blank}
use Rattle.read_tally.specs.ItemLaws.{text_pieces}
use Rattle.read_tally.specs.TallyLaws.{Countable, countable, items_written}
use Rattle.read_fill.specs.Fill.{filled_by, vcpu_put, mutex_put, open_put, task_put}
use Rattle.read_fill.specs.RowLaws.{filled_items, lines_filled, vcpus_filled, mutexes_filled, opens_filled}
use Rattle.read_fill.specs.SheetLaws.{tasks_filled_all}

-- what the lines of s write into tables
unfoldable pub tables_by : List ℕ → Tables → Tables
tables_by s t =
    record {
      vcpus = filled_by vcpu_put blank t.vcpus (pieces lf s);
      mutexes = filled_by mutex_put blank t.mutexes (pieces lf s);
      opens = filled_by open_put blank t.opens (pieces lf s);
      tasks = filled_by task_put blank t.tasks (pieces lf s);
    }

module _ (p : Plan) (h : Valid p) where
  text_filled : (put : Tally → Said → List ℕ → List ℕ) (d : List ℕ) → filled_by put blank d (pieces lf (text p)) ≡ filled_items put blank d (items_of p)
  text_filled put d = ap (filled_by put blank d) (text_pieces (items_of p)) ∙ lines_filled put blank d (items_of p) (items_written p h)

  pub text_tables : (t : Tables) → Roomy (record_of p) t → tables_by (text p) t ≡ filled p t
  unfolding tables_by filled record_of
  text_tables t r =
      let c : Countable p = countable p h in
      λ i.
      record {
        vcpus = (text_filled vcpu_put t.vcpus ∙ vcpus_filled p t.vcpus c.vcpus r.vcpus) i;
        mutexes = (text_filled mutex_put t.mutexes ∙ mutexes_filled p t.mutexes c.mutexes r.mutexes) i;
        opens = (text_filled open_put t.opens ∙ opens_filled p t.opens c.opens r.opens) i;
        tasks =
            (text_filled task_put t.tasks
            ∙ tasks_filled_all p t.tasks c.tasks (each_map p.sections (λ s v. each_map s.tasks (λ k w. w.few_locks) v.tasks_valid) h.sections_valid) r.tasks)
            i;
      }
