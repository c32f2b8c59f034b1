-- What is told of lent tables is told of as many records as there are places for.
use Rattle.std.specs.Prelude.{ℕ, ◌≡◌, List, Err}
use Rattle.std.proofs.Math.Path.{ap}
use Rattle.plan.specs.Limits.{most_tasks}
use Rattle.std.specs.Prelude.{if◌then◌else◌}
use Rattle.plan.specs.declared.Refusal.TheVariants.{Range, Foreign}
use Rattle.plan.specs.Plan.{Plan}
use Rattle.plan_tables.specs.declared.PlanRecord.{PlanRecord}
use Rattle.plan_tables.specs.Layout.{Tables}
use Rattle.figures.specs.System.{system}
use Rattle.answers_tasks.specs.Asked.{vcpu_row_of, wait_row_of, task_row_of, response_row_of, vcpu_asked, wait_asked, task_asked, response_asked}
use Rattle.listing_lines.specs.Into.{text_answer, text_after}
use Rattle.listing_asked.specs.Asked.{text_asked, text_left}
use Rattle.clock_rules.specs.declared.RunAnswer.TheVariants.{NoRun}
use Rattle.clock_rules.specs.Clock.{timing_of, run_of, is_horizon, run_for}
use Rattle.records.specs.declared.Task.{Task}
use Rattle.records.specs.Sheet.{cut_to, tables_of}
use Rattle.records_reply.specs.declared.Question.{Question}
use Rattle.records_reply.specs.declared.Question.TheVariants.{IsGiven, VcpuTime, WaitTime, TaskTime, SectionResponse, RunTo}
use Rattle.records_reply.specs.declared.Replied.TheVariants.{Given, Row, TaskRow, Figure, Run}
use Rattle.records_reply.specs.Replies.{reply_to}
use Rattle.records.specs.CutLaws.{cut_told, cut_given}

module _ (vt mt ot : List ℕ) (ks : List Task) (r : PlanRecord) where
  abbrev cut : Tables
  cut = tables_of vt mt ot (cut_to most_tasks ks)

  abbrev whole : Tables
  whole = tables_of vt mt ot ks

  pub reply_cut : (q : Question) → reply_to r cut q ≡ reply_to r whole q
  unfolding reply_to vcpu_asked wait_asked task_asked response_asked run_for
  reply_cut IsGiven = ap Given (cut_given vt mt ot ks r)
  reply_cut (VcpuTime v) = ap Row (cut_told vt mt ot ks (λ p. vcpu_row_of (system p) v) (Err Foreign) r)
  reply_cut (WaitTime v n i) = ap Row (cut_told vt mt ot ks (λ p. wait_row_of (system p) v n i) (Err Foreign) r)
  reply_cut (TaskTime v n) = ap TaskRow (cut_told vt mt ot ks (λ p. task_row_of (system p) v n) (Err Foreign) r)
  reply_cut (SectionResponse v n i) = ap Figure (cut_told vt mt ot ks (λ p. response_row_of (system p) v n i) (Err Foreign) r)
  reply_cut (RunTo h) =
      ap Run (cut_told vt mt ot ks (λ p. if is_horizon h then run_of (timing_of (system p)) h else NoRun Range) (NoRun Foreign) r)

  pub text_cut : (f : Plan → List ℕ) (o : List ℕ) → text_asked f r cut o ≡ text_asked f r whole o
  unfolding text_asked
  text_cut f o = cut_told vt mt ot ks (λ p. text_answer (f p) o) (Err Foreign) r

  pub left_cut : (f : Plan → List ℕ) (o : List ℕ) → text_left f r cut o ≡ text_left f r whole o
  unfolding text_left
  left_cut f o = cut_told vt mt ot ks (λ p. text_after (f p) o) o r
