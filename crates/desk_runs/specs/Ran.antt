-- How the run of a plan in bytes ends, on a clock: from its reading, and that code over the tables that the reading left answers so.
use Rattle.std.specs.Prelude.{ℕ, List, ltb, length, if◌then◌else◌, Result, Ok, Err}
use Rattle.plan.specs.Limits.{max_input}
use Rattle.plan.specs.declared.Refusal.TheVariants.{Range, Room}
use Rattle.plan.specs.Plan.{Plan}
use Rattle.plan.specs.Reading.{Reading, Accepts, Refuses, reading}
use Rattle.plan.specs.declared.Complaint.{Complaint}
use Rattle.plan_tables.specs.Layout.{Tables}
use Rattle.plan_tables.specs.declared.PlanRecord.{PlanRecord}
use Rattle.figures.specs.System.{system}
use Rattle.clock_rules.specs.declared.RunAnswer.{RunAnswer}
use Rattle.clock_rules.specs.declared.RunAnswer.TheVariants.{NoRun}
use Rattle.clock_rules.specs.Clock.{timing_of, run_of, is_horizon, run_for}

-- of an accepted plan, 3 for a horizon outside 1 to 1,000,000
abbrev pub run_plan : Plan → ℕ → RunAnswer
run_plan p h = if is_horizon h then run_of (timing_of (system p)) h else NoRun Range

-- of a reading, first its own refusal
abbrev pub run_read : Reading → ℕ → RunAnswer
run_read (Accepts p) h = run_plan p h
run_read (Refuses c) h = NoRun c.number

-- of any bytes: above 65,536 a plan is not judged
unfoldable pub run_bytes : List ℕ → ℕ → RunAnswer
run_bytes s h = if ltb max_input (length s) then NoRun Room else run_read (reading s) h

-- with three places for a missed job's numbers; with fewer 8
unfoldable pub run_into : List ℕ → ℕ → List ℕ → RunAnswer
run_into s h ys = if ltb (length ys) 3 then NoRun Room else run_bytes s h

-- of an answer and the tables that it left
unfoldable pub run_or : Result PlanRecord Complaint → Tables → ℕ → RunAnswer
run_or (Ok r) t h = run_for r t h
run_or (Err c) t h = NoRun c.number
