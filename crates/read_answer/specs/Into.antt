-- Reading a plan into lent tables: the answer, and the tables after it, for every list of bytes and all tables.
use Rattle.std.specs.Prelude.{ℕ, List, Result, Ok, Err}
use Rattle.std.specs.Prelude.{if◌then◌else◌}
use Rattle.plan.specs.Refusals.{no_room}
use Rattle.plan.specs.Reading.{Reading, Accepts, Refuses, reading}
use Rattle.plan.specs.declared.Complaint.{Complaint}
use Rattle.plan_tables.specs.Layout.{Tables, filled, record_of}
use Rattle.plan_tables.specs.Given.{roomy}
use Rattle.plan_tables.specs.declared.PlanRecord.{PlanRecord}

-- "8 is given only for a plan with no other fault"; "A plan's refusal returns number and line (line 0 for 8)", and the field
abbrev pub answer_into : Reading → Tables → Result PlanRecord Complaint
answer_into (Refuses c) t = Err c
answer_into (Accepts p) t = if roomy (record_of p) t then Ok (record_of p) else Err no_room

-- "Every refusal leaves the lent tables .. as they were lent. An accepted plan leaves table rows beyond its count untouched"
abbrev pub tables_into : Reading → Tables → Tables
tables_into (Refuses c) t = t
tables_into (Accepts p) t = if roomy (record_of p) t then filled p t else t

-- what reading these bytes into these tables answers, and leaves
unfoldable pub plan_answer : List ℕ → Tables → Result PlanRecord Complaint
plan_answer s t = answer_into (reading s) t

unfoldable pub tables_after : List ℕ → Tables → Tables
tables_after s t = tables_into (reading s) t
