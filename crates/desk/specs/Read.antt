-- An answer to bytes offered as a plan, taken apart.
use Rattle.std.specs.Prelude.{ℕ, ◌≡◌, refl, true, false, Result, Ok, Err}
use Rattle.std.proofs.Common.{arith}
use Rattle.plan.specs.declared.Complaint.{Complaint}
use Rattle.plan.specs.Refusals.{no_room}
use Rattle.plan_tables.specs.declared.PlanRecord.{PlanRecord}
use Rattle.read_tally.specs.Tally as tallies
use Rattle.read_answer.specs.Judged.{is_accepted}

-- the record of an accepted plan (of a refused one a record without rows)
abbrev pub record_in : Result PlanRecord Complaint → PlanRecord
record_in (Ok r) = r
record_in (Err x) = tallies.record_in tallies.blank

-- why a plan is refused (of an accepted one no reason that counts)
abbrev pub complaint_in : Result PlanRecord Complaint → Complaint
complaint_in (Ok r) = no_room
complaint_in (Err x) = x

pub accepted_is : (a : Result PlanRecord Complaint) → is_accepted a ≡ true → a ≡ Ok (record_in a)
accepted_is (Ok r) h = refl
accepted_is (Err x) h = absurd (let z : ◌≡◌ {A = ℕ} 0 1 = cc in omega arith)

pub refused_is : (a : Result PlanRecord Complaint) → is_accepted a ≡ false → a ≡ Err (complaint_in a)
refused_is (Ok r) h = absurd (let z : ◌≡◌ {A = ℕ} 0 1 = cc in omega arith)
refused_is (Err x) h = refl
