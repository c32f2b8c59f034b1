-- The texts of the lines that a listing is made of, and the fields that an answer gives.
use Rattle.std.specs.Prelude.{ℕ, List, [], ◌∷◌, Bool, eqb}
use Rattle.std.specs.Prelude.{if◌then◌else◌}
use Rattle.laws.specs.Decimal.{decimal}
use Rattle.search.specs.declared.Answer.{Answer}
use Rattle.search.specs.Search.{rounds}
use Rattle.plan.specs.Line.{w_one, w_vcpu, w_task}
use Rattle.figures.specs.declared.TaskAnswer.{TaskAnswer}
use Rattle.figures.specs.Answers.{ticks_of}
use Rattle.figures.specs.Kinds.{answer_kind, task_kind, task_ticks, task_rounds}
use Rattle.listing_lines.specs.declared.Parts.{Parts}
use Rattle.listing.specs.Listing.{w_verdict, w_wait, w_all, w_fits, w_late, w_no_wait, w_held, line, answer_fields, task_fields, wait_fields}

-- `verdict` 1
abbrev pub head_text : List ℕ
head_text = line (w_verdict ∷ w_one ∷ [])

-- `vcpu` v, answer, w, rounds
abbrev pub vcpu_text : ℕ → Answer → List ℕ
vcpu_text v a = line (w_vcpu ∷ decimal v ∷ answer_fields a)

-- `wait` v, n, place, ticks or `none`, rounds
abbrev pub wait_text : ℕ → ℕ → ℕ → Answer → List ℕ
wait_text v n i a = line (w_wait ∷ decimal v ∷ decimal n ∷ decimal i ∷ wait_fields a)

-- `task` v, n, answer, w, rounds
abbrev pub task_text : ℕ → ℕ → TaskAnswer → List ℕ
task_text v n a = line (w_task ∷ decimal v ∷ decimal n ∷ task_fields a)

-- `all` and whether all fit
abbrev pub all_text : Bool → List ℕ
all_text b = line (w_all ∷ (if b then w_fits else w_late) ∷ [])

-- an answer taken apart: its kind, its ticks, its rounds
abbrev pub parts_of : Answer → Parts
parts_of a = record { kind = answer_kind a; ticks = ticks_of a; rounds = rounds a }

abbrev pub task_parts : TaskAnswer → Parts
task_parts a = record { kind = task_kind a; ticks = task_ticks a; rounds = task_rounds a }

-- the word of a kind
abbrev pub answer_word : ℕ → List ℕ
answer_word c = if eqb c 0 then w_late else (if eqb c 1 then w_fits else (if eqb c 2 then w_no_wait else w_held))
