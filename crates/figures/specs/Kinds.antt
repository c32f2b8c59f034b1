-- An answer as three numbers, its kind, its ticks and its rounds; and the answer that three numbers say.
use Rattle.std.specs.Prelude.{ℕ, eqb}
use Rattle.std.specs.Prelude.{if◌then◌else◌}
use Rattle.search.specs.declared.Answer.{Answer}
use Rattle.search.specs.declared.Answer.TheVariants.{Fits, Late}
use Rattle.search.specs.Search.{rounds}
use Rattle.figures.specs.declared.TaskAnswer.{TaskAnswer}
use Rattle.figures.specs.declared.TaskAnswer.TheVariants.{Searched, NoWait, Held}
use Rattle.figures.specs.Answers.{ticks_of}

-- what an answer is: 0 late, 1 fits, 2 nowait, 3 held
abbrev pub answer_kind : Answer → ℕ
answer_kind (Late n) = 0
answer_kind (Fits w n) = 1

abbrev pub task_kind : TaskAnswer → ℕ
task_kind (Searched a) = answer_kind a
task_kind NoWait = 2
task_kind Held = 3

-- w, 0 where it is lacking; the rounds, 0 where there was no search (those of an Answer: ticks_of, rounds)
abbrev pub task_ticks : TaskAnswer → ℕ
task_ticks (Searched a) = ticks_of a
task_ticks NoWait = 0
task_ticks Held = 0

abbrev pub task_rounds : TaskAnswer → ℕ
task_rounds (Searched a) = rounds a
task_rounds NoWait = 0
task_rounds Held = 0

-- BACK: kind k, ticks w, rounds n
abbrev pub answer_of : ℕ → ℕ → ℕ → Answer
answer_of k w n = if eqb k 1 then Fits w n else Late n

abbrev pub task_answer_of : ℕ → ℕ → ℕ → TaskAnswer
task_answer_of k w n = if eqb k 2 then NoWait else (if eqb k 3 then Held else Searched (answer_of k w n))
