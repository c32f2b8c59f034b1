-- An answer's numbers say that answer.
use Rattle.std.specs.Prelude.{◌≡◌, refl}
use Rattle.search.specs.declared.Answer.{Answer}
use Rattle.search.specs.declared.Answer.TheVariants.{Fits, Late}
use Rattle.search.specs.Search.{rounds}
use Rattle.figures.specs.declared.TaskAnswer.{TaskAnswer}
use Rattle.figures.specs.declared.TaskAnswer.TheVariants.{Searched, NoWait, Held}
use Rattle.figures.specs.Answers.{ticks_of}
use Rattle.figures.specs.Kinds.{answer_kind, task_kind, task_ticks, task_rounds, answer_of, task_answer_of}

pub answer_back : (a : Answer) → answer_of (answer_kind a) (ticks_of a) (rounds a) ≡ a
answer_back (Fits w n) = refl
answer_back (Late n) = refl

pub task_back : (a : TaskAnswer) → task_answer_of (task_kind a) (task_ticks a) (task_rounds a) ≡ a
task_back (Searched (Fits w n)) = refl
task_back (Searched (Late n)) = refl
task_back NoWait = refl
task_back Held = refl
