-- What `verdict` prints: the listing of an accepted plan, or one line that refuses. Every list of bytes has its text.
use Rattle.std.specs.Prelude.{ℕ, ◌+◌, List, [], ◌∷◌, ◌++◌, true, false, ◌&&◌, eqb, ltb, length}
use Rattle.std.specs.Prelude.{if◌then◌else◌}
use Rattle.laws.specs.Sums.{flat, only}
use Rattle.laws.specs.Range.{flat_to}
use Rattle.laws.specs.Bytes.{joined}
use Rattle.laws.specs.Decimal.{decimal}
use Rattle.search.specs.declared.Answer.{Answer}
use Rattle.search.specs.declared.Answer.TheVariants.{Fits, Late}
use Rattle.plan.specs.Limits.{max_v, max_n, max_input, tab, lf}
use Rattle.plan.specs.declared.Complaint.{Complaint}
use Rattle.plan.specs.Refusals.{number_of, no_room}
use Rattle.plan.specs.Line.{w_one, w_vcpu, w_task}
use Rattle.plan.specs.declared.Lock.{Lock}
use Rattle.plan.specs.Plan.{Vcpu, Task}
use Rattle.plan.specs.Reading.{Reading, Accepts, Refuses, reading}
use Rattle.figures.specs.System.{System, system}
use Rattle.figures.specs.declared.TaskAnswer.{TaskAnswer}
use Rattle.figures.specs.declared.TaskAnswer.TheVariants.{Searched, NoWait, Held}
use Rattle.figures.specs.Answers.{vcpu_answer, wait_answer, task_answer, all_fit}
use Rattle.figures.specs.Figures.{is_section}

-- the words, in bytes
-- verdict
abbrev pub w_verdict : List ℕ
w_verdict = 118 ∷ 101 ∷ 114 ∷ 100 ∷ 105 ∷ 99 ∷ 116 ∷ []

-- wait
abbrev pub w_wait : List ℕ
w_wait = 119 ∷ 97 ∷ 105 ∷ 116 ∷ []

-- all
abbrev pub w_all : List ℕ
w_all = 97 ∷ 108 ∷ 108 ∷ []

-- fits
abbrev pub w_fits : List ℕ
w_fits = 102 ∷ 105 ∷ 116 ∷ 115 ∷ []

-- late
abbrev pub w_late : List ℕ
w_late = 108 ∷ 97 ∷ 116 ∷ 101 ∷ []

-- nowait
abbrev pub w_no_wait : List ℕ
w_no_wait = 110 ∷ 111 ∷ 119 ∷ 97 ∷ 105 ∷ 116 ∷ []

-- held
abbrev pub w_held : List ℕ
w_held = 104 ∷ 101 ∷ 108 ∷ 100 ∷ []

-- none
abbrev pub w_none : List ℕ
w_none = 110 ∷ 111 ∷ 110 ∷ 101 ∷ []

-- refused
abbrev pub w_refused : List ℕ
w_refused = 114 ∷ 101 ∷ 102 ∷ 117 ∷ 115 ∷ 101 ∷ 100 ∷ []

-- -
abbrev pub dash : List ℕ
dash = 45 ∷ []

-- fields parted by one tab, ended by LF
unfoldable pub line : List (List ℕ) → List ℕ
line fs = joined tab fs ++ (lf ∷ [])

-- answer, w, rounds; "Where w is lacking, `-`"
abbrev pub answer_fields : Answer → List (List ℕ)
answer_fields (Fits w n) = w_fits ∷ decimal w ∷ decimal n ∷ []
answer_fields (Late n) = w_late ∷ dash ∷ decimal n ∷ []

-- `nowait` and `held`: "rounds is then 0"
abbrev pub task_fields : TaskAnswer → List (List ℕ)
task_fields (Searched a) = answer_fields a
task_fields NoWait = w_no_wait ∷ dash ∷ decimal 0 ∷ []
task_fields Held = w_held ∷ dash ∷ decimal 0 ∷ []

-- ticks or `none`, rounds
abbrev pub wait_fields : Answer → List (List ℕ)
wait_fields (Fits w n) = decimal w ∷ decimal n ∷ []
wait_fields (Late n) = w_none ∷ decimal n ∷ []

-- `vcpu` v, answer, w, rounds
unfoldable pub vcpu_line : System → Vcpu → List ℕ
vcpu_line p x = line (w_vcpu ∷ decimal x.v ∷ answer_fields (vcpu_answer p x))

-- `wait` v, n, lock place in the task, ticks or `none`, rounds
unfoldable pub wait_line : System → Task → ℕ → Lock → List ℕ
wait_line p k i l = line (w_wait ∷ decimal k.v ∷ decimal k.n ∷ decimal i ∷ wait_fields (wait_answer p k l))

-- one for each global section, "all its locks counted, from 1": the locks from place i on
unfoldable pub wait_lines : System → Task → ℕ → List Lock → List ℕ
wait_lines p k i [] = []
wait_lines p k i (l ∷ ls) = elim (is_section p l) [ true ↦ wait_line p k i l | false ↦ [] ] ++ wait_lines p k (i + 1) ls

-- `task` v, n, answer, w, rounds
unfoldable pub task_line : System → Task → List ℕ
task_line p k = line (w_task ∷ decimal k.v ∷ decimal k.n ∷ task_fields (task_answer p k))

-- "each task after its waits"
unfoldable pub task_lines : System → Task → List ℕ
task_lines p k = wait_lines p k 1 k.locks ++ task_line p k

-- the tasks of a plan, (v, n) rising over the whole plan
unfoldable pub rising : System → List Task
rising p = flat_to max_v (λ v. flat_to max_n (λ n. only (λ k. eqb k.v v && eqb k.n n) p.tasks))

-- `all late` unless every vcpu and task fits
unfoldable pub all_line : System → List ℕ
all_line p = line (w_all ∷ (if all_fit p then w_fits else w_late) ∷ [])

-- "VCPUs first, then each task after its waits, both rising" (the VCPUs of an accepted plan rise as they stand)
unfoldable pub listing : System → List ℕ
listing p = line (w_verdict ∷ w_one ∷ []) ++ (flat (vcpu_line p) p.vcpus ++ (flat (task_lines p) (rising p) ++ all_line p))

-- `refused` number line, and the field
unfoldable pub refused_line : Complaint → List ℕ
refused_line c = line (w_refused ∷ decimal (number_of c.number) ∷ decimal c.line ∷ decimal c.field ∷ [])

abbrev pub read_text : Reading → List ℕ
read_text (Accepts p) = listing (system p)
read_text (Refuses c) = refused_line c

-- "input above 65,536 bytes is not judged and prints `refused 8 0`", with field 0
unfoldable pub verdict_text : List ℕ → List ℕ
verdict_text s = elim (ltb max_input (length s)) [ true ↦ refused_line no_room | false ↦ read_text (reading s) ]
