-- LOCAL BLOCKING BEFORE a ceiling equal to the task counted, and what `verdict` printed by it. These definitions serve what compares the two (FormerLaws, Moves, Cases, clock_worked/Ceiling), and nothing else.
use Rattle.std.specs.Prelude.{ℕ, ◌+◌, ◌*◌, ◌<◌, ◌≡◌, Bool, true, false, ◌&&◌, List, [], ◌∷◌, ◌++◌, ltb}
use Rattle.std.specs.Prelude.{if◌then◌else◌}
use Rattle.laws.specs.Choice.{when}
use Rattle.laws.specs.Sums.{up, sum, greatest, all, flat, Has}
use Rattle.laws.specs.Decimal.{decimal}
use Rattle.search.specs.Search.{solve}
use Rattle.plan.specs.Line.{w_one, w_task}
use Rattle.plan.specs.Plan.{Task}
use Rattle.plan.specs.Lookup.{local_to}
use Rattle.plan.specs.Declares.{LocalMutex}
use Rattle.figures.specs.System.{System}
use Rattle.figures.specs.Figures.{vcpu_at, lower_task, higher_task, longest_global, global_count, gap, ceiling, lengths}
use Rattle.figures.specs.declared.TaskAnswer.{TaskAnswer}
use Rattle.figures.specs.declared.TaskAnswer.TheVariants.{Searched, NoWait, Held}
use Rattle.figures.specs.Answers.{task_limit, vcpu_answer, remote_waits, lacks_wait, is_held, is_fits, task_fits}
use Rattle.listing.specs.Listing.{w_verdict, w_all, w_fits, w_late, line, task_fields, vcpu_line, wait_lines, rising}

-- THE FORMER TEST of ceilings: a local section counted for task priority n where its mutex's ceiling was greater than n
abbrev pub former_counts : ℕ → ℕ → Bool
former_counts n c = ltb n c

-- EQUATIONS 7 TO 9 AND 6, AND A TASK'S ANSWER, by a test of ceilings: by `ceiling_counts` they are those of figures/Figures and figures/Answers (`mended_local`, `mended_demand`, `mended_answer`, FormerLaws)
unfoldable pub longest_local_by : (ℕ → ℕ → Bool) → System → ℕ → Task → ℕ
longest_local_by counts p n h = greatest (λ l. when (local_to p.mutexes h.v l.m && counts n (ceiling p l.m)) l.ticks) h.locks

unfoldable pub local_blocking_by : (ℕ → ℕ → Bool) → System → Task → ℕ
local_blocking_by counts p k =
    (greatest (λ h. when (lower_task k h) (longest_local_by counts p k.n h)) p.tasks + sum (λ h. when (lower_task k h) (longest_global p h)) p.tasks)
    * (global_count p k + 1)

unfoldable pub task_demand_by : (ℕ → ℕ → Bool) → System → (Task → ℕ) → Task → ℕ → ℕ
task_demand_by counts p waits k w =
    let x = vcpu_at p k.v in
    lengths k + local_blocking_by counts p k + waits k
    + sum (λ h. when (higher_task k h) (up (w + gap x + waits h) h.period * lengths h)) p.tasks
    + up (w + x.budget) x.period * gap x

unfoldable pub task_answer_by : (ℕ → ℕ → Bool) → System → Task → TaskAnswer
task_answer_by counts p k =
    elim (lacks_wait p k) [
      | true ↦ NoWait
      | false ↦ elim (is_held p k) [ true ↦ Held | false ↦ Searched (solve (task_demand_by counts p (remote_waits p) k) (lengths k) (task_limit k)) ]
    ]

-- THE FORMER FIGURE, and the answers by it: of a task, and whether all fitted
unfoldable pub former_local_blocking : System → Task → ℕ
former_local_blocking p k = local_blocking_by former_counts p k

unfoldable pub former_answer : System → Task → TaskAnswer
former_answer p k = task_answer_by former_counts p k

unfoldable pub former_fit : System → Bool
former_fit p = all (λ x. is_fits (vcpu_answer p x)) p.vcpus && all (λ k. task_fits (former_answer p k)) p.tasks

-- WHAT WAS PRINTED: the listing's frame, with the lines of VCPUs and waits, whose equations read no ceiling, around given lines of tasks and a given last one (`framed`, Moves: so is the listing)
unfoldable pub frame : System → (Task → List ℕ) → List ℕ → List ℕ
frame p task_text last =
    line (w_verdict ∷ w_one ∷ []) ++ (flat (vcpu_line p) p.vcpus ++ (flat (λ k. wait_lines p k 1 k.locks ++ task_text k) (rising p) ++ last))

unfoldable pub former_task_line : System → Task → List ℕ
former_task_line p k = line (w_task ∷ decimal k.v ∷ decimal k.n ∷ task_fields (former_answer p k))

unfoldable pub former_all_line : System → List ℕ
former_all_line p = line (w_all ∷ (if former_fit p then w_fits else w_late) ∷ [])

unfoldable pub former_listing : System → List ℕ
former_listing p = frame p (former_task_line p) (former_all_line p)

-- WHOSE ROW CAN MOVE: a lower task of k's VCPU has a section on a mutex local to it whose ceiling is k's n
abbrev pub EqualBelow : System → Task → Type 0
EqualBelow p k =
    Has (λ h. (h.v ≡ k.v) × (h.n < k.n) × Has (λ l. LocalMutex p.mutexes h.v l.m × (ceiling p l.m ≡ k.n)) h.locks) p.tasks
