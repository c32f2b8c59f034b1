-- Demand 3 (Reported) of what the calls answer (answers_tasks/Asked).
use Rattle.std.specs.Prelude.{ℕ, ◌≡◌, refl, Bool, true, false, ◌↔◌, eqb, Ok, Err}
use Rattle.std.proofs.Math.Path.{ap}
use Rattle.std.proofs.Common.{sym, ◌∙◌, true≢false, arith, eqb-true, eq-eqb, ltb-true, lt-ltb}
use Rattle.std.proofs.lemmas.Bool.{false≢true}
use mathlib.Core.List.{Memᴰ}
use Rattle.std.proofs.Math.Option.{some}
use Rattle.laws.specs.BoolLaws.{both, both_left, both_right, both_exactly}
use Rattle.laws.specs.Choice.{when}
use Rattle.laws.specs.Sums.{sum}
use Rattle.laws.specs.SumLaws.{any_exactly, has_any, each_map, members, sum_rises_on}
use Rattle.search.specs.declared.Answer.{Answer}
use Rattle.search.specs.declared.Answer.TheVariants.{Fits, Late}
use Rattle.search.specs.Search.{window, solve}
use Rattle.search.proofs.SearchLaws.{Answered, solve_answers}
use Rattle.plan.specs.declared.Refusal.{Refusal}
use Rattle.plan.specs.declared.Refusal.TheVariants.{Foreign, Unknown}
use Rattle.plan.specs.declared.Lock.{Lock}
use Rattle.plan.specs.Plan.{Vcpu, Task}
use Rattle.plan.specs.Declares.{GlobalMutex}
use Rattle.plan.specs.Lookup.{has_vcpu}
use Rattle.plan.proofs.LookupLaws.{global_exactly}
use Rattle.plan_tables.specs.declared.PlanRecord.{PlanRecord}
use Rattle.plan_tables.specs.Layout.{Tables}
use Rattle.plan_tables.specs.Given.{is_given}
use Rattle.figures.specs.System.{System}
use Rattle.figures.specs.Figures.{vcpu_at, higher_task, lengths, task_demand, response, is_section}
use Rattle.figures.specs.Named.{has_task, task_at, lock_at, has_section}
use Rattle.figures.proofs.Demands.{vcpu_demand_law, wait_demand_law, task_demand_law}
use Rattle.figures.specs.declared.TaskAnswer.{TaskAnswer}
use Rattle.figures.specs.declared.TaskAnswer.TheVariants.{Searched, NoWait, Held}
use Rattle.figures.specs.Answers.{vcpu_answer, wait_answer, task_answer, ticks_of, is_late, remote_waits, lacks_wait, is_held}
use Rattle.claims.specs.Reported.{system_from, HasNumber, Reports, NoNumber, HeldUp, VcpuReported, WaitReported, TaskReported}
use Rattle.answers_tasks.specs.Asked.{has_place, vcpu_row_of, wait_row_of, task_row_of, response_row_of, vcpu_asked, wait_asked, task_asked, response_asked}

-- THE SEARCHES REPORT SO
fits_of : (a : Answer) (w : ℕ) → window a ≡ some w → (n : ℕ) × (a ≡ Fits w n)
fits_of (Fits v n) w e = (n, cc)
fits_of (Late n) w e = absurd (let z : ◌≡◌ {A = ℕ} 0 1 = cc in omega arith)

answered_reports : {d : ℕ → ℕ} {s l : ℕ} {a : Answer} → Answered d s l a → Reports d s l a
answered_reports {a} h = record {
  exactly = (
    λ q. h.exactly.1 (q.0, ap window q.2),
    λ q. let x = h.exactly.0 q in let y = fits_of a x.0 x.1 in (x.0, y.0, y.1),
  );
  smallest = λ w n e. h.least w (ap window e);
  counted = h.counted;
  no_round = h.no_round;
  few = h.few;
}

pub vcpu_answer_reports : (s : System) (x : Vcpu) → VcpuReported s x (vcpu_answer s x)
unfolding vcpu_answer
vcpu_answer_reports s x = answered_reports (solve_answers x.period (vcpu_demand_law s x))

pub wait_answer_reports : (s : System) (k : Task) (l : Lock) → WaitReported s k l (wait_answer s k l)
unfolding wait_answer
wait_answer_reports s k l = answered_reports (solve_answers k.period (wait_demand_law s k.v l.m))

pub task_search_reports :
    (s : System) (waits : Task → ℕ) (k : Task) → Reports (task_demand s waits k) (lengths k) k.period (solve (task_demand s waits k) (lengths k) k.period)
task_search_reports s waits k = answered_reports (solve_answers k.period (task_demand_law s waits k))

-- an answer is late exactly when there is no such number
reports_late : {d : ℕ → ℕ} {s l : ℕ} (a : Answer) → Reports d s l a → (is_late a ≡ true) ↔ (¬ HasNumber d l)
reports_late (Fits w n) h = (λ e. absurd (false≢true e), λ q. absurd (q (h.exactly.0 (w, n, refl))))
reports_late (Late n) h = (λ e t. let x = h.exactly.1 t in let y = x.2 in let z : ◌≡◌ {A = ℕ} 0 1 = cc in omega arith, λ q. refl)

-- two reports of one demand have the same ticks
reports_same : {d : ℕ → ℕ} {s l : ℕ} (a : Answer) (w n : ℕ) → Reports d s l a → Reports d s l (Fits w n) → ticks_of a ≡ w
reports_same (Fits v m) w n h k =
    let x = h.smallest v m refl in
    let y = k.smallest w n refl in
    let p = x.2 w y.0 y.1 in
    let q = y.2 v x.0 x.1 in
    omega arith
reports_same (Late m) w n h k = let x = h.exactly.1 (k.exactly.0 (w, n, refl)) in let y = x.2 in absurd (let z : ◌≡◌ {A = ℕ} 0 1 = cc in omega arith)

-- WAITS WITHOUT A NUMBER
pub lacks_exactly : (s : System) (k : Task) → (lacks_wait s k ≡ true) ↔ NoNumber s k
unfolding lacks_wait
lacks_exactly s k =
    let e = any_exactly _ k.locks (λ l. both_exactly (global_exactly s.mutexes l.m) (reports_late (wait_answer s k l) (wait_answer_reports s k l))) in (
      λ q. let x = e.0 q in (x.0, x.1, x.2.0, x.2.1),
      λ q. e.1 (q.0, q.1, (q.2, q.3)),
    )

pub held_exactly : (s : System) (k : Task) → (is_held s k ≡ true) ↔ HeldUp s k
unfolding is_held
held_exactly s k = (
  λ e.
      let x = (any_exactly _ s.tasks (λ l. (λ q. q, λ q. q))).0 e in
      let h = x.0 in
      let a = both_left (higher_task k h) _ x.2 in
      (h, x.1, eqb-true _ _ (both_left (eqb h.v k.v) _ a), ltb-true _ _ (both_right (eqb h.v k.v) _ a), (lacks_exactly s h).0 (both_right (higher_task k h) _ x.2)),
  λ q.
      has_any _ s.tasks q.1 (both _ _ (both _ _ (eq-eqb _ _ q.2) (lt-ltb _ _ q.3)) ((lacks_exactly s q.0).1 q.4)),
)

-- A TASK'S REMOTE WAITS are the numbers reported for its waits, one for each of its global sections, added up
pub remote_waits_reported :
    (s : System) (k : Task) (w : Lock → ℕ) →
    ((l : Lock) → Memᴰ l k.locks → GlobalMutex s.mutexes l.m → (n : ℕ) × WaitReported s k l (Fits (w l) n)) →
    remote_waits s k ≡ sum (λ l. when (is_section s l) (w l)) k.locks
unfolding remote_waits when
remote_waits_reported s k w h =
    let f : Lock → ℕ = λ l. when (is_section s l) (ticks_of (wait_answer s k l)) in
    let g : Lock → ℕ = λ l. when (is_section s l) (w l) in
    let same = each_map k.locks (λ l m. at l m (is_section s l) refl) (members k.locks) in
    let p = sum_rises_on f g k.locks (each_map k.locks (λ l e. omega (arith, e)) same) in
    let q = sum_rises_on g f k.locks (each_map k.locks (λ l e. omega (arith, e)) same) in
    omega arith
  where
    at : (l : Lock) → Memᴰ l k.locks → (b : Bool) → is_section s l ≡ b → when b (ticks_of (wait_answer s k l)) ≡ when b (w l)
    at l m true e = let x = h l m ((global_exactly s.mutexes l.m).0 e) in reports_same (wait_answer s k l) (w l) x.0 (wait_answer_reports s k l) x.1
    at l m false e = refl

-- A CALL ANSWERS exactly when the tables are given and the row is there
module _ {A : Type 0} (x un no : A) where
  asked_yes : (g h : Bool) (z : A) → ¬ (un ≡ z) → ¬ (no ≡ z) → elim g [ true ↦ elim h [ true ↦ x | false ↦ un ] | false ↦ no ] ≡ z → (g ≡ true) × (h ≡ true) × (x ≡ z)
  asked_yes true true z p q e = (refl, refl, e)
  asked_yes true false z p q e = absurd (p e)
  asked_yes false h z p q e = absurd (q e)

  yes_asked : {g h : Bool} → g ≡ true → h ≡ true → elim g [ true ↦ elim h [ true ↦ x | false ↦ un ] | false ↦ no ] ≡ x
  yes_asked p q = rw (p, q)

not_row : (r : Refusal) (a : Answer) → ¬ (Err r ≡ Ok a)
not_row r a e = let z : ◌≡◌ {A = ℕ} 0 1 = cc in omega arith

not_task : (r : Refusal) (a : TaskAnswer) → ¬ (Err r ≡ Ok a)
not_task r a e = let z : ◌≡◌ {A = ℕ} 0 1 = cc in omega arith

not_figure : (r : Refusal) (x : ℕ) → ¬ (Err r ≡ Ok x)
not_figure r x e = let z : ◌≡◌ {A = ℕ} 0 1 = cc in omega arith

module _ (r : PlanRecord) (t : Tables) (v : ℕ) where
  vcpu_answered :
      (a : Answer) → vcpu_asked r t v ≡ Ok a →
      (is_given r t ≡ true) × (has_vcpu (system_from r t).vcpus v ≡ true) × (vcpu_answer (system_from r t) (vcpu_at (system_from r t) v) ≡ a)
  unfolding vcpu_asked vcpu_row_of
  vcpu_answered a e =
      let x = asked_yes _ _ _ _ _ (Ok a) (not_row Unknown a) (not_row Foreign a) e in (x.0, x.1, let y = x.2 in cc)

  pub vcpu_reports : (a : Answer) → vcpu_asked r t v ≡ Ok a → VcpuReported (system_from r t) (vcpu_at (system_from r t) v) a
  vcpu_reports a e = rw (← (vcpu_answered a e).2) (vcpu_answer_reports (system_from r t) (vcpu_at (system_from r t) v))

  -- no faultless call is refused
  pub vcpu_answered_exactly :
      ((a : Answer) × (vcpu_asked r t v ≡ Ok a)) ↔ ((is_given r t ≡ true) × (has_vcpu (system_from r t).vcpus v ≡ true))
  unfolding vcpu_asked vcpu_row_of
  vcpu_answered_exactly = (
    λ q. let x = vcpu_answered q.0 q.1 in (x.0, x.1),
    λ q. (vcpu_answer (system_from r t) (vcpu_at (system_from r t) v), yes_asked _ _ _ q.0 q.1),
  )

module _ (r : PlanRecord) (t : Tables) (v n i : ℕ) where
  wait_answered :
      (a : Answer) → wait_asked r t v n i ≡ Ok a →
      (is_given r t ≡ true) × (has_place (system_from r t) v n i ≡ true)
      × (wait_answer (system_from r t) (task_at (system_from r t) v n) (lock_at (task_at (system_from r t) v n) i) ≡ a)
  unfolding wait_asked wait_row_of
  wait_answered a e =
      let x = asked_yes _ _ _ _ _ (Ok a) (not_row Unknown a) (not_row Foreign a) e in (x.0, x.1, let y = x.2 in cc)

  pub wait_reports :
      (a : Answer) → wait_asked r t v n i ≡ Ok a → WaitReported (system_from r t) (task_at (system_from r t) v n) (lock_at (task_at (system_from r t) v n) i) a
  wait_reports a e =
      rw (← (wait_answered a e).2)
      (wait_answer_reports (system_from r t) (task_at (system_from r t) v n) (lock_at (task_at (system_from r t) v n) i))

  -- task (v, n) is there, with a global section at its place i
  place_both :
      (has_place (system_from r t) v n i ≡ true)
      ↔ ((has_task (system_from r t) v n ≡ true) × (has_section (system_from r t) (task_at (system_from r t) v n) i ≡ true))
  place_both = (λ e. (both_left (has_task (system_from r t) v n) _ e, both_right (has_task (system_from r t) v n) _ e), λ q. both _ _ q.0 q.1)

  pub wait_answered_exactly :
      ((a : Answer) × (wait_asked r t v n i ≡ Ok a))
      ↔ ((is_given r t ≡ true) × (has_task (system_from r t) v n ≡ true)
      × (has_section (system_from r t) (task_at (system_from r t) v n) i ≡ true))
  unfolding wait_asked wait_row_of
  wait_answered_exactly = (
    λ q. let x = wait_answered q.0 q.1 in let y = place_both.0 x.1 in (x.0, y.0, y.1),
    λ q. (
      wait_answer (system_from r t) (task_at (system_from r t) v n) (lock_at (task_at (system_from r t) v n) i),
      yes_asked _ _ _ q.0 (place_both.1 (q.1, q.2)),
    ),
  )

  response_answered :
      (x : ℕ) → response_asked r t v n i ≡ Ok x →
      (is_given r t ≡ true) × (has_place (system_from r t) v n i ≡ true)
      × (response (system_from r t) (task_at (system_from r t) v n) (lock_at (task_at (system_from r t) v n) i) ≡ x)
  unfolding response_asked response_row_of
  response_answered x e =
      let y = asked_yes _ _ _ _ _ (Ok x) (not_figure Unknown x) (not_figure Foreign x) e in (y.0, y.1, let z = y.2 in cc)

  -- a figure that is answered is the response of the section
  pub response_reports :
      (x : ℕ) → response_asked r t v n i ≡ Ok x →
      x ≡ response (system_from r t) (task_at (system_from r t) v n) (lock_at (task_at (system_from r t) v n) i)
  response_reports x e = sym (response_answered x e).2

  pub response_answered_exactly :
      ((x : ℕ) × (response_asked r t v n i ≡ Ok x))
      ↔ ((is_given r t ≡ true) × (has_task (system_from r t) v n ≡ true)
      × (has_section (system_from r t) (task_at (system_from r t) v n) i ≡ true))
  unfolding response_asked response_row_of
  response_answered_exactly = (
    λ q. let x = response_answered q.0 q.1 in let y = place_both.0 x.1 in (x.0, y.0, y.1),
    λ q. (
      response (system_from r t) (task_at (system_from r t) v n) (lock_at (task_at (system_from r t) v n) i),
      yes_asked _ _ _ q.0 (place_both.1 (q.1, q.2)),
    ),
  )

-- WHAT A TASK IS NAMED, by whether it lacks a wait and whether it is held
abbrev named : Bool → Bool → Answer → TaskAnswer
named b c a = elim b [ true ↦ NoWait | false ↦ elim c [ true ↦ Held | false ↦ Searched a ] ]

module _ (a : Answer) where
  named_nowait : (b c : Bool) → (named b c a ≡ NoWait) ↔ (b ≡ true)
  named_nowait b c = (go b c, λ e. rw e)
    where
      go : (b c : Bool) → named b c a ≡ NoWait → b ≡ true
      go true c e = refl
      go false true e = absurd (let z : ◌≡◌ {A = ℕ} 0 1 = cc in omega arith)
      go false false e = absurd (let z : ◌≡◌ {A = ℕ} 0 1 = cc in omega arith)

  named_held : (b c : Bool) → (named b c a ≡ Held) ↔ ((b ≡ false) × (c ≡ true))
  named_held b c = (go b c, λ q. rw (q.0, q.1))
    where
      go : (b c : Bool) → named b c a ≡ Held → (b ≡ false) × (c ≡ true)
      go true c e = absurd (let z : ◌≡◌ {A = ℕ} 0 1 = cc in omega arith)
      go false true e = (refl, refl)
      go false false e = absurd (let z : ◌≡◌ {A = ℕ} 0 1 = cc in omega arith)

  named_searched : (b c : Bool) (x : Answer) → (named b c a ≡ Searched x) ↔ ((b ≡ false) × (c ≡ false) × (a ≡ x))
  named_searched b c x = (go b c, λ q. rw (q.0, q.1, q.2))
    where
      go : (b c : Bool) → named b c a ≡ Searched x → (b ≡ false) × (c ≡ false) × (a ≡ x)
      go true c e = absurd (let z : ◌≡◌ {A = ℕ} 0 1 = cc in omega arith)
      go false true e = absurd (let z : ◌≡◌ {A = ℕ} 0 1 = cc in omega arith)
      go false false e = (refl, refl, cc)

-- a test that says exactly whether P holds
false_not : {P : Type 0} {b : Bool} → (b ≡ true) ↔ P → (b ≡ false) ↔ (¬ P)
false_not {b} h = (λ e p. true≢false (sym (h.1 p) ∙ e), λ q. go b (λ e. q (h.0 e)))
  where
    go : (c : Bool) → ¬ (c ≡ true) → c ≡ false
    go true q = absurd (q refl)
    go false q = refl

module _ (s : System) (k : Task) where
  -- "A task is `nowait` if one of its own waits has no answer, else `held` if a higher task of its VCPU has such a wait"
  answer_nowait : (task_answer s k ≡ NoWait) ↔ NoNumber s k
  unfolding task_answer
  answer_nowait =
      let x = named_nowait _ (lacks_wait s k) (is_held s k) in
      (λ e. (lacks_exactly s k).0 (x.0 e), λ q. x.1 ((lacks_exactly s k).1 q))

  answer_held : (task_answer s k ≡ Held) ↔ ((¬ NoNumber s k) × HeldUp s k)
  unfolding task_answer
  answer_held =
      let x = named_held _ (lacks_wait s k) (is_held s k) in (
        λ e. let y = x.0 e in ((false_not (lacks_exactly s k)).0 y.0, (held_exactly s k).0 y.1),
        λ q. x.1 ((false_not (lacks_exactly s k)).1 q.0, (held_exactly s k).1 q.1),
      )

  answer_searched :
      (a : Answer) →
      (task_answer s k ≡ Searched a)
      ↔ ((¬ NoNumber s k) × (¬ HeldUp s k) × (solve (task_demand s (remote_waits s) k) (lengths k) k.period ≡ a))
  unfolding task_answer
  answer_searched a =
      let x = named_searched _ (lacks_wait s k) (is_held s k) a in (
        λ e. let y = x.0 e in ((false_not (lacks_exactly s k)).0 y.0, (false_not (held_exactly s k)).0 y.1, y.2),
        λ q. x.1 ((false_not (lacks_exactly s k)).1 q.0, (false_not (held_exactly s k)).1 q.1, q.2),
      )

  pub task_answer_reports : TaskReported s k (task_answer s k)
  task_answer_reports = go (task_answer s k) refl
    where
      go : (a : TaskAnswer) → task_answer s k ≡ a → TaskReported s k a
      go (Searched a) e = let x = (answer_searched a).0 e in (x.0, x.1, rw (← x.2) (task_search_reports s (remote_waits s) k))
      go NoWait e = answer_nowait.0 e
      go Held e = answer_held.0 e

module _ (r : PlanRecord) (t : Tables) (v n : ℕ) where
  task_answered :
      (a : TaskAnswer) →
      (task_asked r t v n ≡ Ok a)
      ↔ ((is_given r t ≡ true) × (has_task (system_from r t) v n ≡ true) × (task_answer (system_from r t) (task_at (system_from r t) v n) ≡ a))
  unfolding task_asked task_row_of
  task_answered a = (
    λ e. let x = asked_yes _ _ _ _ _ (Ok a) (not_task Unknown a) (not_task Foreign a) e in (x.0, x.1, let y = x.2 in cc),
    λ q. yes_asked _ _ _ q.0 q.1 ∙ ap Ok q.2,
  )

  pub task_answered_exactly :
      ((a : TaskAnswer) × (task_asked r t v n ≡ Ok a)) ↔ ((is_given r t ≡ true) × (has_task (system_from r t) v n ≡ true))
  task_answered_exactly = (
    λ q. let x = (task_answered q.0).0 q.1 in (x.0, x.1),
    λ q. let a = task_answer (system_from r t) (task_at (system_from r t) v n) in (a, (task_answered a).1 (q.0, q.1, refl)),
  )

  -- a task is searched, or named, as demand 3 says
  pub task_reports : (a : TaskAnswer) → task_asked r t v n ≡ Ok a → TaskReported (system_from r t) (task_at (system_from r t) v n) a
  task_reports a e =
      rw (← ((task_answered a).0 e).2) (task_answer_reports (system_from r t) (task_at (system_from r t) v n))

  -- it is searched exactly when it rests on none
  pub task_searched_exactly :
      ((a : Answer) × (task_asked r t v n ≡ Ok (Searched a)))
      ↔ ((is_given r t ≡ true) × (has_task (system_from r t) v n ≡ true) × (¬ NoNumber (system_from r t) (task_at (system_from r t) v n))
      × (¬ HeldUp (system_from r t) (task_at (system_from r t) v n)))
  task_searched_exactly = (
    λ q. let x = (task_answered (Searched q.0)).0 q.1 in let y = task_reports (Searched q.0) q.1 in (x.0, x.1, y.0, y.1),
    λ q.
        let k = task_at (system_from r t) v n in
        let a = solve (task_demand (system_from r t) (remote_waits (system_from r t)) k) (lengths k) k.period in
        (a, (task_answered (Searched a)).1 (q.0, q.1, (answer_searched (system_from r t) k a).1 (q.2, q.3, refl))),
  )

  -- it is named `nowait` exactly when one of its own global sections has a wait without a number
  pub task_nowait_exactly :
      (task_asked r t v n ≡ Ok NoWait)
      ↔ ((is_given r t ≡ true) × (has_task (system_from r t) v n ≡ true) × NoNumber (system_from r t) (task_at (system_from r t) v n))
  task_nowait_exactly =
      let k = task_at (system_from r t) v n in (
        λ e. let x = (task_answered NoWait).0 e in (x.0, x.1, (answer_nowait (system_from r t) k).0 x.2),
        λ q. (task_answered NoWait).1 (q.0, q.1, (answer_nowait (system_from r t) k).1 q.2),
      )

  -- it is named `held` exactly when none of its own has, and a higher task of its VCPU has such a section
  pub task_held_exactly :
      (task_asked r t v n ≡ Ok Held)
      ↔ ((is_given r t ≡ true) × (has_task (system_from r t) v n ≡ true) × (¬ NoNumber (system_from r t) (task_at (system_from r t) v n))
      × HeldUp (system_from r t) (task_at (system_from r t) v n))
  task_held_exactly =
      let k = task_at (system_from r t) v n in (
        λ e. let x = (task_answered Held).0 e in let y = (answer_held (system_from r t) k).0 x.2 in (x.0, x.1, y.0, y.1),
        λ q. (task_answered Held).1 (q.0, q.1, (answer_held (system_from r t) k).1 (q.2, q.3)),
      )
