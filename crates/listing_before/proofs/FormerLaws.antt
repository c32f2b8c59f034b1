-- The figures by two tests of ceilings: one that counts fewer sections gives no larger demand, so that what fits by the other fits by it, with a time no larger.
-- So no row that failed by the former test fits by the mended one; and where no ceiling below a task is its n, its row is the same.
use Rattle.std.specs.Prelude.{ℕ, ◌+◌, ◌*◌, ◌≤◌, ◌≡◌, Bool, ◌&&◌, ◌↔◌, ◌⊎◌, eqb, ltb, leb}
use Rattle.std.proofs.Math.Path.{refl, ap}
use Rattle.std.proofs.Common.{sym, ◌∙◌, inl, inr, ⊎_elim, le_refl, add-le-add, ltb-true, ltb-false, lt-ltb, leb-true, le-leb, le-ltb}
use Rattle.std.proofs.Math.Bool.{true, false}
use Rattle.std.proofs.lemmas.Bool.{false≢true, eqb-false}
use Rattle.std.proofs.Math.Nat.{mul-le-mul}
use native.Mathlib.Omega.{arith}
use Rattle.laws.specs.BoolLaws.{bool_cases, both_ways, both_exactly, eqb_exactly, ltb_exactly}
use Rattle.laws.specs.Choice.{when}
use Rattle.laws.specs.Sums.{sum, any}
use Rattle.laws.specs.SumLaws.{rise, when_within, when_rises, greatest_rises, greatest_same_on, each_map, none_each, any_exactly}
use Rattle.search.specs.declared.Answer.{Answer}
use Rattle.search.specs.declared.Answer.TheVariants.{Fits, Late}
use Rattle.search.specs.Search.{Demand, solve}
use Rattle.search.proofs.SearchLaws.{solve_same}
use Rattle.plan.specs.declared.Lock.{Lock}
use Rattle.plan.specs.Plan.{Task}
use Rattle.plan.specs.Lookup.{local_to}
use Rattle.plan.proofs.LookupLaws.{local_exactly}
use Rattle.figures.specs.System.{System}
use Rattle.figures.specs.Figures.{lower_task, longest_global, global_count, ceiling, ceiling_counts, longest_local, local_blocking, lengths, task_demand}
use Rattle.figures.specs.declared.TaskAnswer.{TaskAnswer}
use Rattle.figures.specs.declared.TaskAnswer.TheVariants.{Searched, NoWait, Held}
use Rattle.figures.specs.Answers.{task_limit, remote_waits, lacks_wait, is_held, task_fits, task_answer}
use Rattle.listing_before.specs.Former.{former_counts, longest_local_by, local_blocking_by, task_demand_by, task_answer_by, former_answer, EqualBelow}
use Rattle.listing_before.specs.NoLater.{NoLater, TaskNoLater, no_later}

-- BY THE MENDED TEST they are the figures and the answer

pub mended_local : (p : System) (k : Task) → local_blocking_by ceiling_counts p k ≡ local_blocking p k
unfolding longest_local_by local_blocking_by longest_local local_blocking
mended_local p k = refl

pub mended_demand : (p : System) (waits : Task → ℕ) (k : Task) (w : ℕ) → task_demand_by ceiling_counts p waits k w ≡ task_demand p waits k w
unfolding longest_local_by local_blocking_by task_demand_by longest_local local_blocking task_demand
mended_demand p waits k w = refl

pub mended_answer : (p : System) (k : Task) → task_answer_by ceiling_counts p k ≡ task_answer p k
unfolding longest_local_by local_blocking_by task_demand_by task_answer_by longest_local local_blocking task_demand task_answer
mended_answer p k = refl

-- The former test leaves out what the mended one counts exactly where the ceiling is n; it counts nothing else (`former_within`)
pub differ_exactly : (n c : ℕ) → ((ceiling_counts n c ≡ true) × (former_counts n c ≡ false)) ↔ (c ≡ n)
differ_exactly n c = (
  λ e. let h = leb-true n c e.0 in let g = ltb-false n c e.1 in omega arith,
  λ e. (le-leb n c (omega arith), le-ltb n c (omega arith)),
)

-- ONE TEST COUNTS NO MORE than the other

both_within : (a b c : Bool) → (b ≡ true → c ≡ true) → (a && b) ≡ true → (a && c) ≡ true
both_within true b c h e = h e
both_within false b c h e = e

task_demand_by_law : (f : ℕ → ℕ → Bool) (p : System) (waits : Task → ℕ) (k : Task) → Demand (task_demand_by f p waits k) (lengths k)
unfolding task_demand_by
task_demand_by_law f p waits k = record { rises = λ t u h. search rise depth 9; above = λ t. omega arith }

-- the answer of a search, behind the two names
searched_later :
    (a b : Bool) (x y : Answer) → NoLater x y →
    TaskNoLater (elim a [ true ↦ NoWait | false ↦ elim b [ true ↦ Held | false ↦ Searched x ] ]) (elim a [ true ↦ NoWait | false ↦ elim b [ true ↦ Held | false ↦ Searched y ] ])
searched_later true b x y h w n e = absurd (let z : ◌≡◌ {A = ℕ} 0 1 = cc in omega arith)
searched_later false true x y h w n e = absurd (let z : ◌≡◌ {A = ℕ} 0 1 = cc in omega arith)
searched_later false false x y h w n e =
    let q = h w n cc in
    (q.0, q.1, ap Searched q.2, q.3)

module _ (f g : ℕ → ℕ → Bool) (within : (n c : ℕ) → f n c ≡ true → g n c ≡ true) (p : System) (k : Task) where
  longest_within : (n : ℕ) (h : Task) → longest_local_by f p n h ≤ longest_local_by g p n h
  unfolding longest_local_by
  longest_within n h =
      greatest_rises h.locks (λ l. when_within _ _ l.ticks (both_within (local_to p.mutexes h.v l.m) _ _ (within n (ceiling p l.m))))

  pub local_within : local_blocking_by f p k ≤ local_blocking_by g p k
  unfolding local_blocking_by
  local_within =
      mul-le-mul (add-le-add (greatest_rises p.tasks (λ h. when_rises (lower_task k h) (longest_within k.n h))) (le_refl _)) (le_refl _)

  demand_within : (waits : Task → ℕ) (w : ℕ) → task_demand_by f p waits k w ≤ task_demand_by g p waits k w
  unfolding task_demand_by
  demand_within waits w = let b = local_within in omega arith

  pub answer_within : TaskNoLater (task_answer_by g p k) (task_answer_by f p k)
  unfolding task_answer_by
  answer_within =
      searched_later (lacks_wait p k) (is_held p k) _ _
      (no_later (task_limit k) (task_demand_by_law f p (remote_waits p) k) (task_demand_by_law g p (remote_waits p) k) (demand_within (remote_waits p)))

-- NO ROW THAT FAILED BEFORE NOW FITS

former_within : (n c : ℕ) → former_counts n c ≡ true → ceiling_counts n c ≡ true
former_within n c e = let h = ltb-true n c e in le-leb n c (omega arith)

-- a task that fits now with w fitted before with v ≤ w
pub fitted_before : (p : System) (k : Task) → TaskNoLater (task_answer p k) (former_answer p k)
unfolding former_answer
fitted_before p k w n e = answer_within former_counts ceiling_counts former_within p k w n (mended_answer p k ∙ e)

-- one that fits now has a time now, and had one before
fits_of_task : (a : TaskAnswer) → task_fits a ≡ true → (w : ℕ) × (n : ℕ) × (a ≡ Searched (Fits w n))
fits_of_task (Searched (Fits w n)) e = (w, n, refl)
fits_of_task (Searched (Late n)) e = absurd (false≢true e)
fits_of_task NoWait e = absurd (false≢true e)
fits_of_task Held e = absurd (false≢true e)

pub fits_before : (p : System) (k : Task) → task_fits (task_answer p k) ≡ true → task_fits (former_answer p k) ≡ true
fits_before p k e =
    let q = fits_of_task (task_answer p k) e in
    ap task_fits (fitted_before p k q.0 q.1 q.2).2

-- `nowait` and `held` rest on waits alone
named_same :
    (a b : Bool) (x y : Answer) (t : TaskAnswer) → ((z : Answer) → ¬ (t ≡ Searched z)) →
    elim a [ true ↦ NoWait | false ↦ elim b [ true ↦ Held | false ↦ Searched x ] ] ≡ t →
    elim a [ true ↦ NoWait | false ↦ elim b [ true ↦ Held | false ↦ Searched y ] ] ≡ t
named_same true b x y t h e = e
named_same false true x y t h e = e
named_same false false x y t h e = absurd (h x (sym e))

module _ (f g : ℕ → ℕ → Bool) (p : System) (k : Task) (t : TaskAnswer) (h : (z : Answer) → ¬ (t ≡ Searched z)) where
  named_by : task_answer_by f p k ≡ t → task_answer_by g p k ≡ t
  unfolding task_answer_by
  named_by = named_same (lacks_wait p k) (is_held p k) _ _ t h

named_as_before : (p : System) (k : Task) (t : TaskAnswer) → ((z : Answer) → ¬ (t ≡ Searched z)) → (task_answer p k ≡ t) ↔ (former_answer p k ≡ t)
unfolding former_answer
named_as_before p k t h = (
  λ e. named_by ceiling_counts former_counts p k t h (mended_answer p k ∙ e),
  λ e. sym (mended_answer p k) ∙ named_by former_counts ceiling_counts p k t h e,
)

pub nowait_as_before : (p : System) (k : Task) → (task_answer p k ≡ NoWait) ↔ (former_answer p k ≡ NoWait)
nowait_as_before p k = named_as_before p k NoWait (λ z e. let y : ◌≡◌ {A = ℕ} 0 1 = cc in omega arith)

pub held_as_before : (p : System) (k : Task) → (task_answer p k ≡ Held) ↔ (former_answer p k ≡ Held)
held_as_before p k = named_as_before p k Held (λ z e. let y : ◌≡◌ {A = ℕ} 0 1 = cc in omega arith)

-- ONLY A CEILING THAT IS n MOVES A ROW

-- the test of it, of a section and of all
abbrev equal_here : System → Task → Task → Lock → Bool
equal_here p k h l = local_to p.mutexes h.v l.m && eqb (ceiling p l.m) k.n

abbrev equal_below : System → Task → Bool
equal_below p k = any (λ h. eqb h.v k.v && (ltb h.n k.n && any (equal_here p k h) h.locks)) p.tasks

equal_below_law : (p : System) (k : Task) → equal_below p k ≡ true → EqualBelow p k
equal_below_law p k e =
    let q =
    (any_exactly _ p.tasks (λ h. both_exactly (eqb_exactly h.v k.v) (both_exactly (ltb_exactly h.n k.n)
    (any_exactly _ h.locks (λ l. both_exactly (local_exactly p.mutexes h.v l.m) (eqb_exactly (ceiling p l.m) k.n)))))).0 e
    in
    (q.0, q.1, (q.2.0, q.2.1.0, q.2.1.1))

-- behind another test too, where that does not pass with a ceiling of n
counts_same : (a : Bool) (n c : ℕ) → (a && eqb c n) ≡ false → (a && former_counts n c) ≡ (a && ceiling_counts n c)
counts_same false n c e = refl
counts_same true n c e = let d = eqb-false c n e in both_ways (ltb n c) (leb n c) (former_within n c) (λ q. let h = leb-true n c q in lt-ltb n c (omega arith))

-- where no section below k has such a ceiling
module _ (p : System) (k : Task) (none : equal_below p k ≡ false) where
  longest_same :
      (h : Task) → any (equal_here p k h) h.locks ≡ false → longest_local_by former_counts p k.n h ≡ longest_local_by ceiling_counts p k.n h
  unfolding longest_local_by
  longest_same h e =
      greatest_same_on _ _ h.locks
      (each_map h.locks (λ l q. ap (λ b. when b l.ticks) (counts_same (local_to p.mutexes h.v l.m) k.n (ceiling p l.m) q)) (none_each _ h.locks e))

  lower_same :
      (a b c : Bool) {x y : ℕ} → (a && (b && c)) ≡ false → (c ≡ false → x ≡ y) → when (a && b) x ≡ when (a && b) y
  unfolding when
  lower_same true true c e h = h e
  lower_same true false c e h = refl
  lower_same false b c e h = refl

  local_same : local_blocking_by former_counts p k ≡ local_blocking_by ceiling_counts p k
  unfolding local_blocking_by
  local_same =
      ap (λ (s : ℕ). (s + sum (λ h. when (lower_task k h) (longest_global p h)) p.tasks) * (global_count p k + 1))
      (greatest_same_on _ _ p.tasks
      (each_map p.tasks (λ h q. lower_same (eqb h.v k.v) (ltb h.n k.n) (any (equal_here p k h) h.locks) q (longest_same h)) (none_each _ p.tasks none)))

  demand_same : (waits : Task → ℕ) (w : ℕ) → task_demand_by former_counts p waits k w ≡ task_demand_by ceiling_counts p waits k w
  unfolding task_demand_by
  demand_same waits w = let b = local_same in omega arith

  answer_same : task_answer_by former_counts p k ≡ task_answer_by ceiling_counts p k
  unfolding task_answer_by
  answer_same =
      ap (λ (a : Answer). elim (lacks_wait p k) [ true ↦ NoWait | false ↦ elim (is_held p k) [ true ↦ Held | false ↦ Searched a ] ])
      (solve_same (lengths k) (task_limit k) (demand_same (remote_waits p)))

-- a row is as it was, or a section below it has such a ceiling
pub same_or_equal : (p : System) (k : Task) → (task_answer p k ≡ former_answer p k) ⊎ EqualBelow p k
unfolding former_answer
same_or_equal p k =
    ⊎_elim (λ e. inr (equal_below_law p k e)) (λ e. inl (sym (mended_answer p k) ∙ sym (answer_same p k e))) (bool_cases (equal_below p k))
