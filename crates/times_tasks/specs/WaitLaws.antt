-- The rows and the base of a task's search have the demand of equation 6.
use Rattle.std.specs.Prelude.{ℕ, ◌+◌, ◌-◌, ◌*◌, ◌≤◌, ◌<◌, ◌≡◌, refl, Bool, true, false, List, [], ◌∷◌, ◌++◌, map, eqb, length}
use Rattle.std.proofs.Math.Path.{ap}
use Rattle.std.proofs.Common.{ap₂, sym, ◌∙◌, add_assoc, arith}
use Rattle.laws.specs.Choice.{when}
use Rattle.laws.specs.Sums.{up, only, Each}
use Rattle.laws.specs.SumLaws.{sum_same, sum_one, each_append}
use Rattle.laws.specs.Rows.{rows}
use Rattle.laws.specs.RowLaws.{each_rows}
use Rattle.search.specs.Search.{solve}
use Rattle.search.proofs.SearchLaws.{solve_same}
use Rattle.search.specs.Row.{Row, Sound, share, rows_demand, rows_in, pushed}
use Rattle.search.specs.TableLaws.{sum_pick, demand_append, each_pick, rows_push}
use Rattle.plan.specs.Plan.{Vcpu, Task}
use Rattle.plan_tables.specs.declared.PlanRecord.{PlanRecord}
use Rattle.plan_tables.specs.Layout.{vcpu_row, task_row}
use Rattle.figures.specs.System.{System}
use Rattle.figures.specs.Tabled.{Fit, system_in}
use Rattle.figures.specs.Figures.{vcpu_at, higher_task, gap, lengths, local_blocking, task_demand}
use Rattle.figures.specs.declared.TaskAnswer.TheVariants.{Searched, NoWait, Held}
use Rattle.figures.specs.Answers.{remote_waits, lacks_wait, is_held, task_answer}
use Rattle.figures_slices.specs.CostLaws.{row_same}
use Rattle.times_tasks.specs.Waits.{WaitsIn, preempt_row, supply_row, task_rows}

-- a flag is 1 where the test holds
pub flag_is : {y : ℕ} (b : Bool) → y ≡ when b 1 → eqb y 1 ≡ b
unfolding when
flag_is true e = rw e
flag_is false e = rw e

-- READ NUMBERS
pub preempt_row_is : (s : System) (g : ℕ) (h : Task) {w p l : ℕ} → w ≡ remote_waits s h → p ≡ h.period → l ≡ lengths h
    → ◌≡◌ {A = Row} (record { shift = g + w; period = p; cost = l }) (preempt_row s g h)
unfolding preempt_row
preempt_row_is s g h e f k = row_same (ap (λ n. g + n) e) f k

supply_row_is : (x : Vcpu) {b p : ℕ} → b ≡ x.budget → p ≡ x.period → ◌≡◌ {A = Row} (record { shift = b; period = p; cost = p - b }) (supply_row x)
unfolding supply_row
supply_row_is x e f = row_same e f (ap₂ ◌-◌ f e)

-- the rows of the higher tasks were written, and then that of the supply
pub task_rows_are : {ys : List ℕ} {b p : ℕ} (xs : List ℕ) (n : ℕ) (s : System) (k : Task) (x : Vcpu) → vcpu_at s k.v ≡ x → b ≡ x.budget → p ≡ x.period
    → rows_in xs n ≡ map (preempt_row s (p - b)) (only (higher_task k) s.tasks) → n * 3 + 3 ≤ length xs
    → ys ≡ pushed xs n (record { shift = b; period = p; cost = p - b }) → rows_in ys (n + 1) ≡ task_rows s k (vcpu_at s k.v)
unfolding task_rows
task_rows_are {ys} {b} {p} xs n s k x e f g h l q =
    ap (λ zs. rows_in zs (n + 1)) q
    ∙ rows_push xs n (record { shift = b; period = p; cost = p - b }) l
    ∙ ap₂ (λ rs r. rs ++ (r ∷ [])) (h ∙ ap (λ m. map (preempt_row s m) (only (higher_task k) s.tasks)) (ap₂ ◌-◌ g f)) (supply_row_is x f g)
    ∙ ap (λ y. map (preempt_row s (gap y)) (only (higher_task k) s.tasks) ++ (supply_row y ∷ [])) (sym e)

-- EQUATION 6
task_rows_demand : (s : System) (k : Task) (t : ℕ)
    → rows_demand (lengths k + local_blocking s k + remote_waits s k) (task_rows s k (vcpu_at s k.v)) t ≡ task_demand s (remote_waits s) k t
unfolding task_rows task_demand
task_rows_demand s k t =
    let x = vcpu_at s k.v in
    demand_append (lengths k + local_blocking s k + remote_waits s k) t (map (preempt_row s (gap x)) (only (higher_task k) s.tasks)) (supply_row x ∷ [])
    ∙ ap₂ (λ a b. lengths k + local_blocking s k + remote_waits s k + a + b)
    (sum_pick (share t) (higher_task k) (preempt_row s (gap x)) s.tasks ∙ sum_same s.tasks (λ h. unfold share in unfold preempt_row in ap (λ n. when (higher_task k h) (up n h.period * lengths h)) (sym (add_assoc t (gap x) (remote_waits s h)))))
    (sum_one (share t) (supply_row x) ∙ (unfold share in unfold supply_row in refl))

pub task_found : {base w l : ℕ} {xs : List Row} (s : System) (k : Task) → base ≡ lengths k + local_blocking s k + remote_waits s k → w ≡ lengths k → l ≡ k.period
    → xs ≡ task_rows s k (vcpu_at s k.v) → solve (rows_demand base xs) w l ≡ solve (task_demand s (remote_waits s) k) (lengths k) k.period
task_found s k b w l h = rw (b, w, l, h) (solve_same _ _ (λ t. task_rows_demand s k t))

pub task_start : {b w : ℕ} (s : System) (k : Task) → b ≡ lengths k + local_blocking s k + remote_waits s k → w ≡ lengths k → w ≤ b
task_start s k e f = rw (e, f) (omega arith)

-- SOUND ROWS, where row a is the task's VCPU
pub task_sound : {r : PlanRecord} {vt mt ts ws fs : List ℕ} {xs : List Row} (k : Task) (a : ℕ) → Fit r vt mt ts → WaitsIn r vt mt ts ws fs → a < r.vcpus
    → vcpu_at (system_in r vt mt ts) k.v ≡ vcpu_row vt a → xs ≡ task_rows (system_in r vt mt ts) k (vcpu_at (system_in r vt mt ts) k.v) → Each Sound xs
unfolding task_rows supply_row preempt_row system_in
task_sound {r} {vt} {mt} {ts} {ws} k a h w l e q =
    let s = system_in r vt mt ts in
    let v = h.vcpu_valid a l in
    rw (q, e)
    (each_append Sound (map (preempt_row s (gap (vcpu_row vt a))) (only (higher_task k) (rows r.tasks (task_row ts)))) (supply_row (vcpu_row vt a) ∷ [])
    (each_pick (higher_task k) (preempt_row s (gap (vcpu_row vt a))) Sound (λ h. (1 ≤ h.period) × (remote_waits s h ≤ 8000000)) (rows r.tasks (task_row ts))
    (λ x g f. record { often = g.0; near = omega (arith, g.1, v.period_in.1) })
    (each_rows (λ h. (1 ≤ h.period) × (remote_waits s h ≤ 8000000)) r.tasks (task_row ts) (λ i m. (unfold task_row in h.task_period i m, let z = w.waits.at i m in omega arith))))
    (record { often = v.period_in.0; near = omega (arith, v.budget_in.1, v.period_in.1) }, tt))

-- THE ANSWER OF A TASK
pub answer_none : (s : System) (k : Task) → lacks_wait s k ≡ true → NoWait ≡ task_answer s k
unfolding task_answer
answer_none s k e = rw (e, task_answer)

pub answer_held : (s : System) (k : Task) → lacks_wait s k ≡ false → is_held s k ≡ true → Held ≡ task_answer s k
unfolding task_answer
answer_held s k e f = rw (e, f, task_answer)

pub answer_searched : (s : System) (k : Task) → lacks_wait s k ≡ false → is_held s k ≡ false
    → Searched (solve (task_demand s (remote_waits s) k) (lengths k) k.period) ≡ task_answer s k
unfolding task_answer
answer_searched s k e f = rw (e, f, task_answer)
