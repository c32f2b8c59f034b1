-- The rows and the base have the demand of the equation.
use Prim.Native.Nat.{ℕ, zero, suc, ◌+◌, ◌-◌, ◌*◌, ◌≤◌, ◌<◌}
use Rattle.std.specs.Prelude.{◌≡◌, refl, Bool, true, false, ◌&&◌, eqb, ltb, length}
use Rattle.std.proofs.Common.{ap, sym, ◌∙◌, mul-zero, add-zero, zero-add, add_assoc, mul_comm, mul_assoc, mul-add, add-mul, lt-ltb, ltb-true, ltb-false}
use Rattle.std.proofs.Math.Path.{ap₂}
use mathlib.Core.List.{List, [], ◌∷◌, ◌++◌, map}
use native.Mathlib.Omega.{arith}
use Rattle.laws.specs.Choice.{when}
use Rattle.laws.specs.Sums.{up, sum, only, Each}
use Rattle.laws.specs.SumLaws.{sum_both, sum_same, each_append, when_plus}
use Rattle.laws.specs.Rows.{rows, Is}
use Rattle.laws.specs.RowLaws.{each_rows}
use Rattle.search.specs.Search.{solve}
use Rattle.search.proofs.SearchLaws.{solve_same}
use Rattle.search.specs.Row.{Row, Picked, Sound, share, rows_demand}
use Rattle.search.specs.TableLaws.{sum_pick, demand_pick, each_pick, picked_in, picked_out}
use Rattle.plan.specs.declared.Policy.{Policy}
use Rattle.plan.specs.declared.Policy.TheVariants.{Periodic, Deferrable}
use Rattle.plan.specs.declared.Lock.{Lock}
use Rattle.plan.specs.Plan.{Vcpu, Task}
use Rattle.plan.specs.Lookup.{global}
use Rattle.plan.specs.Valid.{VcpuValid}
use Rattle.plan.specs.Limits.{most_tasks}
use Rattle.plan_tables.specs.declared.PlanRecord.{PlanRecord}
use Rattle.plan_tables.specs.Layout.{cell, vcpu_row, lock_row, task_row, task_width}
use Rattle.figures.specs.System.{System}
use Rattle.figures.specs.Tabled.{Fit, system_in}
use Rattle.figures.specs.Answers.{vcpu_answer}
use Rattle.figures_slices.specs.Stored.{section_response}
use Rattle.figures.specs.Figures.{lower_on, higher_on, global_sum, ght, jitter, blocking_by, blocking, vcpu_start, vcpu_demand, response, wait_start, wait_demand}
use Rattle.figures_slices.specs.Costs.{costs, cost_row, cost_rows, is_deferrable, lower_times, blocking_cost, blocking_ght, higher_row, vcpu_base, vcpu_rows, wait_cost, Added}
use Rattle.figures_slices.specs.Filled.{section_at}

-- SUMS
pub sum_nil : {A : Type 0} (xs : List A) → sum (λ x. 0) xs ≡ 0
unfolding sum
sum_nil [] = refl
sum_nil (x ∷ xs) = omega (arith, sum_nil xs)

pub sum_times : {A : Type 0} (c : ℕ) (f : A → ℕ) (xs : List A) → sum (λ x. c * f x) xs ≡ c * sum f xs
unfolding sum
sum_times c f [] = sym (mul-zero c)
sum_times c f (x ∷ xs) = rw (sum_times c f xs, mul-add)

pub when_times : (b : Bool) (c x : ℕ) → when b (c * x) ≡ c * when b x
unfolding when
when_times true c x = refl
when_times false c x = sym (mul-zero c)

-- a choice of n, counted
when_count : (a b : Bool) (n : ℕ) → when a (when b n) ≡ when (a && b) 1 * n
unfolding when
when_count true true n = omega arith
when_count true false n = omega arith
when_count false b n = omega arith

when_nil : (b : Bool) → when b 0 ≡ 0
unfolding when
when_nil true = refl
when_nil false = refl

-- f over the rows that go with each chosen row, or how many chosen rows go with each, times f
module _ {A B : Type 0} (q : A → Bool) (on : A → B → Bool) (f : B → ℕ) where
  count_one : (b : B) (xs : List A) → sum (λ x. when (q x) (when (on x b) (f b))) xs ≡ sum (λ x. when (q x && on x b) 1) xs * f b
  unfolding sum
  count_one b [] = omega arith
  count_one b (x ∷ xs) = rw (when_count (q x) (on x b) (f b), count_one b xs, ← add-mul)

  pub sum_swap : (xs : List A) (ys : List B)
      → sum (λ x. when (q x) (sum (λ y. when (on x y) (f y)) ys)) xs ≡ sum (λ y. sum (λ x. when (q x && on x y) 1) xs * f y) ys
  unfolding sum
  sum_swap xs [] = sum_same xs (λ x. when_nil (q x)) ∙ sum_nil xs
  sum_swap xs (y ∷ ys) =
      sum_same xs (λ x. when_plus (q x) (when (on x y) (f y)) (sum (λ y. when (on x y) (f y)) ys))
      ∙ sum_both (λ x. when (q x) (when (on x y) (f y))) (λ x. when (q x) (sum (λ y. when (on x y) (f y)) ys)) xs
      ∙ ap₂ ◌+◌ (count_one y xs) (sum_swap xs ys)

-- TASKS THAT COST
cost_one : (n p c : ℕ) → c + when (ltb 0 c) (up n p * c) ≡ (up n p + 1) * c
unfolding when
cost_one n p zero = rw (mul-zero (up n p + 1)) refl
cost_one n p (suc c) = rw (lt-ltb 0 (suc c) (omega arith), add-mul (up n p) 1 (suc c)) (omega arith)

pub cost_sum : (cost : Task → ℕ) (t : ℕ) (ks : List Task)
    → sum cost ks + sum (share t) (cost_rows cost ks) ≡ sum (λ k. (up t k.period + 1) * cost k) ks
unfolding share cost_row
cost_sum cost t ks =
    ap (λ n. sum cost ks + n) (sum_pick (share t) (costs cost) (cost_row cost) ks)
    ∙ sym (sum_both cost (λ k. when (costs cost k) (share t (cost_row cost k))) ks)
    ∙ sum_same ks (λ k. rw (add-zero t) (cost_one t k.period (cost k)))

-- EQUATION 5
times_swap : (a b c : ℕ) → a * (b * c) ≡ b * (a * c)
times_swap a b c = sym (mul_assoc a b c) ∙ ap (λ n. n * c) (mul_comm a b) ∙ mul_assoc b a c

blocking_parts : (q : Policy) (s : System) (x : Vcpu) (t : ℕ)
    → sum (blocking_ght (is_deferrable q) s x) s.vcpus + sum (λ k. (up t k.period + 1) * blocking_cost (is_deferrable q) s x k) s.tasks
    ≡ sum (λ y. when (lower_on x y) (blocking_by q s y.v t)) s.vcpus
unfolding blocking_ght blocking_cost blocking_by when lower_times
blocking_parts Periodic s x t =
    ap (λ n. sum (λ y. when (lower_on x y) (ght s y.v)) s.vcpus + n) (sum_same s.tasks (λ k. mul-zero (up t k.period + 1)) ∙ sum_nil s.tasks)
    ∙ add-zero _
blocking_parts Deferrable s x t =
    ap (λ n. n + sum (λ k. (up t k.period + 1) * (lower_times s x k.v * global_sum s k)) s.tasks) (sum_nil s.vcpus)
    ∙ zero-add _
    ∙ sum_same s.tasks (λ k. times_swap (up t k.period + 1) (lower_times s x k.v) (global_sum s k))
    ∙ sym (sum_swap (lower_on x) (λ y k. eqb k.v y.v) (λ k. (up t k.period + 1) * global_sum s k) s.vcpus s.tasks)

pub vcpu_rows_demand : (d : Bool) (s : System) (x : Vcpu) (t : ℕ) → d ≡ is_deferrable s.policy
    → rows_demand (vcpu_base d s x) (vcpu_rows d s x) t ≡ vcpu_demand s x t
unfolding vcpu_base vcpu_demand blocking share higher_row
vcpu_rows_demand d s x t e =
    let a = demand_pick (vcpu_base d s x) t (cost_rows (blocking_cost d s x) s.tasks) (higher_on x) (higher_row s) s.vcpus in
    let b = cost_sum (blocking_cost d s x) t s.tasks in
    let f = rw (← e) at (blocking_parts s.policy s x t) in
    omega arith

-- READ NUMBERS

-- a row's numbers were read
pub row_same : {a b c x y z : ℕ} → a ≡ x → b ≡ y → c ≡ z
    → ◌≡◌ {A = Row} (record { shift = a; period = b; cost = c }) (record { shift = x; period = y; cost = z })
row_same e f g = rw (e, f, g)

-- a task's period and cost were read
cost_row_is : (cost : Task → ℕ) (k : Task) {p c : ℕ} → p ≡ k.period → c ≡ cost k
    → cost_row cost k ≡ record { shift = 0; period = p; cost = c }
unfolding cost_row
cost_row_is cost k e f = row_same refl (sym e) (sym f)

-- there is room for one more row
pub cost_room : (cost : Task → ℕ) (thing : ℕ → Task) {n k i : ℕ} {xs : List ℕ} (m : ℕ) → Picked (costs cost) (cost_row cost) thing [] 0 n xs k i → length xs ≡ m → 240 ≤ m → n ≤ most_tasks → i < n →
    k * 3 + 3 ≤ length xs
cost_room cost thing m h e room few l = omega (arith, h.built.few, e, room, few, l)

-- one more task is looked at
pub cost_added : (cost : Task → ℕ) (thing : ℕ → Task) {stood : List Row} {m n k k' i p c : ℕ} {xs ys : List ℕ} →
    Picked (costs cost) (cost_row cost) thing stood m n xs k i → i < n → Added xs k p c ys k' → p ≡ (thing i).period → c ≡ cost (thing i) → k * 3 + 3 ≤ length xs →
    Picked (costs cost) (cost_row cost) thing stood m n ys k' (i + 1)
cost_added cost thing {stood} {m} {n} {k} {k'} {i} {p} {c} {xs} {ys} h l a ep ec room = go (ltb 0 c) refl
  where
    go : (b : Bool) → ltb 0 c ≡ b → Picked (costs cost) (cost_row cost) thing stood m n ys k' (i + 1)
    go true e =
        let w = a.some (λ z. let q = ltb-true 0 c e in omega arith) in
        rw w.1 (picked_in h l (ap (ltb 0) ec) e w.0 (cost_row_is cost (thing i) ep ec) room)
    go false e =
        let w = a.none (let q = ltb-false 0 c e in omega arith) in
        rw (w.0, w.1) (picked_out h l (ap (ltb 0) ec) e)

jitter_is : {d : Bool} (q : Policy) (y : Vcpu) → d ≡ is_deferrable q → when d (y.period - y.budget) ≡ jitter q y
unfolding when
jitter_is Periodic y e = rw e
jitter_is Deferrable y e = rw e

-- a higher VCPU's numbers were read
pub higher_row_is : (s : System) (y : Vcpu) {d : Bool} {b p j w : ℕ} → d ≡ is_deferrable s.policy → b ≡ y.budget → p ≡ y.period → j ≡ when d (p - b)
    → w ≡ vcpu_start s y → ◌≡◌ {A = Row} (record { shift = j; period = p; cost = w }) (higher_row s y)
unfolding higher_row
higher_row_is s y e f g h k = row_same (h ∙ rw (f, g) (jitter_is s.policy y e)) g k

-- rows after rows
pub rows_both : {xs ys ws : List Row} (zs : List Row) → xs ≡ ys ++ zs → ys ≡ ws → xs ≡ ws ++ zs
rows_both zs e f = e ∙ ap (λ l. l ++ zs) f

pub start_below : {b w : ℕ} (d : Bool) (s : System) (x : Vcpu) → b ≡ vcpu_base d s x → w ≡ vcpu_start s x → w ≤ b
unfolding vcpu_base
start_below d s x e f = rw (e, f) (omega arith)

pub vcpu_found : {base w l : ℕ} {xs : List Row} (d : Bool) (s : System) (x : Vcpu)
    → d ≡ is_deferrable s.policy → base ≡ vcpu_base d s x → w ≡ vcpu_start s x → l ≡ x.period → xs ≡ vcpu_rows d s x
    → solve (rows_demand base xs) w l ≡ vcpu_answer s x
unfolding vcpu_answer
vcpu_found d s x e b w l h = rw (b, w, l, h) (solve_same _ _ (λ t. vcpu_rows_demand d s x t e))

-- SOUND ROWS
cost_sound : (cost : Task → ℕ) (ks : List Task) → Each (λ k. 1 ≤ k.period) ks → Each Sound (cost_rows cost ks)
unfolding cost_row
cost_sound cost ks h = each_pick (costs cost) (cost_row cost) Sound (λ k. 1 ≤ k.period) ks (λ k l e. record { often = l; near = omega arith }) h

jitter_le : (q : Policy) (y : Vcpu) → jitter q y ≤ y.period
jitter_le Periodic y = omega arith
jitter_le Deferrable y = omega arith

higher_sound : (s : System) (x : Vcpu) (ys : List Vcpu) → Each VcpuValid ys → Each Sound (map (higher_row s) (only (higher_on x) ys))
unfolding higher_row
higher_sound s x ys h =
    each_pick (higher_on x) (higher_row s) Sound VcpuValid ys
    (λ y l e. record { often = l.period_in.0; near = omega (arith, jitter_le s.policy y, l.period_in.1) }) h

task_periods : {r : PlanRecord} {vt mt ts : List ℕ} → Fit r vt mt ts → Each (λ k. 1 ≤ k.period) (rows r.tasks (task_row ts))
unfolding task_row
task_periods {r} {ts} h = each_rows (λ k. 1 ≤ k.period) r.tasks (task_row ts) (λ i l. let p = h.task_period i l in omega arith)

pub vcpu_sound : {r : PlanRecord} {vt mt ts : List ℕ} {xs : List Row} (d : Bool) (x : Vcpu) → Fit r vt mt ts → xs ≡ vcpu_rows d (system_in r vt mt ts) x → Each Sound xs
unfolding system_in
vcpu_sound {r} {vt} {mt} {ts} d x h e =
    rw e
    (each_append Sound (cost_rows (blocking_cost d (system_in r vt mt ts) x) (rows r.tasks (task_row ts))) _ (cost_sound (blocking_cost d (system_in r vt mt ts) x) (rows r.tasks (task_row ts)) (task_periods h))
    (higher_sound (system_in r vt mt ts) x (rows r.vcpus (vcpu_row vt)) (each_rows VcpuValid r.vcpus (vcpu_row vt) h.vcpu_valid)))

-- EQUATION 11
wait_one : (b : Bool) (c : ℕ) (q : Lock → Bool) (f : Lock → ℕ) (ls : List Lock)
    → c * when b (sum (λ l. when (q l) (f l)) ls) ≡ when b (sum (λ l. when (q l) (c * f l)) ls)
wait_one b c q f ls =
    sym (when_times b c (sum (λ l. when (q l) (f l)) ls))
    ∙ ap (when b) (sym (sum_times c (λ l. when (q l) (f l)) ls) ∙ sum_same ls (λ l. sym (when_times (q l) c (f l))))

pub wait_rows_demand : (s : System) (v m t : ℕ)
    → rows_demand (wait_start s v m + sum (wait_cost s v m) s.tasks) (cost_rows (wait_cost s v m) s.tasks) t ≡ wait_demand s v m t
unfolding rows_demand wait_demand wait_cost
wait_rows_demand s v m t =
    add_assoc (wait_start s v m) _ _
    ∙ ap (λ n. wait_start s v m + n)
    (cost_sum (wait_cost s v m) t s.tasks
    ∙ sum_same s.tasks (λ k. wait_one (ltb v k.v) (up t k.period + 1) (λ l. eqb l.m m) (response s k) k.locks))

pub wait_found : {base w : ℕ} {xs : List Row} (s : System) (v m l : ℕ) → base ≡ wait_start s v m + sum (wait_cost s v m) s.tasks → w ≡ wait_start s v m
    → xs ≡ cost_rows (wait_cost s v m) s.tasks → solve (rows_demand base xs) w l ≡ solve (wait_demand s v m) (wait_start s v m) l
wait_found s v m l b w h = rw (b, w, h) (solve_same _ _ (λ t. wait_rows_demand s v m t))

pub wait_sound : {r : PlanRecord} {vt mt ts : List ℕ} {xs : List Row} (cost : Task → ℕ) → Fit r vt mt ts → xs ≡ cost_rows cost (rows r.tasks (task_row ts)) → Each Sound xs
wait_sound {r} {ts} cost h e = rw e (cost_sound cost (rows r.tasks (task_row ts)) (task_periods h))

-- a stored response of a lock on a global mutex is the section's
pub section_is : {y b m : ℕ} (s : System) (t : List ℕ) (i j : ℕ) → Is y (section_response s t i j) b → j < cell t task_width i 4 → global s.mutexes m ≡ true
    → (lock_row t i j).m ≡ m → Is y (response s (task_row t i) (lock_row t i j)) b
unfolding section_response section_at when
section_is s t i j h l g e = rw (lt-ltb j (cell t task_width i 4) l, ap (global s.mutexes) e ∙ g) at h

-- what is worked out over the first n locks of task i, which has n
pub over_locks : {x b n : ℕ} (t : List ℕ) (i : ℕ) (g : List Lock → ℕ) → n ≡ cell t task_width i 4 → Is x (g (rows n (lock_row t i))) b → Is x (g (task_row t i).locks) b
unfolding task_row
over_locks t i g e h = rw e at h
