-- What a list tells after a write.
use Rattle.std.specs.Prelude.{ℕ, ◌+◌, ◌-◌, ◌*◌, ◌/◌, ◌%◌, ◌<◌, ◌≤◌, ◌≡◌, List, Bool, not, eqb, length, get_or, set}
use Rattle.std.proofs.Common.{sym, ap, subst, ◌∙◌, ⊎_elim, arith, eq-eqb, ne_eqb, length-set, get_or-set_same, get_or-set_other, ext_get_or}
use Rattle.std.specs.Prelude.{if◌then◌else◌}
use Rattle.laws.specs.Range.{any_to}
use Rattle.laws.specs.BoolLaws.{same_or_not}
use Rattle.plan.specs.Limits.{max_v, most_n}
use Rattle.board_seats.specs.Seats.{seat}
use Rattle.board_rules.specs.Names.{seat_one}
use Rattle.board_keeps.specs.Fair.{InV, InN}
use Rattle.clock_rules.specs.Clock.{done_of, by_seat}
use Rattle.clock_sets.specs.Sets.{in_set}
use Rattle.clock_marks.specs.Marks.{at_budget, at_spare, at_ready, at_holding, at_tasks, at_holders, at_held, at_done, at_place, at_cores, tasks_cell, holders_cell, held_cell, done_cell, place_cell, done_in, Sized}
use Rattle.clock_marks.specs.Changes.{PutIn, PutReady, PutHeld}
use Rattle.clock_steps.specs.Done.{by_seat_law, seats_long}
use Rattle.clock_mirrors.specs.Tells.{Reading, Tells, put, put_at, put_at_is, put_else, any_tasks}

-- what holds at v and at every other name
pub at_each : (P : ℕ → Type 0) (v : ℕ) → P v → ((w : ℕ) → InV w → (w ≡ v → ⊥) → P w) → (w : ℕ) → InV w → P w
at_each P v own rest w i = ⊎_elim (λ e. subst P (sym e) own) (λ ne. rest w i ne) (same_or_not w v)

-- a cell of each task, from a place on: one changed
cells_put : (k : List ℕ) (at : ℕ) (f : ℕ → ℕ → ℕ) (v n a : ℕ) → InV v → InN n → get_or k (at + seat v n) 0 ≡ a →
    ((w y : ℕ) → InV w → InN y → (seat w y ≡ seat v n → ⊥) → get_or k (at + seat w y) 0 ≡ f w y) → (w y : ℕ) → InV w → InN y → get_or k (at + seat w y) 0 ≡ put_at f v n a w y
cells_put k at f v n a i j own rest w y b c =
    sym (put_at_is f (λ w y. get_or k (at + seat w y) 0) v n a (sym own) (λ w y b c ne. sym (rest w y b c (λ e. ne (seat_one w y v n b c i j e)))) w y b c)

-- A VCPU IS PUT INTO A SET, or taken from it
module _ {k k' : List ℕ} {i v : ℕ} {on : Bool} (p : PutIn k k' i v on) (low : i ≤ at_holding) where
  -- the other sets
  in_set_law : (j : ℕ) → (j ≡ i → ⊥) → (w : ℕ) → in_set (get_or k' j 0) w ≡ in_set (get_or k j 0) w
  in_set_law j ne w = ap (λ s. in_set s w) (p.else_same j ne)

  -- the sets are sets
  in_sized : Sized k → Sized k'
  in_sized z = record {
    long = p.length_same ∙ z.long;
    sets = λ j l. ⊎_elim (λ e. subst (λ x. get_or k' x 0 < 65536) (sym e) p.is_set) (λ ne. subst (λ s. s < 65536) (sym (p.else_same j ne)) (z.sets j l)) (same_or_not j i);
    core_sets = λ c l. subst (λ s. s < 65536) (sym (p.else_same (at_cores + c) (λ e. omega arith))) (z.core_sets c l);
    few_tasks = λ w a. subst (λ s. s < 256) (sym (p.else_same (at_tasks + w) (λ e. omega arith))) (z.few_tasks w a);
    few_holders = λ w a. subst (λ s. s < 256) (sym (p.else_same (at_holders + w) (λ e. omega arith))) (z.few_holders w a);
  }

  -- who is in the set
  in_names : (f : ℕ → Bool) → ((w : ℕ) → InV w → in_set (get_or k i 0) w ≡ f w) → (w : ℕ) → InV w → in_set (get_or k' i 0) w ≡ put f v on w
  in_names f h w a = p.names w a ∙ ap (λ (t : Bool). if eqb w v then on else t) (h w a)

  -- a list whose first sets alone changed
  in_tells : {r : Reading} (B S G : ℕ → Bool) → Tells k r → (i ≡ at_ready → ⊥) →
      ((w : ℕ) → InV w → in_set (get_or k' at_budget 0) w ≡ B w) → ((w : ℕ) → InV w → in_set (get_or k' at_spare 0) w ≡ S w) → ((w : ℕ) → InV w → in_set (get_or k' at_holding 0) w ≡ G w) →
      Tells k' (record { core = r.core; budget = B; spare = S; holding = G; ready = r.ready; held = r.held; done = r.done; place = r.place })
  in_tells B S G t ne hb hs hg = record {
    sized = in_sized t.sized;
    cores = λ c w l a. in_set_law (at_cores + c) (λ e. omega arith) w ∙ t.cores c w l a;
    budgets = hb;
    spared = hs;
    some_ready = λ w a. in_set_law at_ready (λ e. ne (sym e)) w ∙ t.some_ready w a;
    holdings = hg;
    tasks = λ w n a c. in_set_law (at_tasks + w) (λ e. omega arith) n ∙ t.tasks w n a c;
    holders = λ w n a c. in_set_law (at_holders + w) (λ e. omega arith) n ∙ t.holders w n a c;
    helds = λ w n a c. p.else_same (at_held + seat w n) (λ e. omega arith) ∙ t.helds w n a c;
    dones = λ w n a c. p.else_same (at_done + seat w n) (λ e. omega arith) ∙ t.dones w n a c;
    places = λ w n a c. p.else_same (at_place + seat w n) (λ e. omega arith) ∙ t.places w n a c;
  }

-- WHAT IS TOLD where v has budget, or not
abbrev pub with_budget : Reading → ℕ → Bool → Reading
with_budget r v on = record { core = r.core; budget = put r.budget v on; spare = r.spare; holding = r.holding; ready = r.ready; held = r.held; done = r.done; place = r.place }

-- where its overrun would count, or not
abbrev pub with_spare : Reading → ℕ → Bool → Reading
with_spare r v on = record { core = r.core; budget = r.budget; spare = put r.spare v on; holding = r.holding; ready = r.ready; held = r.held; done = r.done; place = r.place }

-- where its tasks hold a global mutex, or not
abbrev pub with_holding : Reading → ℕ → Bool → Reading
with_holding r v on = record { core = r.core; budget = r.budget; spare = r.spare; holding = put r.holding v on; ready = r.ready; held = r.held; done = r.done; place = r.place }

-- where (v, n) is ready, or not
abbrev pub with_ready : Reading → ℕ → ℕ → Bool → Reading
with_ready r v n on = record { core = r.core; budget = r.budget; spare = r.spare; holding = r.holding; ready = put_at r.ready v n on; held = r.held; done = r.done; place = r.place }

-- where it holds m
abbrev pub with_held : Reading → ℕ → ℕ → ℕ → Reading
with_held r v n m = record { core = r.core; budget = r.budget; spare = r.spare; holding = r.holding; ready = r.ready; held = put_at r.held v n m; done = r.done; place = r.place }

-- where its job has done d ticks, and q of its sections have ended
abbrev pub with_job : Reading → ℕ → ℕ → ℕ → ℕ → Reading
with_job r v n d q = record { core = r.core; budget = r.budget; spare = r.spare; holding = r.holding; ready = r.ready; held = r.held; done = put_at r.done v n d; place = put_at r.place v n q }

module _ {k k' : List ℕ} {r : Reading} {v : ℕ} {on : Bool} (t : Tells k r) where
  -- v has budget, or not
  pub tells_budget : PutIn k k' at_budget v on → Tells k' (with_budget r v on)
  tells_budget p =
      in_tells p (omega arith) (put r.budget v on) r.spare r.holding t (λ e. omega arith) (in_names p (omega arith) r.budget t.budgets)
      (λ w a. in_set_law p (omega arith) at_spare (λ e. omega arith) w ∙ t.spared w a) (λ w a. in_set_law p (omega arith) at_holding (λ e. omega arith) w ∙ t.holdings w a)

  -- the overrun of v would count, or not
  pub tells_spare : PutIn k k' at_spare v on → Tells k' (with_spare r v on)
  tells_spare p =
      in_tells p (omega arith) r.budget (put r.spare v on) r.holding t (λ e. omega arith) (λ w a. in_set_law p (omega arith) at_budget (λ e. omega arith) w ∙ t.budgets w a)
      (in_names p (omega arith) r.spare t.spared) (λ w a. in_set_law p (omega arith) at_holding (λ e. omega arith) w ∙ t.holdings w a)

  -- the tasks of v hold a global mutex, or not
  pub tells_holding : PutIn k k' at_holding v on → Tells k' (with_holding r v on)
  tells_holding p =
      in_tells p (omega arith) r.budget r.spare (put r.holding v on) t (λ e. omega arith) (λ w a. in_set_law p (omega arith) at_budget (λ e. omega arith) w ∙ t.budgets w a)
      (λ w a. in_set_law p (omega arith) at_spare (λ e. omega arith) w ∙ t.spared w a) (in_names p (omega arith) r.holding t.holdings)

-- A TASK IS READY, OR NOT
module _ {k k' : List ℕ} {r : Reading} {v n : ℕ} {on : Bool} (t : Tells k r) (i : InV v) (p : PutReady k k' v n on) where
  -- the other sets
  ready_set : (j : ℕ) → (j ≡ at_ready → ⊥) → (j ≡ at_tasks + v → ⊥) → (w : ℕ) → in_set (get_or k' j 0) w ≡ in_set (get_or k j 0) w
  ready_set j a c w = ap (λ s. in_set s w) (p.else_same j a c)

  -- the sets are sets
  ready_sized : Sized k'
  ready_sized =
      let z = t.sized in
      record {
        long = p.length_same ∙ z.long;
        sets = λ j l. ⊎_elim (λ e. subst (λ x. get_or k' x 0 < 65536) (sym e) p.is_set)
            (λ ne. subst (λ s. s < 65536) (sym (p.else_same j ne (λ e. omega arith))) (z.sets j l)) (same_or_not j at_ready);
        core_sets = λ c l. subst (λ s. s < 65536) (sym (p.else_same (at_cores + c) (λ e. omega arith) (λ e. omega arith))) (z.core_sets c l);
        few_tasks = at_each (λ w. tasks_cell k' w < 256) v p.few
            (λ w a ne. subst (λ s. s < 256) (sym (p.else_same (at_tasks + w) (λ e. omega arith) (λ e. ne (omega arith)))) (z.few_tasks w a));
        few_holders = λ w a. subst (λ s. s < 256) (sym (p.else_same (at_holders + w) (λ e. omega arith) (λ e. omega arith))) (z.few_holders w a);
      }

  -- which tasks are ready
  ready_tasks_law : (w y : ℕ) → InV w → InN y → in_set (tasks_cell k' w) y ≡ put_at r.ready v n on w y
  ready_tasks_law w y a c =
      ⊎_elim
      (λ e. rw (eq-eqb w v e) (ap (λ z. in_set (tasks_cell k' z) y) e ∙ p.tasks y c ∙ ap (λ (s : Bool). if eqb y n then on else s) (t.tasks v y i c ∙ ap (λ z. r.ready z y) (sym e))))
      (λ ne. rw (ne_eqb w v ne) (ready_set (at_tasks + w) (λ e. omega arith) (λ e. ne (omega arith)) y ∙ t.tasks w y a c))
      (same_or_not w v)

  -- the list with it
  pub tells_ready : Tells k' (with_ready r v n on)
  tells_ready = record {
    sized = ready_sized;
    cores = λ c w l a. ready_set (at_cores + c) (λ e. omega arith) (λ e. omega arith) w ∙ t.cores c w l a;
    budgets = λ w a. ready_set at_budget (λ e. omega arith) (λ e. omega arith) w ∙ t.budgets w a;
    spared = λ w a. ready_set at_spare (λ e. omega arith) (λ e. omega arith) w ∙ t.spared w a;
    some_ready = λ w a. p.names w a ∙ some w a;
    holdings = λ w a. ready_set at_holding (λ e. omega arith) (λ e. omega arith) w ∙ t.holdings w a;
    tasks = ready_tasks_law;
    holders = λ w y a c. ready_set (at_holders + w) (λ e. omega arith) (λ e. omega arith) y ∙ t.holders w y a c;
    helds = λ w y a c. p.else_same (at_held + seat w y) (λ e. omega arith) (λ e. omega arith) ∙ t.helds w y a c;
    dones = λ w y a c. p.else_same (at_done + seat w y) (λ e. omega arith) (λ e. omega arith) ∙ t.dones w y a c;
    places = λ w y a c. p.else_same (at_place + seat w y) (λ e. omega arith) (λ e. omega arith) ∙ t.places w y a c;
  }
    where
      some : (w : ℕ) → InV w → (if eqb w v then any_to most_n (in_set (tasks_cell k' v)) else in_set (get_or k at_ready 0) w) ≡ any_to most_n (put_at r.ready v n on w)
      some w a =
          ⊎_elim
          (λ e. ap (λ (s : Bool). if s then any_to most_n (in_set (tasks_cell k' v)) else in_set (get_or k at_ready 0) w) (eq-eqb w v e)
          ∙ any_tasks {f = in_set (tasks_cell k' v)} {g = put_at r.ready v n on w} (λ y c. ap (λ z. in_set (tasks_cell k' z) y) (sym e) ∙ ready_tasks_law w y a c))
          (λ ne. ap (λ (s : Bool). if s then any_to most_n (in_set (tasks_cell k' v)) else in_set (get_or k at_ready 0) w) (ne_eqb w v ne)
          ∙ t.some_ready w a ∙ any_tasks {f = r.ready w} {g = put_at r.ready v n on w} (λ y c. sym (put_else r.ready v n on w y (λ q. ne q.0))))
          (same_or_not w v)

-- A TASK HOLDS m, 0 for nothing
module _ {k k' : List ℕ} {r : Reading} {v n m : ℕ} (t : Tells k r) (i : InV v) (j : InN n) (p : PutHeld k k' v n m) where
  -- the other sets
  held_set : (x : ℕ) → (x ≡ at_holders + v → ⊥) → (x ≡ at_held + seat v n → ⊥) → (w : ℕ) → in_set (get_or k' x 0) w ≡ in_set (get_or k x 0) w
  held_set x a c w = ap (λ s. in_set s w) (p.else_same x a c)

  -- the sets are sets
  held_sized : Sized k'
  held_sized =
      let z = t.sized in
      record {
        long = p.length_same ∙ z.long;
        sets = λ x l. subst (λ s. s < 65536) (sym (p.else_same x (λ e. omega arith) (λ e. omega arith))) (z.sets x l);
        core_sets = λ c l. subst (λ s. s < 65536) (sym (p.else_same (at_cores + c) (λ e. omega arith) (λ e. omega arith))) (z.core_sets c l);
        few_tasks = λ w a. subst (λ s. s < 256) (sym (p.else_same (at_tasks + w) (λ e. omega arith) (λ e. omega arith))) (z.few_tasks w a);
        few_holders = at_each (λ w. holders_cell k' w < 256) v p.few
            (λ w a ne. subst (λ s. s < 256) (sym (p.else_same (at_holders + w) (λ e. ne (omega arith)) (λ e. omega arith))) (z.few_holders w a));
      }

  -- what each task holds
  held_cells : (w y : ℕ) → InV w → InN y → held_cell k' w y ≡ put_at r.held v n m w y
  held_cells = cells_put k' at_held r.held v n m i j p.held (λ w y a c ne. p.else_same (at_held + seat w y) (λ e. omega arith) (λ e. ne (omega arith)) ∙ t.helds w y a c)

  -- which tasks hold one
  held_holders : (w y : ℕ) → InV w → InN y → in_set (holders_cell k' w) y ≡ not (eqb (put_at r.held v n m w y) 0)
  held_holders w y a c =
      ⊎_elim
      (λ e. rw (eq-eqb w v e) (ap (λ z. in_set (holders_cell k' z) y) e ∙ p.holders y c ∙ ⊎_elim
      (λ q. rw (eq-eqb y n q)) (λ ne. rw (ne_eqb y n ne) (t.holders v y i c ∙ ap (λ z. not (eqb (r.held z y) 0)) (sym e))) (same_or_not y n)))
      (λ ne. rw (ne_eqb w v ne) (held_set (at_holders + w) (λ z. ne (omega arith)) (λ z. omega arith) y ∙ t.holders w y a c))
      (same_or_not w v)

  -- the list with it
  pub tells_held : Tells k' (with_held r v n m)
  tells_held = record {
    sized = held_sized;
    cores = λ c w l a. held_set (at_cores + c) (λ e. omega arith) (λ e. omega arith) w ∙ t.cores c w l a;
    budgets = λ w a. held_set at_budget (λ e. omega arith) (λ e. omega arith) w ∙ t.budgets w a;
    spared = λ w a. held_set at_spare (λ e. omega arith) (λ e. omega arith) w ∙ t.spared w a;
    some_ready = λ w a. held_set at_ready (λ e. omega arith) (λ e. omega arith) w ∙ t.some_ready w a;
    holdings = λ w a. held_set at_holding (λ e. omega arith) (λ e. omega arith) w ∙ t.holdings w a;
    tasks = λ w y a c. held_set (at_tasks + w) (λ e. omega arith) (λ e. omega arith) y ∙ t.tasks w y a c;
    holders = held_holders;
    helds = held_cells;
    dones = λ w y a c. p.else_same (at_done + seat w y) (λ e. omega arith) (λ e. omega arith) ∙ t.dones w y a c;
    places = λ w y a c. p.else_same (at_place + seat w y) (λ e. omega arith) (λ e. omega arith) ∙ t.places w y a c;
  }

-- THE JOB OF A TASK has done d ticks, and q of its sections have ended
pub record PutJob (k k' : List ℕ) (v n d q : ℕ) : Type 0 where
  pub length_same : length k' ≡ length k
  pub else_same : (j : ℕ) → (j ≡ at_done + seat v n → ⊥) → (j ≡ at_place + seat v n → ⊥) → get_or k' j 0 ≡ get_or k j 0
  pub done_is : done_cell k' v n ≡ d
  pub place_is : place_cell k' v n ≡ q

-- two stores do it
pub job_put : {k : List ℕ} (v n d q : ℕ) → InV v → InN n → Sized k → PutJob k (set (set k (at_done + seat v n) d) (at_place + seat v n) q) v n d q
job_put {k} v n d q i j z =
    let l = z.long in
    let k₁ = set k (at_done + seat v n) d in
    let e : length k₁ ≡ length k = length-set k (at_done + seat v n) d in
    record {
      length_same = length-set k₁ (at_place + seat v n) q ∙ e;
      else_same = λ x a c. get_or-set_other k₁ (at_place + seat v n) x q 0 c ∙ get_or-set_other k (at_done + seat v n) x d 0 a;
      done_is = get_or-set_other k₁ (at_place + seat v n) (at_done + seat v n) q 0 (λ y. omega arith) ∙ get_or-set_same k (at_done + seat v n) d 0 (omega arith);
      place_is = get_or-set_same k₁ (at_place + seat v n) q 0 (omega arith);
    }

module _ {k k' : List ℕ} {r : Reading} {v n d q : ℕ} (t : Tells k r) (i : InV v) (j : InN n) (p : PutJob k k' v n d q) where
  -- all sets
  job_set : (x : ℕ) → (x ≡ at_done + seat v n → ⊥) → (x ≡ at_place + seat v n → ⊥) → (w : ℕ) → in_set (get_or k' x 0) w ≡ in_set (get_or k x 0) w
  job_set x a c w = ap (λ s. in_set s w) (p.else_same x a c)

  -- the sets are sets
  job_sized : Sized k'
  job_sized =
      let z = t.sized in
      record {
        long = p.length_same ∙ z.long;
        sets = λ x l. subst (λ s. s < 65536) (sym (p.else_same x (λ e. omega arith) (λ e. omega arith))) (z.sets x l);
        core_sets = λ c l. subst (λ s. s < 65536) (sym (p.else_same (at_cores + c) (λ e. omega arith) (λ e. omega arith))) (z.core_sets c l);
        few_tasks = λ w a. subst (λ s. s < 256) (sym (p.else_same (at_tasks + w) (λ e. omega arith) (λ e. omega arith))) (z.few_tasks w a);
        few_holders = λ w a. subst (λ s. s < 256) (sym (p.else_same (at_holders + w) (λ e. omega arith) (λ e. omega arith))) (z.few_holders w a);
      }

  -- the list with it
  pub tells_job : Tells k' (with_job r v n d q)
  tells_job = record {
    sized = job_sized;
    cores = λ c w l a. job_set (at_cores + c) (λ e. omega arith) (λ e. omega arith) w ∙ t.cores c w l a;
    budgets = λ w a. job_set at_budget (λ e. omega arith) (λ e. omega arith) w ∙ t.budgets w a;
    spared = λ w a. job_set at_spare (λ e. omega arith) (λ e. omega arith) w ∙ t.spared w a;
    some_ready = λ w a. job_set at_ready (λ e. omega arith) (λ e. omega arith) w ∙ t.some_ready w a;
    holdings = λ w a. job_set at_holding (λ e. omega arith) (λ e. omega arith) w ∙ t.holdings w a;
    tasks = λ w y a c. job_set (at_tasks + w) (λ e. omega arith) (λ e. omega arith) y ∙ t.tasks w y a c;
    holders = λ w y a c. job_set (at_holders + w) (λ e. omega arith) (λ e. omega arith) y ∙ t.holders w y a c;
    helds = λ w y a c. p.else_same (at_held + seat w y) (λ e. omega arith) (λ e. omega arith) ∙ t.helds w y a c;
    dones = cells_put k' at_done r.done v n d i j p.done_is (λ w y a c ne. p.else_same (at_done + seat w y) (λ e. ne (omega arith)) (λ e. omega arith) ∙ t.dones w y a c);
    places = cells_put k' at_place r.place v n q i j p.place_is (λ w y a c ne. p.else_same (at_place + seat w y) (λ e. omega arith) (λ e. ne (omega arith)) ∙ t.places w y a c);
  }

-- THE TICKS DONE, as a list by seat

-- a list that has f at each seat
pub seat_list : (d : List ℕ) (f : ℕ → ℕ → ℕ) → length d ≡ max_v * most_n → ((v n : ℕ) → InV v → InN n → done_of d v n ≡ f v n) → d ≡ by_seat f
seat_list d f l h = ext_get_or 0 d (by_seat f) (l ∙ sym (seats_long f)) at
  where
    at : (x : ℕ) → x < length d → get_or d x 0 ≡ get_or (by_seat f) x 0
    at x g =
        let v = x / 8 + 1 in
        let n = x % 8 + 1 in
        let i : InV v = record { from = omega arith; to = omega arith } in
        let j : InN n = record { from = omega arith; to = omega arith } in
        let e : x ≡ seat v n - 1 = omega arith in
        ap (λ z. get_or d z 0) e ∙ h v n i j ∙ sym (by_seat_law f v n i j) ∙ ap (λ z. get_or (by_seat f) z 0) (sym e)

-- lists with the same cells of them
pub done_kept : (k k' : List ℕ) → ((v n : ℕ) → InV v → InN n → done_cell k' v n ≡ done_cell k v n) → done_in k' ≡ done_in k
done_kept k k' h = seat_list (done_in k') (λ v n. done_cell k v n) (seats_long (λ v n. done_cell k' v n)) (λ v n i j. by_seat_law (λ v n. done_cell k' v n) v n i j ∙ h v n i j)
