-- What recurs at a tick, by the cells: the tops, the releases and the first miss of the clock.
use Rattle.std.specs.Prelude.{ℕ, zero, suc, ◌+◌, ◌-◌, ◌*◌, ◌/◌, ◌%◌, ◌<◌, ◌≤◌, ◌≡◌, refl, Bool, true, false, ◌&&◌, ◌||◌, eqb, ltb, length, get_or}
use Rattle.std.proofs.Common.{sym, ap₂, subst, ◌∙◌, ⊎_elim, eq-zero-or-pos, arith, le-leb, ne_eqb, ext_get_or}
use Rattle.std.proofs.Math.Path.{ap}
use mathlib.Core.List.{List, [], ◌∷◌, ◌++◌}
use Rattle.std.proofs.Math.Decide.{dec_lt}
use Rattle.std.specs.Prelude.{if◌then◌else◌}
use Rattle.laws.specs.Choice.{when}
use Rattle.laws.specs.Range.{any_to, list_to, flat_to}
use Rattle.laws.specs.RangeLaws.{none_of, list_length}
use Rattle.laws.specs.BoolLaws.{both, clash, miss_left}
use Rattle.laws_picks.specs.Picks.{lowest}
use Rattle.laws_picks.specs.PickLaws.{lowest_le, lowest_passes, lowest_zero}
use Rattle.plan.specs.Limits.{max_v, most_n, max_period}
use Rattle.plan.specs.declared.Policy.{Policy}
use Rattle.plan.specs.declared.OverrunChoice.{OverrunChoice}
use Rattle.board_seats.specs.Seats.{is_v, is_n, seat}
use Rattle.board_rules.specs.declared.Event.TheVariants.{Top}
use Rattle.board_rules.specs.declared.Next.{Next}
use Rattle.board_rules.specs.declared.Next.TheVariants.{Nobody}
use Rattle.board_rules.specs.Board.{next_of}
use Rattle.board_rules.specs.Facts.{Facts}
use Rattle.board_rules.specs.View.{facts_in}
use Rattle.board_keeps.specs.Fair.{InV, InN}
use Rattle.board_viewcells.specs.PartLaws.{name_at, flat_length, flat_at}
use Rattle.clock_rules.specs.Clock.{Timing, done_of, by_seat, recurs, is_unfinished, tops, is_released, misses, missed, released}
use Rattle.clock_times.specs.Times.{at_lengths, refill_cell, period_cell, timing_in, Paired}
use Rattle.clock_marks.specs.Marks.{done_cell, done_in}
use Rattle.clock_nexts.specs.Nexts.{places, place_of, period_at, next_at, task_next, row_at, at_tops, at_jobs, never, is_due, misses_at, misses_in, missed_v, missed_n, Nexts, Tops, Row, Jobs, Periods, Quiet}
use Rattle.clock_nexts.specs.LeastLaws.{due_test}
use Rattle.clock_renews.specs.PartLaws.{nexts_tops, nexts_jobs, nexts_later}

-- A NUMBER FOR EACH SEAT
by_seat_law : (f : ℕ → ℕ → ℕ) (v n : ℕ) → InV v → InN n → done_of (by_seat f) v n ≡ f v n
by_seat_law f v n i j =
    let e : seat v n - 1 ≡ (v - 1) * most_n + (n - 1) = omega arith in
    ap (λ k. get_or (by_seat f) k 0) e
    ∙ flat_at most_n (λ x. list_to most_n (λ y. f x y)) (λ x. list_length most_n (λ y. f x y)) max_v v (n - 1) i.from i.to (omega arith)
    ∙ name_at most_n n (λ y. f v y) j

-- a list of numbers by seat is one by its own numbers
seats_same : (f : ℕ → ℕ → ℕ) (d : List ℕ) → length d ≡ max_v * most_n → ((v n : ℕ) → InV v → InN n → f v n ≡ done_of d v n) → by_seat f ≡ d
seats_same f d e h =
    let z = flat_length most_n (λ x. list_to most_n (λ y. f x y)) (λ x. list_length most_n (λ y. f x y)) max_v in
    ext_get_or 0 (by_seat f) d (z ∙ sym e) (λ i l. at i (omega arith))
  where
    at : (i : ℕ) → i < max_v * most_n → get_or (by_seat f) i 0 ≡ get_or d i 0
    at i l =
        let iv : InV (i / 8 + 1) = record { from = omega arith; to = omega arith } in
        let jn : InN (i % 8 + 1) = record { from = omega arith; to = omega arith } in
        let q : seat (i / 8 + 1) (i % 8 + 1) - 1 ≡ i = omega arith in
        ap (λ k. get_or (by_seat f) k 0) (sym q)
        ∙ by_seat_law f (i / 8 + 1) (i % 8 + 1) iv jn
        ∙ h (i / 8 + 1) (i % 8 + 1) iv jn
        ∙ ap (λ k. get_or d k 0) q

-- lists over the names from 1 to n that agree
flat_same : {B : Type 0} (n : ℕ) (f g : ℕ → List B) → ((k : ℕ) → 0 < k → k ≤ n → f k ≡ g k) → flat_to n f ≡ flat_to n g
unfolding flat_to
flat_same zero f g h = refl
flat_same (suc n) f g h = ap₂ (λ a b. a ++ b) (flat_same n f g (λ k a b. h k a (omega arith))) (h (suc n) (omega arith) (omega arith))

flat_none : {B : Type 0} (n : ℕ) (f : ℕ → List B) → ((k : ℕ) → 0 < k → k ≤ n → f k ≡ []) → flat_to n f ≡ []
unfolding flat_to
flat_none zero f h = refl
flat_none (suc n) f h = rw (flat_none n f (λ k a b. h k a (omega arith)), h (suc n) (omega arith) (omega arith))

-- tests that agree on the names from 1 to n
any_same : (n : ℕ) (f g : ℕ → Bool) → ((k : ℕ) → 0 < k → k ≤ n → f k ≡ g k) → any_to n f ≡ any_to n g
unfolding any_to
any_same zero f g h = refl
any_same (suc n) f g h = ap₂ ◌||◌ (h (suc n) (omega arith) (omega arith)) (any_same n f g (λ k a b. h k a (omega arith)))

-- the lowest of one number more, by those before it
abbrev lowest_of : Bool → ℕ → Bool → ℕ → ℕ
lowest_of a l b m = elim a [ true ↦ l | false ↦ when b m ]

lowest_same : (n : ℕ) (f g : ℕ → Bool) → ((k : ℕ) → 0 < k → k ≤ n → f k ≡ g k) → lowest n f ≡ lowest n g
unfolding lowest
lowest_same zero f g h = refl
lowest_same (suc n) f g h =
    ap (λ (a : Bool). lowest_of a (lowest n f) (f (suc n)) (suc n)) (any_same n f g (λ k a b. h k a (omega arith)))
    ∙ ap (λ l. lowest_of (any_to n g) l (f (suc n)) (suc n)) (lowest_same n f g (λ k a b. h k a (omega arith)))
    ∙ ap (λ (b : Bool). lowest_of (any_to n g) (lowest n g) b (suc n)) (h (suc n) (omega arith) (omega arith))

-- THE FIRST TASK THAT PASSES, of the first VCPU that has one
abbrev first_v : (ℕ → ℕ → Bool) → ℕ
first_v f = lowest max_v (λ v. any_to most_n (f v))

abbrev first_in : (ℕ → ℕ → Bool) → ℕ → Next
first_in f v = if eqb v 0 then Nobody else next_of v (lowest most_n (f v))

module _ (f g : ℕ → ℕ → Bool) (h : (v n : ℕ) → InV v → InN n → f v n ≡ g v n) where
  first_v_law : first_v f ≡ first_v g
  first_v_law =
      lowest_same max_v (λ v. any_to most_n (f v)) (λ v. any_to most_n (g v))
      (λ v a b. any_same most_n (f v) (g v) (λ n c d. h v n (record { from = a; to = b }) (record { from = c; to = d })))

  first_in_law : (v : ℕ) → v ≤ max_v → first_in f v ≡ first_in g v
  first_in_law v l =
      ⊎_elim
      (λ z. rw z)
      (λ a. ap (λ n. if eqb v 0 then Nobody else next_of v n) (lowest_same most_n (f v) (g v) (λ n c d. h v n (record { from = a; to = l }) (record { from = c; to = d }))))
      (eq-zero-or-pos v)

  -- where the tests agree it is the same
  first_same : first_in f (first_v f) ≡ first_in g (first_v g)
  first_same = ap (first_in f) first_v_law ∙ first_in_law (first_v g) (lowest_le max_v (λ v. any_to most_n (g v)))

-- THE PLACES of a VCPU and of a task
is_v_law : (v : ℕ) → InV v → is_v v ≡ true
is_v_law v i = both _ _ (le-leb 1 v i.from) (le-leb v max_v i.to)

is_n_law : (n : ℕ) → InN n → is_n n ≡ true
is_n_law n i = both _ _ (le-leb 1 n i.from) (le-leb n most_n i.to)

task_period : (x : List ℕ) (v n : ℕ) → InN n → period_cell x v n ≡ period_at x (place_of (seat v n))
task_period x v n j = ap (λ i. get_or x i 0) (omega arith)

task_lengths : (F : Facts) (x : List ℕ) (v n : ℕ) → InV v → InN n → (timing_in F x).lengths v n ≡ get_or x (at_lengths - 1 + seat v n) 0
unfolding timing_in when
task_lengths F x v n i j = rw (is_v_law v i, is_n_law n j) (ap (λ c. get_or x c 0) (omega arith))

-- no period of a plan is too large
pub paired_periods : {view x : List ℕ} → Paired view x → Periods x
paired_periods {view} {x} p = record { long = p.long; to = λ i l. at i l (dec_lt i max_v) }
  where
    at : (i : ℕ) → i < places → Dec (i < max_v) → period_at x i ≤ max_period
    at i l (yes a) =
        let e : refill_cell x (i + 1) ≡ period_at x i = ap (λ j. get_or x j 0) (omega arith) in
        let h = p.refill_to (i + 1) (record { from = omega arith; to = omega arith }) in
        omega arith
    at i l (no a) =
        let s = i - 16 in
        let e : period_cell x (s / 8 + 1) (s % 8 + 1) ≡ period_at x i = ap (λ j. get_or x j 0) (omega arith) in
        let h = p.period_to (s / 8 + 1) (s % 8 + 1) (record { from = omega arith; to = omega arith }) (record { from = omega arith; to = omega arith }) in
        omega arith

both_again : (a b c : Bool) → ((a && b) && (a && c)) ≡ ((a && b) && c)
both_again true b c = refl
both_again false b c = refl

-- A TICK AT WHICH NO JOB IS RELEASED
module _ (T : Timing) (t : ℕ) (none : (v n : ℕ) → InV v → InN n → is_released T t v n ≡ false) where
  none_missing : (d : List ℕ) (v : ℕ) → InV v → any_to most_n (misses T t d v) ≡ false
  none_missing d v i =
      none_of most_n (misses T t d v) (λ n a b. miss_left (is_released T t v n) (is_unfinished T d v n) (none v n i (record { from = a; to = b })))

  no_miss : (d : List ℕ) → missed T t d ≡ Nobody
  unfolding missed
  no_miss d =
      rw ((lowest_zero max_v (λ v. any_to most_n (misses T t d v))).0 (none_of max_v (λ v. any_to most_n (misses T t d v)) (λ v a b. none_missing d v (record { from = a; to = b }))))

  no_release : (d : List ℕ) → length d ≡ max_v * most_n → released T t d ≡ d
  unfolding released
  no_release d e =
      seats_same (λ v n. if is_released T t v n then 0 else done_of d v n) d e (λ v n i j. ap (λ c. if c then 0 else done_of d v n) (none v n i j))

-- the timing of a plan, by its view and its times
abbrev pub timed : Policy → OverrunChoice → List ℕ → List ℕ → Timing
timed p o view x = timing_in (facts_in p o view) x

-- WHAT RECURS, of a plan with the view and the times x, of which y says when each recurs next
module _ (p : Policy) (o : OverrunChoice) {view x y : List ℕ} {t : ℕ} (paired : Paired view x) (early : t < never) where
  module _ (next : Tops x y t) where
    -- the budget of v is renewed
    top_due : (v : ℕ) → InV v → ((timed p o view x).facts.has_vcpu v && recurs t ((timed p o view x).refill v)) ≡ is_due y t (v - 1)
    unfolding timing_in facts_in when
    top_due v i = rw (paired.some_refill v i, is_v_law v i) (due_test (next.nexts (v - 1) (omega arith)) early)

    -- the tops of tick t
    pub tops_due : tops (timed p o view x) t ≡ flat_to max_v (λ v. if is_due y t (v - 1) then Top v ∷ [] else [])
    unfolding tops
    tops_due =
        flat_same max_v _ (λ v. if is_due y t (v - 1) then Top v ∷ [] else [])
        (λ v a b. ap (λ c. if c then Top v ∷ [] else []) (top_due v (record { from = a; to = b })))

  module _ (next : Jobs x y t) where
    -- a job of (v, n) is released
    pub release_due : (v n : ℕ) → InV v → InN n → is_released (timed p o view x) t v n ≡ is_due y t (place_of (seat v n))
    unfolding timing_in facts_in when
    release_due v n i j = rw (paired.some_period v n i j, is_v_law v i, is_n_law n j, task_period x v n j) (due_test ((next.rows v i).nexts n j) early)

    module _ (k : List ℕ) where
      -- a job of (v, n) is unfinished when its next is released
      pub misses_due : (v n : ℕ) → InV v → InN n → misses (timed p o view x) t (done_in k) v n ≡ misses_at x k y t v n
      misses_due v n i j =
          both_again ((timed p o view x).facts.has_task v n) (recurs t ((timed p o view x).period v n)) (ltb (done_of (done_in k) v n) ((timed p o view x).lengths v n))
          ∙ ap₂ ◌&&◌ (release_due v n i j) (ap₂ ltb (by_seat_law (λ w m. done_cell k w m) v n i j) (task_lengths (facts_in p o view) x v n i j))

      missed_due : missed (timed p o view x) t (done_in k) ≡ first_in (misses_at x k y t) (missed_v x k y t)
      unfolding missed
      missed_due = first_same (misses (timed p o view x) t (done_in k)) (misses_at x k y t) misses_due

      -- the first miss of tick t is (v, n)
      pub missed_first : {v n : ℕ} → v ≡ missed_v x k y t → 0 < v → n ≡ missed_n x k y t v → missed (timed p o view x) t (done_in k) ≡ next_of v n
      missed_first {v} {n} e a q = missed_due ∙ ap (first_in (misses_at x k y t)) (sym e) ∙ rw (ne_eqb v 0 (λ z. omega arith)) (ap (next_of v) (sym q))

      -- nobody misses
      pub missed_nobody : {v : ℕ} → v ≡ missed_v x k y t → v ≡ 0 → missed (timed p o view x) t (done_in k) ≡ next_of 0 0
      missed_nobody {v} e z = missed_due ∙ ap (first_in (misses_at x k y t)) (sym e ∙ z)

-- a VCPU with a miss has a first task with one
pub missed_some : (x k y : List ℕ) (t : ℕ) {v n : ℕ} → v ≡ missed_v x k y t → 0 < v → n ≡ missed_n x k y t v → 0 < n
missed_some x k y t {v} {n} e a q =
    ⊎_elim
    (λ z. absurd (clash (ap (misses_in x k y t) e ∙ lowest_passes max_v (misses_in x k y t) (subst (λ c. 0 < c) e a)) ((lowest_zero most_n (misses_at x k y t v)).1 (sym q ∙ z))))
    (λ l. l)
    (eq-zero-or-pos n)

-- BEFORE A BOUND nothing of its kind is due
module _ {x y : List ℕ} {t : ℕ} where
  pub no_top_due : Tops x y t → t < get_or y at_tops 0 → (i : ℕ) → i < max_v → is_due y t i ≡ false
  no_top_due h l i m = ne_eqb (next_at y i) t (λ e. let z = h.tops_to_law i m in omega arith)

  -- in a row
  pub no_row_due : {v : ℕ} → Row x y t v → t < row_at y v → (n : ℕ) → InN n → is_due y t (place_of (seat v n)) ≡ false
  no_row_due {v} h l n j = ne_eqb (task_next y v n) t (λ e. let z = h.row_to n j in omega arith)

  -- so no job of it is missed
  pub no_row_misses : (k : List ℕ) {v : ℕ} → Row x y t v → t < row_at y v → false ≡ misses_in x k y t v
  no_row_misses k {v} h l =
      sym (none_of most_n (misses_at x k y t v) (λ n a b. miss_left (is_due y t (place_of (seat v n))) _ (no_row_due h l n (record { from = a; to = b }))))

  pub no_job_due : Jobs x y t → t < get_or y at_jobs 0 → (v n : ℕ) → InV v → InN n → is_due y t (place_of (seat v n)) ≡ false
  no_job_due h l v n i j = no_row_due (h.rows v i) (let z = h.jobs_to v i in omega arith) n j

  -- nobody misses
  pub no_job_misses : (k : List ℕ) → Jobs x y t → t < get_or y at_jobs 0 → 0 ≡ missed_v x k y t
  no_job_misses k h l =
      sym ((lowest_zero max_v (misses_in x k y t)).0
      (none_of max_v (misses_in x k y t)
      (λ v a b. sym (no_row_misses k (h.rows v (record { from = a; to = b })) (let z = h.jobs_to v (record { from = a; to = b }) in omega arith)))))

  -- there are no tops
  pub no_tops_due : Tops x y t → t < get_or y at_tops 0 → flat_to max_v (λ v. if is_due y t (v - 1) then Top v ∷ [] else []) ≡ []
  no_tops_due h l =
      flat_none max_v (λ v. if is_due y t (v - 1) then Top v ∷ [] else [])
      (λ v a b. ap (λ c. if c then Top v ∷ [] else []) (no_top_due h l (v - 1) (omega arith)))

-- BEFORE BOTH BOUNDS nothing recurs
module _ (p : Policy) (o : OverrunChoice) {view x y : List ℕ} {t : ℕ} (paired : Paired view x) (next : Nexts x y t) where
  no_recurrence : t < get_or y at_tops 0 → t < get_or y at_jobs 0 → Quiet (timed p o view x) t
  no_recurrence a b = record {
    tops_none = tops_due p o paired early (nexts_tops next) ∙ no_tops_due (nexts_tops next) a;
    missed_none = no_miss (timed p o view x) t none;
    released_none = no_release (timed p o view x) t none;
  }
    where
      early : t < never
      early = let z = next.tops_to_law 0 (omega arith) in let s = next.small 0 (omega arith) in omega arith

      none : (v n : ℕ) → InV v → InN n → is_released (timed p o view x) t v n ≡ false
      none v n i j = release_due p o paired early (nexts_jobs next) v n i j ∙ no_job_due (nexts_jobs next) b v n i j

-- and nothing at any tick from here up to them
pub quiet_until : (p : Policy) (o : OverrunChoice) {view x y : List ℕ} {t : ℕ} → Paired view x → Nexts x y t → (u : ℕ) → t ≤ u → u < get_or y at_tops 0 → u < get_or y at_jobs 0 → Quiet (timed p o view x) u
quiet_until p o paired next u l a b = no_recurrence p o paired (nexts_later u next l (omega arith) (omega arith)) a b
