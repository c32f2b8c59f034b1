-- After a tick of work, and after a release: the job of one task has done another number of ticks.
use Rattle.std.specs.Prelude.{ℕ, ◌+◌, ◌-◌, ◌<◌, ◌≡◌, refl, List, Bool, true, false, ◌&&◌, eqb, ltb, set}
use Rattle.std.proofs.Common.{sym, ap, subst, subst₂, ◌∙◌, ⊎_elim, arith, ltb-true, eqb-true, lt-ltb, le-ltb, eq-eqb, length-set}
use Rattle.std.proofs.Math.Bool.{and-true}
use Rattle.std.proofs.lemmas.Bool.{eqb-false}
use Rattle.laws.specs.BoolLaws.{both_left, both_right, miss_left, miss_right, bool_cases}
use Rattle.board_rules.specs.declared.Board.{Board}
use Rattle.board_rules.specs.declared.Next.TheVariants.{To}
use Rattle.board_rules.specs.Board.{seat, wait_of}
use Rattle.board_keeps.specs.Fair.{InV, InN}
use Rattle.clock_rules.specs.Clock.{Timing, done_of, is_ready, work_done}
use Rattle.clock_times.specs.Times.{Ordered}
use Rattle.clock_marks.specs.Marks.{done_cell, place_cell, done_in, Ended, Mirrors}
use Rattle.clock_marks.specs.Changes.{PutReady}
use Rattle.clock_paced.specs.Paced.{Paced}
use Rattle.clock_steps.specs.InStep.{all_seats, ended_idle}
use Rattle.clock_steps.specs.Done.{by_seat_law, seats_long, done_new, done_else}
use Rattle.clock_steps.specs.Running.{Running}
use Rattle.clock_mirrors.specs.Tells.{Reading, Tells, Says, ready_with, read_on, tells_mirror, mirrors_tell, put_at, put_at_is, put_own, put_else}
use Rattle.clock_mirrors.specs.Writes.{PutJob, with_job, tells_job, tells_ready, seat_list}
use Rattle.clock_mirrors.specs.Places.{place_after, tick_ended, none_ended}

-- two tasks of different seats are two
apart : {w y v n : ℕ} → (seat w y ≡ seat v n → ⊥) → (w ≡ v) × (y ≡ n) → ⊥
apart {w} {y} {v} {n} ne r = ne (ap (λ z. seat z y) r.0 ∙ ap (seat v) r.1)

-- THE TICKS DONE, where one task's are a now
pub done_put : (k : List ℕ) {k' : List ℕ} {r : Reading} (v n a : ℕ) → InV v → InN n → Tells k' r → ((w y : ℕ) → r.done w y ≡ put_at (λ w y. done_cell k w y) v n a w y) → done_in k' ≡ set (done_in k) (seat v n - 1) a
done_put k {k'} {r} v n a i j t h =
    sym (seat_list (set (done_in k) (seat v n - 1) a) (λ w y. done_cell k' w y) (length-set (done_in k) (seat v n - 1) a ∙ seats_long (λ w y. done_cell k w y))
    (all_seats (λ w y. done_of (set (done_in k) (seat v n - 1) a) w y ≡ done_cell k' w y) v n i j
    (done_new (done_in k) v n a i j (seats_long (λ w y. done_cell k w y)) ∙ sym (t.dones v n i j ∙ h v n ∙ put_own (λ w y. done_cell k w y) v n a))
    (λ w y b c ne. done_else (done_in k) v n a i j w y b c ne ∙ by_seat_law (λ w y. done_cell k w y) w y b c ∙ sym (t.dones w y b c ∙ h w y ∙ put_else (λ w y. done_cell k w y) v n a w y (apart ne)))))

-- (v, n) is ready no more, where t holds
abbrev pub PutUnready : Bool → List ℕ → List ℕ → ℕ → ℕ → Type 0
PutUnready true k k' v n = PutReady k k' v n false
PutUnready false k k' v n = k' ≡ k

-- what is said of a job of (v, n) that has done d ticks, q of its sections over, and of the other jobs as before
module _ {T : Timing} {x : List ℕ} {b : Board} {k : List ℕ} (mir : Mirrors T x b k) (v n d q : ℕ) (i : InV v) (j : InN n) (new : Ended x v n d q) where
  -- whoever is told to be ready
  job_says : (R : ℕ → ℕ → Bool) → ((w y : ℕ) → InV w → InN y → R w y ≡ ready_with T b w y (put_at (λ w y. done_cell k w y) v n d w y)) →
      Says T x b (let r = with_job (read_on T b k) v n d q in record { core = r.core; budget = r.budget; spare = r.spare; holding = r.holding; ready = R; held = r.held; done = r.done; place = r.place })
  job_says R hr = record {
    core = λ c w a e. refl;
    budget = λ w a. refl;
    spare = λ w a. refl;
    holding = λ w a. refl;
    ready = hr;
    held = λ w y a c. refl;
    placed = all_seats (λ w y. put_at (λ w y. done_cell k w y) v n d w y < T.lengths w y → Ended x w y (put_at (λ w y. done_cell k w y) v n d w y) (put_at (λ w y. place_cell k w y) v n q w y)) v n i j
        (λ h. subst₂ (λ d q. Ended x v n d q) (sym (put_own (λ w y. done_cell k w y) v n d)) (sym (put_own (λ w y. place_cell k w y) v n q)) new)
        (λ w y a c ne h.
        let e = put_else (λ w y. done_cell k w y) v n d w y (apart ne) in
        subst₂ (λ d q. Ended x w y d q) (sym e) (sym (put_else (λ w y. place_cell k w y) v n q w y (apart ne))) (mir.placed w y a c (subst (λ z. z < T.lengths w y) e h)));
  }

  -- the others are ready as before
  others_ready : (w y : ℕ) → (seat w y ≡ seat v n → ⊥) → ready_with T b w y (done_cell k w y) ≡ ready_with T b w y (put_at (λ w y. done_cell k w y) v n d w y)
  others_ready w y ne = ap (ready_with T b w y) (sym (put_else (λ w y. done_cell k w y) v n d w y (apart ne)))

  -- where (v, n) is ready as it was there is no more to write
  job_still : {k' : List ℕ} → PutJob k k' v n d q → ready_with T b v n (done_cell k v n) ≡ ready_with T b v n d → Mirrors T x b k'
  job_still p h =
      tells_mirror (tells_job (mirrors_tell mir) i j p)
      (job_says (λ w y. ready_with T b w y (done_cell k w y)) (all_seats (λ w y. ready_with T b w y (done_cell k w y) ≡ ready_with T b w y (put_at (λ w y. done_cell k w y) v n d w y)) v n i j
      (h ∙ ap (ready_with T b v n) (sym (put_own (λ w y. done_cell k w y) v n d))) (λ w y a c ne. others_ready w y ne)))

  -- where it is ready, or not, by what is put
  job_ready : {k₁ k' : List ℕ} (on : Bool) → PutJob k k₁ v n d q → PutReady k₁ k' v n on → on ≡ ready_with T b v n d → Mirrors T x b k'
  job_ready on p r h =
      tells_mirror (tells_ready (tells_job (mirrors_tell mir) i j p) i r)
      (job_says (put_at (λ w y. ready_with T b w y (done_cell k w y)) v n on)
      (put_at_is (λ w y. ready_with T b w y (done_cell k w y)) (λ w y. ready_with T b w y (put_at (λ w y. done_cell k w y) v n d w y)) v n on
      (h ∙ ap (ready_with T b v n) (sym (put_own (λ w y. done_cell k w y) v n d)))
      (λ w y a c ne. ap (ready_with T b w y) (sym (put_else (λ w y. done_cell k w y) v n d w y ne)))))

-- A TICK OF WORK of (v, n), which is ready
module _ {T : Timing} {x : List ℕ} {b : Board} {k : List ℕ} (mir : Mirrors T x b k) (o : Ordered x) (v n : ℕ) (i : InV v) (j : InN n) (ready : is_ready T b (done_in k) v n ≡ true) where
  -- as the list says it
  was_ready : ready_with T b v n (done_cell k v n) ≡ true
  was_ready = ap (ready_with T b v n) (sym (by_seat_law (λ w y. done_cell k w y) v n i j)) ∙ ready

  -- its job is unfinished
  was_short : done_cell k v n < T.lengths v n
  was_short =
      ltb-true (done_cell k v n) (T.lengths v n)
      (both_right (T.facts.has_task v n) _ (both_left (T.facts.has_task v n && ltb (done_cell k v n) (T.lengths v n)) (eqb (wait_of b v n) 0) was_ready))

  -- one section more may be over
  one_ended : Ended x v n (done_cell k v n + 1) (place_after x v n (done_cell k v n) (place_cell k v n))
  one_ended = tick_ended o i j (mir.placed v n i j was_short)

  -- the list with it: the task is ready no more where its job is done
  pub work_mirrors : {k₁ k' : List ℕ} → PutJob k k₁ v n (done_cell k v n + 1) (place_after x v n (done_cell k v n) (place_cell k v n)) → PutUnready (eqb (done_cell k v n + 1) (T.lengths v n)) k₁ k' v n → Mirrors T x b k'
  work_mirrors {k₁} {k'} p u = at (eqb (done_cell k v n + 1) (T.lengths v n)) refl u
    where
      at : (t : Bool) → eqb (done_cell k v n + 1) (T.lengths v n) ≡ t → PutUnready t k₁ k' v n → Mirrors T x b k'
      at true e u =
          let z = eqb-true (done_cell k v n + 1) (T.lengths v n) e in
          job_ready mir v n _ _ i j one_ended false p u
          (sym (miss_left (T.facts.has_task v n && ltb (done_cell k v n + 1) (T.lengths v n)) (eqb (wait_of b v n) 0) (miss_right (T.facts.has_task v n) _ (le-ltb (done_cell k v n + 1) (T.lengths v n) (omega arith)))))
      at false e u =
          let z = eqb-false (done_cell k v n + 1) (T.lengths v n) e in
          let h = was_short in
          let l : ltb (done_cell k v n) (T.lengths v n) ≡ ltb (done_cell k v n + 1) (T.lengths v n) = lt-ltb (done_cell k v n) (T.lengths v n) h ∙ sym (lt-ltb (done_cell k v n + 1) (T.lengths v n) (omega arith)) in
          subst (λ y. Mirrors T x b y) (sym u) (job_still mir v n _ _ i j one_ended p (ap (λ (t : Bool). (T.facts.has_task v n && t) && eqb (wait_of b v n) 0) l))

  -- and the ticks done
  pub work_done_law : {k₁ : List ℕ} (k' : List ℕ) (q : ℕ) → PutJob k k₁ v n (done_cell k v n + 1) q → PutUnready (eqb (done_cell k v n + 1) (T.lengths v n)) k₁ k' v n → done_in k' ≡ work_done (done_in k) (To v n)
  work_done_law {k₁} k' q p u =
      at (eqb (done_cell k v n + 1) (T.lengths v n)) u ∙ ap (λ d. set (done_in k) (seat v n - 1) (d + 1)) (sym (by_seat_law (λ w y. done_cell k w y) v n i j))
    where
      t₁ : Tells k₁ (with_job (read_on T b k) v n (done_cell k v n + 1) q)
      t₁ = tells_job (mirrors_tell mir) i j p

      at : (t : Bool) → PutUnready t k₁ k' v n → done_in k' ≡ set (done_in k) (seat v n - 1) (done_cell k v n + 1)
      at true u = done_put k v n (done_cell k v n + 1) i j (tells_ready t₁ i u) (λ w y. refl)
      at false u = ap done_in u ∙ done_put k v n (done_cell k v n + 1) i j t₁ (λ w y. refl)

-- a task whose job has ended waits for none
pub ended_waits_none : {T : Timing} (p : Paced T) {b : Board} (k : List ℕ) → Running T b (done_in k) → (v n : ℕ) → InV v → InN n → done_cell k v n ≡ T.lengths v n → wait_of b v n ≡ 0
ended_waits_none p k g v n i j e = ended_idle p (g.in_step v n i j) (by_seat_law (λ w y. done_cell k w y) v n i j ∙ e)

-- A RELEASE of (v, n), whose job has ended
module _ {T : Timing} (p : Paced T) {x : List ℕ} {b : Board} {k : List ℕ} (mir : Mirrors T x b k) (o : Ordered x) (v n : ℕ) (i : InV v) (j : InN n) {k₁ k' : List ℕ}
    (job : PutJob k k₁ v n 0 0) (r : PutReady k₁ k' v n (ltb 0 (T.lengths v n))) where
  -- the task waits for none
  pub release_mirrors : wait_of b v n ≡ 0 → Mirrors T x b k'
  release_mirrors none = job_ready mir v n 0 0 i j (none_ended o i j) (ltb 0 (T.lengths v n)) job r (⊎_elim has lacks (bool_cases (T.facts.has_task v n)))
    where
      idle : eqb (wait_of b v n) 0 ≡ true
      idle = eq-eqb (wait_of b v n) 0 none

      has : T.facts.has_task v n ≡ true → ltb 0 (T.lengths v n) ≡ ready_with T b v n 0
      has h = rw (h, idle) (sym (and-true (ltb 0 (T.lengths v n))))

      lacks : T.facts.has_task v n ≡ false → ltb 0 (T.lengths v n) ≡ ready_with T b v n 0
      lacks h = rw (h, p.no_length v n h)
