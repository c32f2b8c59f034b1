-- The work of a core's turn: a tick of the picked task's VCPU, the `free` of a finished section, and one more tick done.
use Rattle.std.specs.Prelude.{ℕ, ◌+◌, ◌-◌, ◌<◌, ◌≤◌, ◌≡◌, refl, Bool, true, false, eqb, length, get_or, set}
use Rattle.std.proofs.Math.Path.{ap, subst}
use Rattle.std.proofs.Common.{sym, ◌∙◌, arith, eq-eqb, ne_eqb, length-set, get_or-set_same, get_or-set_other}
use mathlib.Core.List.{List, [], ◌∷◌, ◌++◌}
use Rattle.std.proofs.Math.Logic.{⊎_elim}
use Rattle.std.specs.Prelude.{if◌then◌else◌}
use Rattle.laws.specs.BoolLaws.{same_or_not}
use Rattle.plan.specs.declared.Policy.{Policy}
use Rattle.plan.specs.declared.OverrunChoice.{OverrunChoice}
use Rattle.board_seats.specs.Seats.{seat}
use Rattle.board_rules.specs.View.{facts_in}
use Rattle.board_rules.specs.declared.Board.{Board}
use Rattle.board_rules.specs.declared.Event.TheVariants.{Free, Use}
use Rattle.board_rules.specs.declared.Next.TheVariants.{To}
use Rattle.board_rules.specs.Board.{step}
use Rattle.board_events.specs.Events.{answers, board_by, board_after}
use Rattle.board_keeps.specs.Fair.{InV, InN}
use Rattle.clock_rules.specs.Clock.{Timing, done_of, is_ready, free_of, work, work_done}
use Rattle.clock_rules.specs.Trace.{lines_at}
use Rattle.clock_times.specs.Times.{timing_in, lengths_cell}
use Rattle.clock_marks.specs.Marks.{at_tasks, at_holders, at_done, at_place, at_cores, board_of, run_in, done_in, done_cell, place_cell, Sized, Mirrors}
use Rattle.clock_dues.specs.Picking.{IsOver}
use Rattle.clock_marks.specs.Changes.{PutReady}
use Rattle.clock_supplies.specs.SizedLaws.{sized_done}
use Rattle.clock_mirrors.specs.Writes.{PutJob}
use Rattle.clock_mirrors.specs.Places.{place_after, ends_at}
use Rattle.clock_mirrors.specs.Works.{PutUnready, work_mirrors, work_done_law}
use Rattle.clock_mirrors.specs.Frees.{free_still_ready}
use Rattle.clock_steps.specs.Done.{by_seat_law}
use Rattle.clock_steps.specs.Accepted.{is_refusal, Accepted}
use Rattle.clock_steps.specs.Picked.{is_ready_law}
use Rattle.clock_steps.specs.AskTurn.{Worker}
use Rattle.clock_steps.specs.Running.{Running}
use Rattle.clock_steps.specs.WorkTurn.{work_accepted, work_running}
use Rattle.clock_lines.specs.Told.{RoomAt}
use Rattle.clock_steps.specs.Hands.{any_hands_on}
use Rattle.clock_going.specs.Going.{timing_by, Going, Made}
use Rattle.clock_uses.specs.Making.{made_then, room_begin, room_then}
use Rattle.clock_uses.specs.Using.{Uses}
use Rattle.clock_frees.specs.Freed.{Frees, next_in, freed_answer, lengths_in}
use Rattle.clock_frees.specs.Handing.{hands_after}

-- (v, n) is what some core picked
pub record WorkerOn (T : Timing) (b : Board) (d : List ℕ) (v n : ℕ) : Type 0 where
  pub core : ℕ
  pub worker : Worker T core b d v n

-- ONE MORE TICK DONE

-- the number of ended sections, one more where m ends
abbrev pub place_with : ℕ → ℕ → ℕ
place_with m q = if eqb m 0 then q else q + 1

-- a store of the ticks done alone
pub job_done : {k k' : List ℕ} {v n m d : ℕ} → InV v → InN n → Sized k → k' ≡ set k (at_done + seat v n) d → m ≡ 0 → PutJob k k' v n d (place_with m (place_cell k v n))
job_done {k} {k'} {v} {n} {m} {d} i j z f e =
    subst (λ y. PutJob k y v n d (place_with m (place_cell k v n))) (sym f) (record {
      length_same = length-set k (at_done + seat v n) d;
      else_same = λ x a c. get_or-set_other k (at_done + seat v n) x d 0 a;
      done_is = get_or-set_same k (at_done + seat v n) d 0 (let l = z.long in omega arith);
      place_is = get_or-set_other k (at_done + seat v n) (at_place + seat v n) d 0 (λ y. omega arith) ∙ ap (λ (t : Bool). if t then place_cell k v n else place_cell k v n + 1) (sym (eq-eqb m 0 e));
    })

-- before a store of the sections ended
module _ {k k₁ : List ℕ} {v n : ℕ} (d : ℕ) (i : InV v) (j : InN n) (z : Sized k) (f : k₁ ≡ set k (at_done + seat v n) d) where
  pub place_before : place_cell k₁ v n ≡ place_cell k v n
  place_before = ap (λ y. place_cell y v n) f ∙ get_or-set_other k (at_done + seat v n) (at_place + seat v n) d 0 (λ y. omega arith)

  -- the list is sized
  pub sized_before : Sized k₁
  sized_before = subst Sized (sym f) (sized_done z v n d i j)

  -- both stores
  pub job_ended : {k' : List ℕ} {m q : ℕ} → q ≡ place_cell k₁ v n → k' ≡ set k₁ (at_place + seat v n) (q + 1) → (m ≡ 0 → ⊥) → PutJob k k' v n d (place_with m (place_cell k v n))
  job_ended {k'} {m} {q} e h nz =
      let l = z.long in
      let l₁ : length k₁ ≡ length k = ap length f ∙ length-set k (at_done + seat v n) d in
      subst (λ y. PutJob k y v n d (place_with m (place_cell k v n))) (sym h) (record {
        length_same = length-set k₁ (at_place + seat v n) (q + 1) ∙ l₁;
        else_same = λ x a c. get_or-set_other k₁ (at_place + seat v n) x (q + 1) 0 c ∙ ap (λ y. get_or y x 0) f ∙ get_or-set_other k (at_done + seat v n) x d 0 a;
        done_is = get_or-set_other k₁ (at_place + seat v n) (at_done + seat v n) (q + 1) 0 (λ y. omega arith) ∙ ap (λ y. done_cell y v n) f ∙ get_or-set_same k (at_done + seat v n) d 0 (omega arith);
        place_is = get_or-set_same k₁ (at_place + seat v n) (q + 1) 0 (omega arith) ∙ ap (λ y. y + 1) (e ∙ place_before)
            ∙ ap (λ (t : Bool). if t then place_cell k v n else place_cell k v n + 1) (sym (ne_eqb m 0 nz));
      })

-- the list stays sized
pub job_sized : {k k' : List ℕ} {v n d q : ℕ} → Sized k → InV v → InN n → PutJob k k' v n d q → Sized k'
job_sized {k} {k'} {v} {n} z i j p = record {
  long = p.length_same ∙ z.long;
  sets = λ x l. subst (λ s. s < 65536) (sym (p.else_same x (λ e. omega arith) (λ e. omega arith))) (z.sets x l);
  core_sets = λ c l. subst (λ s. s < 65536) (sym (p.else_same (at_cores + c) (λ e. omega arith) (λ e. omega arith))) (z.core_sets c l);
  few_tasks = λ w a. subst (λ s. s < 256) (sym (p.else_same (at_tasks + w) (λ e. omega arith) (λ e. omega arith))) (z.few_tasks w a);
  few_holders = λ w a. subst (λ s. s < 256) (sym (p.else_same (at_holders + w) (λ e. omega arith) (λ e. omega arith))) (z.few_holders w a);
}

-- the job of (v, n) has done one tick more, a section of it has ended where m is not 0, and the task is ready no more where its job is done
pub record OneMore (x : List ℕ) (v n m : ℕ) (k k' : List ℕ) : Type 0 where
  pub with_job_law : List ℕ
  pub job : PutJob k with_job_law v n (done_cell k v n + 1) (place_with m (place_cell k v n))
  pub unready : PutUnready (eqb (done_cell k v n + 1) (lengths_cell x v n)) with_job_law k' v n

-- r ticks were done, and e are the lengths
module _ (x : List ℕ) (m : ℕ) {k k₁ : List ℕ} {v n r s e : ℕ} (i : InV v) (j : InN n) (er : r ≡ done_cell k v n) (es : s ≡ seat v n) (ee : e ≡ get_or x (159 + s) 0)
    (p : PutJob k k₁ v n (r + 1) (place_with m (place_cell k v n))) where
  -- as the times say them
  cell_is : e ≡ lengths_cell x v n
  cell_is = ee ∙ ap (λ z. get_or x z 0) {x = 159 + s} {y = 160 + (seat v n - 1)} (omega arith)

  -- as the list says it
  job_now : PutJob k k₁ v n (done_cell k v n + 1) (place_with m (place_cell k v n))
  job_now = subst (λ d. PutJob k k₁ v n (d + 1) (place_with m (place_cell k v n))) er p

  -- the job is done
  pub more_last : {k' : List ℕ} → r + 1 ≡ e → PutReady k₁ k' v n false → OneMore x v n m k k'
  more_last {k'} q u = record {
    with_job_law = k₁;
    job = job_now;
    unready = subst (λ (t : Bool). PutUnready t k₁ k' v n) (sym (eq-eqb (done_cell k v n + 1) (lengths_cell x v n) (ap (λ d. d + 1) (sym er) ∙ q ∙ cell_is))) u;
  }

  -- or not
  pub more_on : (r + 1 ≡ e → ⊥) → OneMore x v n m k k₁
  more_on q = record {
    with_job_law = k₁;
    job = job_now;
    unready = subst (λ (t : Bool). PutUnready t k₁ k₁ v n) (sym (ne_eqb (done_cell k v n + 1) (lengths_cell x v n) (λ z. q (ap (λ d. d + 1) er ∙ z ∙ sym cell_is)))) refl;
  }

-- THE WORK
module _ {p : Policy} {o : OverrunChoice} {t x ls os : List ℕ} {ss : List Bool} {hs ws k : List ℕ} (g : Going p o t x ls os ss hs ws k) (v n : ℕ)
    (c : WorkerOn (timing_by p o t x) (board_of ls os ss hs ws) (done_in k) v n) (on : Bool) (i : ℕ) (a : List ℕ) (at : ℕ)
    (h : RoomAt on (lines_at (facts_in p o t) i (board_of ls os ss hs ws) (work (timing_by p o t x) (done_in k) (To v n))) a at) where
  pub work_v : InV v
  work_v = c.worker.chosen.v_in

  -- its task too
  pub work_n : InN n
  work_n = c.worker.chosen.n_in

  -- its use is not refused
  pub work_uses : Uses (facts_in p o t) (board_of ls os ss hs ws) v
  unfolding timing_in
  work_uses = (work_accepted g.paced c.core g.running (To v n) c.worker).0

  -- there is room for the use
  pub use_fits : RoomAt on (lines_at (facts_in p o t) i (board_of ls os ss hs ws) (Use v 1 ∷ [])) a at
  use_fits = room_begin (facts_in p o t) on i (run_in ls os ss hs ws k) (Use v 1 ∷ []) (free_of v n ((timing_by p o t x).ends v n (done_of (done_in k) v n + 1))) a at h

  -- AFTER THE USE
  module _ {ls₁ os₁ : List ℕ} {ss₁ : List Bool} {k₁ : List ℕ} (g₁ : Going p o t x ls₁ os₁ ss₁ hs ws k₁) {a₁ : List ℕ} {w₁ : ℕ}
      (m₁ : Made (facts_in p o t) on i (run_in ls os ss hs ws k) (run_in ls₁ os₁ ss₁ hs ws k₁) (Use v 1 ∷ []) a at a₁ w₁) (d₁ : done_in k₁ ≡ done_in k) where
    -- the ticks done
    cell_now : (k₂ : List ℕ) → done_in k₂ ≡ done_in k → done_cell k₂ v n ≡ done_of (done_in k) v n
    cell_now k₂ e = sym (by_seat_law (λ u z. done_cell k₂ u z) v n work_v work_n) ∙ ap (λ d. done_of d v n) e

    -- its job is unfinished
    short_now : (k₂ : List ℕ) → done_in k₂ ≡ done_in k → done_cell k₂ v n < lengths_cell x v n
    short_now k₂ e =
        let r = is_ready_law (timing_by p o t x) (board_of ls os ss hs ws) (done_in k) v n c.worker.chosen.ready in
        let s = r.unfinished in
        let l = lengths_in p o t x v n work_v work_n in
        let f = cell_now k₂ e in
        omega arith

    -- they can be counted on
    pub over_fits : done_cell k₁ v n ≤ 17000000
    over_fits = let s = short_now k₁ d₁ in let l = g.paired.lengths_to v n work_v work_n in omega arith

    module _ (m : ℕ) (q : IsOver x k₁ v n m) where
      -- m is what ends
      over_is : m ≡ (timing_by p o t x).ends v n (done_of (done_in k) v n + 1)
      over_is =
          q (facts_in p o t) (board_of ls₁ os₁ ss₁ hs ws) g.ordered g₁.mirrors (short_now k₁ d₁)
          ∙ ap (λ y. (timing_by p o t x).ends v n (y + 1)) (cell_now k₁ d₁)

      -- so the events are these
      work_is : work (timing_by p o t x) (done_in k) (To v n) ≡ Use v 1 ∷ free_of v n m
      work_is = ap (λ y. Use v 1 ∷ free_of v n y) (sym over_is)

      -- and there is room for them
      room_is : RoomAt on (lines_at (facts_in p o t) i (board_of ls os ss hs ws) ((Use v 1 ∷ []) ++ free_of v n m)) a at
      room_is = subst (λ es. RoomAt on (lines_at (facts_in p o t) i (board_of ls os ss hs ws) es) a at) work_is h

      -- there is room for the `free`
      pub free_fits : RoomAt on (lines_at (facts_in p o t) i (board_of ls₁ os₁ ss₁ hs ws) (free_of v n m)) a₁ w₁
      free_fits = room_then (facts_in p o t) on i (run_in ls os ss hs ws k) (Use v 1 ∷ []) (free_of v n m) a at room_is m₁

      -- and it is not refused
      pub work_frees : Frees (facts_in p o t) (board_of ls₁ os₁ ss₁ hs ws) v n m
      unfolding timing_in board_by
      work_frees nz =
          let F = facts_in p o t in
          let y = work_accepted g.paced c.core g.running (To v n) c.worker in
          let z = subst (λ es. Accepted F (step F (board_of ls os ss hs ws) (Use v 1)).board es) (ap (free_of v n) (sym over_is) ∙ ap (λ (s : Bool). if s then [] else Free v n m ∷ []) (ne_eqb m 0 nz)) y.1 in
          subst (λ b. is_refusal (step F b (Free v n m)).answer ≡ false) (sym m₁.board) z.0

      -- whether a mutex was handed on: the tick hands nothing on, the `free` may
      pub work_hands : {hands : Bool} → hands ≡ any_hands_on (answers (facts_in p o t) (board_of ls₁ os₁ ss₁ hs ws) (free_of v n m)) →
          hands ≡ any_hands_on (answers (facts_in p o t) (board_of ls os ss hs ws) (work (timing_by p o t x) (done_in k) (To v n)))
      work_hands e =
          let F = facts_in p o t in
          e ∙ sym (hands_after F (board_of ls os ss hs ws) (board_of ls₁ os₁ ss₁ hs ws) (Use v 1 ∷ []) (free_of v n m) refl m₁.board)
          ∙ ap (λ es. any_hands_on (answers F (board_of ls os ss hs ws) es)) (sym work_is)

      -- AFTER THE FREE
      module _ {ss₂ : List Bool} {hs₂ ws₂ k₂ : List ℕ} (mir : Mirrors (timing_by p o t x) x (board_of ls₁ os₁ ss₂ hs₂ ws₂) k₂) {a₂ : List ℕ} {w₂ : ℕ}
          (m₂ : Made (facts_in p o t) on i (run_in ls₁ os₁ ss₁ hs ws k₁) (run_in ls₁ os₁ ss₂ hs₂ ws₂ k₂) (free_of v n m) a₁ w₁ a₂ w₂) (d₂ : done_in k₂ ≡ done_in k₁) where
        -- the ticks done can be counted on
        done_fits : done_cell k₂ v n ≤ 17000000
        done_fits = let s = short_now k₂ (d₂ ∙ d₁) in let l = g.paired.lengths_to v n work_v work_n in omega arith

        -- the job is unfinished
        short_cell : done_cell k₂ v n < (timing_by p o t x).lengths v n
        short_cell = let s = short_now k₂ (d₂ ∙ d₁) in let l = lengths_in p o t x v n work_v work_n in omega arith

        -- what `one_more` asks
        pub more_fits : Sized k₂ × (0 < v) × (v ≤ 16) × (0 < n) × (n ≤ 8) × (done_cell k₂ v n ≤ 17000000) × (place_cell k₂ v n ≤ 8)
        more_fits = (mir.sized, work_v.from, work_v.to, work_n.from, work_n.to, done_fits, (mir.placed v n work_v work_n short_cell).to)

        -- the task is ready still
        ready_freed : is_ready (timing_by p o t x) (board_of ls₁ os₁ ss₂ hs₂ ws₂) (done_in k) v n ≡ true
        unfolding timing_in board_by
        ready_freed =
            let T = timing_by p o t x in
            let F = facts_in p o t in
            let b₁ = board_of ls₁ os₁ ss₁ hs ws in
            let r = g₁.running in
            let e = c.worker.chosen.ready in
            ⊎_elim
            (λ z. subst (λ b. is_ready T b (done_in k) v n ≡ true) (sym (m₂.board ∙ ap (λ (s : Bool). board_after F b₁ (if s then [] else Free v n m ∷ [])) (eq-eqb m 0 z))) e)
            (λ nz. subst (λ b. is_ready T b (done_in k) v n ≡ true) (sym (m₂.board ∙ ap (λ (s : Bool). board_after F b₁ (if s then [] else Free v n m ∷ [])) (ne_eqb m 0 nz)))
            (free_still_ready T g.paced.fair r.shaped r.is_good v n m (done_in k) (next_in (step F b₁ (Free v n m)).answer) (freed_answer F b₁ v n m (work_frees nz)) v n work_v work_n e))
            (same_or_not m 0)

        -- by the ticks that the list says
        ready_now : is_ready (timing_by p o t x) (board_of ls₁ os₁ ss₂ hs₂ ws₂) (done_in k₂) v n ≡ true
        ready_now = subst (λ d. is_ready (timing_by p o t x) (board_of ls₁ os₁ ss₂ hs₂ ws₂) d v n ≡ true) (sym (d₂ ∙ d₁)) ready_freed

        -- all that holds then
        module _ {k₃ : List ℕ} (u : OneMore x v n m k₂ k₃) where
          -- a section more is over just where one ends
          place_is : place_with m (place_cell k₂ v n) ≡ place_after x v n (done_cell k₂ v n) (place_cell k₂ v n)
          place_is =
              ap (λ y. place_with y (place_cell k₂ v n))
              (over_is ∙ ap (λ y. (timing_by p o t x).ends v n (y + 1)) (sym (cell_now k₂ (d₂ ∙ d₁))) ∙ ends_at (facts_in p o t) mir g.ordered v n work_v work_n short_cell)

          -- so the job is written
          job_is : PutJob k₂ u.with_job_law v n (done_cell k₂ v n + 1) (place_after x v n (done_cell k₂ v n) (place_cell k₂ v n))
          job_is = subst (PutJob k₂ u.with_job_law v n (done_cell k₂ v n + 1)) place_is u.job

          -- and whether it is done
          unready_is : PutUnready (eqb (done_cell k₂ v n + 1) ((timing_by p o t x).lengths v n)) u.with_job_law k₃ v n
          unready_is = subst (λ l. PutUnready (eqb (done_cell k₂ v n + 1) l) u.with_job_law k₃ v n) (sym (lengths_in p o t x v n work_v work_n)) u.unready

          -- the ticks done
          done_is : done_in k₃ ≡ work_done (done_in k) (To v n)
          done_is =
              work_done_law mir g.ordered v n work_v work_n ready_now k₃ (place_with m (place_cell k₂ v n)) u.job unready_is
              ∙ ap (λ d. work_done d (To v n)) (d₂ ∙ d₁)

          -- the events
          made_is : Made (facts_in p o t) on i (run_in ls os ss hs ws k) (run_in ls₁ os₁ ss₂ hs₂ ws₂ k₃) (work (timing_by p o t x) (done_in k) (To v n)) a at a₂ w₂
          made_is =
              let z = made_then (facts_in p o t) on i (run_in ls os ss hs ws k) (Use v 1 ∷ []) (free_of v n m) a at room_is m₁ m₂ in
              subst (λ es. Made (facts_in p o t) on i (run_in ls os ss hs ws k) (run_in ls₁ os₁ ss₂ hs₂ ws₂ k₃) es a at a₂ w₂) (sym work_is)
              (record { board = z.board; text = z.text; size = z.size })

          -- what holds between the parts of a tick
          going_is : Going p o t x ls₁ os₁ ss₂ hs₂ ws₂ k₃
          unfolding timing_in
          going_is =
              let T = timing_by p o t x in
              record {
                paired = g.paired;
                ordered = g.ordered;
                paced = g.paced;
                running = subst (λ d. Running T (board_of ls₁ os₁ ss₂ hs₂ ws₂) d) (sym done_is)
                    (subst (λ b. Running T b (work_done (done_in k) (To v n))) (sym made_is.board) (work_running g.paced c.core g.running (To v n) c.worker));
                mirrors = work_mirrors mir g.ordered v n work_v work_n ready_now job_is unready_is;
              }

          -- all of it
          pub work_result : Going p o t x ls₁ os₁ ss₂ hs₂ ws₂ k₃
              × (Made (facts_in p o t) on i (run_in ls os ss hs ws k) (run_in ls₁ os₁ ss₂ hs₂ ws₂ k₃) (work (timing_by p o t x) (done_in k) (To v n)) a at a₂ w₂ × (done_in k₃ ≡ work_done (done_in k) (To v n)))
          work_result = (going_is, (made_is, done_is))
