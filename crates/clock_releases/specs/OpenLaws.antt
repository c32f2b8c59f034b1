-- What holds when a tick's releases are made, and when it is open.
use Rattle.std.specs.Prelude.{ℕ, ◌+◌, ◌-◌, ◌*◌, ◌/◌, ◌%◌, ◌<◌, ◌≤◌, ◌≡◌, refl, List, Bool, true, false, ltb, get_or}
use Rattle.std.proofs.Common.{sym, subst, subst₂, ◌∙◌, inl, inr, ⊎_elim, arith, ltb-false}
use Rattle.std.proofs.Math.Path.{ap}
use Rattle.std.specs.Prelude.{if◌then◌else◌}
use Rattle.laws.specs.BoolLaws.{both_left, missed as missed_right}
use Rattle.plan.specs.Limits.{max_v, most_n}
use Rattle.plan.specs.declared.Policy.{Policy}
use Rattle.plan.specs.declared.OverrunChoice.{OverrunChoice}
use Rattle.board_seats.specs.Seats.{seat}
use Rattle.board_rules.specs.Facts.{Facts}
use Rattle.board_rules.specs.View.{facts_in}
use Rattle.board_rules.specs.declared.Board.{Board}
use Rattle.board_rules.specs.declared.Next.TheVariants.{Nobody}
use Rattle.board_rules.specs.Board.{wait_of, next_of}
use Rattle.board_events.specs.Events.{board_after}
use Rattle.board_keeps.specs.Fair.{InV, InN}
use Rattle.clock_rules.specs.Clock.{Timing, done_of, is_unfinished, is_released, tops, missed, released, opened}
use Rattle.clock_rules.specs.Trace.{lines_at}
use Rattle.clock_times.specs.Times.{timing_in}
use Rattle.clock_marks.specs.Marks.{at_done, board_of, run_in, done_cell, done_in, Sized, Mirrors}
use Rattle.clock_lines.specs.Told.{told_at, told_to}
use Rattle.clock_steps.specs.Done.{by_seat_law, seats_long}
use Rattle.clock_steps.specs.Running.{Running, opened_running}
use Rattle.clock_steps.specs.Missed.{none_missed}
use Rattle.clock_nexts.specs.Nexts.{at_jobs, place_of, is_due, missed_v, missed_n, Nexts, Jobs, JobsRenewed}
use Rattle.clock_nexts.specs.WriteLaws.{jobs_later}
use Rattle.clock_renews.specs.PartLaws.{nexts_both, renewed_tops}
use Rattle.clock_misses.specs.DueLaws.{release_due, missed_first, missed_nobody, missed_some, no_job_due, no_job_misses}
use Rattle.clock_mirrors.specs.Writes.{seat_list, done_kept}
use Rattle.clock_mirrors.specs.Works.{ended_waits_none}
use Rattle.clock_going.specs.Going.{timing_by, Going}
use Rattle.clock_tops.specs.Topping.{TopsMade}
use Rattle.clock_tops.specs.MadeLaws.{tops_here}
use Rattle.clock_releases.specs.Opens.{MissedJob, Idle, Releases, JobsMade, Jobbed, Opens, Opening}
use Rattle.clock_releases.specs.ReleaseLaws.{releases_none}

module _ {p : Policy} {o : OverrunChoice} {view x : List ℕ} {ls os : List ℕ} {ss : List Bool} {hs ws k y : List ℕ} {t : ℕ} (g : Going p o view x ls os ss hs ws k) (n : Nexts x y t) (early : t ≤ 1000000) where
  abbrev F : Facts
  F = facts_in p o view

  abbrev T : Timing
  T = timing_by p o view x

  abbrev b : Board
  b = board_of ls os ss hs ws

  -- when the tops are made
  module _ {on : Bool} {a : List ℕ} {at : ℕ} {b' : Board} {k₁ y₁ a' : List ℕ} {w : ℕ} (h : TopsMade F x on t b k y a at b' k₁ y₁ a' w) where
    -- the ticks done are as they were
    topped_cell : (v m : ℕ) → InV v → InN m → done_cell k₁ v m ≡ done_cell k v m
    topped_cell v m i j = h.topped.else_same (at_done + seat v m) (omega arith)

    topped_done : done_in k₁ ≡ done_in k
    topped_done = done_kept k k₁ topped_cell

    topped_text : a' ≡ told_at on (lines_at F t b (tops T t)) a at
    topped_text = h.topped.text ∙ ap (λ es. told_at on (lines_at F t b es) a at) (sym (tops_here g n early))

    topped_size : w ≡ told_to on (lines_at F t b (tops T t)) at
    topped_size = h.topped.size ∙ ap (λ es. told_to on (lines_at F t b es) at) (sym (tops_here g n early))

    -- the first miss
    topped_missed : {v m : ℕ} → MissedJob x k₁ y₁ t v m → missed T t (done_in k) ≡ next_of v m
    topped_missed {v} {m} z =
        subst (λ d. missed T t d ≡ next_of v m) topped_done (missed_first p o g.paired (omega arith) h.jobs k₁ z.is_v_law z.v_in.from z.is_n_law)

    topped_nobody : 0 ≡ missed_v x k₁ y₁ t → missed T t (done_in k) ≡ Nobody
    topped_nobody e = subst (λ d. missed T t d ≡ Nobody) topped_done (missed_nobody p o g.paired (omega arith) h.jobs k₁ e refl)

    -- a job of (v, m) is released
    released_here : (v m : ℕ) → InV v → InN m → is_released T t v m ≡ is_due y₁ t (place_of (seat v m))
    released_here = release_due p o g.paired (omega arith) h.jobs

    -- WHERE NOBODY MISSES
    module _ (none : missed T t (done_in k) ≡ Nobody) where
      -- a task whose job is released waits for nothing
      released_idle : (v m : ℕ) → InV v → InN m → is_released T t v m ≡ true → wait_of b v m ≡ 0
      released_idle v m i j e =
          let d = done_in k in
          let s = g.running.in_step v m i j in
          let u = missed_right (is_released T t v m) (is_unfinished T d v m) (none_missed T t d none v m i j) e in
          let l = ltb-false (done_of d v m) (T.lengths v m) (missed_right (T.facts.has_task v m) (ltb (done_of d v m) (T.lengths v m)) u (both_left (T.facts.has_task v m) _ e)) in
          let c = by_seat_law (λ y z. done_cell k y z) v m i j in
          ended_waits_none g.paced k g.running v m i j (let q = s.done_in_law in omega arith)

      topped_idle : Idle y₁ ws t
      topped_idle = record {
        none = λ s a l e.
            let v = (s - 1) / 8 + 1 in
            let m = (s - 1) % 8 + 1 in
            let i : InV v = record { from = omega arith; to = omega arith } in
            let j : InN m = record { from = omega arith; to = omega arith } in
            let q : seat v m ≡ s = omega arith in
            ap (λ c. get_or ws (c - 1) 0) (sym q) ∙ released_idle v m i j (released_here v m i j ∙ ap (λ c. is_due y₁ t (place_of c)) q ∙ e);
      }

      -- and the releases are made
      module _ {k₂ : List ℕ} (r : Releases x k₁ y₁ t 0 (max_v * most_n) k₂) where
        -- the ticks done of a task
        open_cell : (v m : ℕ) → InV v → InN m → done_cell k₂ v m ≡ (if is_released T t v m then 0 else done_of (done_in k) v m)
        open_cell v m i j =
            r.past (seat v m) (omega arith) (omega arith)
            ∙ ap (λ c. if c then 0 else done_cell k₁ v m) (sym (released_here v m i j))
            ∙ ap (λ d. if is_released T t v m then 0 else d) (topped_cell v m i j ∙ sym (by_seat_law (λ y z. done_cell k y z) v m i j))

        open_done : done_in k₂ ≡ released T t (done_in k)
        unfolding released
        open_done =
            seat_list (done_in k₂) (λ v m. if is_released T t v m then 0 else done_of (done_in k) v m) (seats_long (λ v m. done_cell k₂ v m))
            (λ v m i j. by_seat_law (λ y z. done_cell k₂ y z) v m i j ∙ open_cell v m i j)

        open_board : b' ≡ board_after T.facts b (tops T t)
        unfolding timing_in
        open_board = h.topped.board ∙ ap (board_after F b) (sym (tops_here g n early))

        open_running : Running T b' (done_in k₂)
        open_running = subst₂ (λ c d. Running T c d) (sym open_board) (sym open_done) (opened_running g.paced t g.running none)

        open_mirrors : b'.waits ≡ ws → Mirrors T x b' k₂
        open_mirrors q = r.mirrors F b' g.paced g.ordered (subst (λ c. Idle y₁ c t) (sym q) topped_idle) h.topped.mirrors

        open_board_is : b' ≡ (opened T t (run_in ls os ss hs ws k)).board
        unfolding opened
        open_board_is = open_board

        open_done_is : done_in k₂ ≡ (opened T t (run_in ls os ss hs ws k)).done
        unfolding opened
        open_done_is = open_done

  -- THE TICK IS OPEN
  module _ {on : Bool} {a : List ℕ} {at : ℕ} {ls' os' : List ℕ} {ss' : List Bool} {k₁ y₁ a' : List ℕ} {w : ℕ} (h : TopsMade F x on t b k y a at (board_of ls' os' ss' hs ws) k₁ y₁ a' w) where
    opens_all : {k₂ y₂ : List ℕ} → JobsMade x k₁ y₁ t k₂ y₂ → Opens p o view x t ls os ss hs ws k ls' os' ss' k₂ y₂
    opens_all m =
        let none = topped_nobody h m.none_missed in
        let r = m.released in
        record {
          going = record {
            paired = g.paired;
            ordered = g.ordered;
            paced = g.paced;
            running = open_running h none r;
            mirrors = open_mirrors h none r refl;
          };
          board = open_board_is h none r;
          done = open_done_is h none r;
          nexts = nexts_both (m.length_same ∙ h.long) (m.tops_kept (t + 1) h.nexts) m.nexts;
        }

    -- what is said where a job is missed
    opening_missed : {k₂ y₂ : List ℕ} {v m : ℕ} → MissedJob x k₁ y₁ t v m → Opening p o view x on t ls os ss hs ws k a at ls' os' ss' k₂ y₂ a' w v m
    opening_missed z = record {
      text = topped_text h;
      size = topped_size h;
      first_missed = topped_missed h z;
      v_to = z.v_in.to;
      n_to = z.n_to;
      v_some = λ l. z.v_in.from;
      opens = λ e. absurd (let l = missed_some x k₁ y₁ t z.is_v_law z.v_in.from z.is_n_law in omega arith);
    }

    -- and where none is
    opening_open : {k₂ y₂ : List ℕ} → JobsMade x k₁ y₁ t k₂ y₂ → Opening p o view x on t ls os ss hs ws k a at ls' os' ss' k₂ y₂ a' w 0 0
    opening_open m = record {
      text = topped_text h;
      size = topped_size h;
      first_missed = topped_nobody h m.none_missed;
      v_to = omega arith;
      n_to = omega arith;
      v_some = λ l. absurd (omega arith);
      opens = λ e. opens_all m;
    }

    -- so in any case
    pub opening : {k₂ y₂ : List ℕ} {v m : ℕ} → Jobbed x k₁ y₁ t k₂ y₂ v m → {w₁ : ℕ} → w₁ ≡ w → Opening p o view x on t ls os ss hs ws k a at ls' os' ss' k₂ y₂ a' w₁ v m
    opening {k₂} {y₂} {v} {m} j {w₁} e =
        subst (λ c. Opening p o view x on t ls os ss hs ws k a at ls' os' ss' k₂ y₂ a' c v m) (sym e)
        (⊎_elim opening_missed (λ q. subst₂ (λ c d. Opening p o view x on t ls os ss hs ws k a at ls' os' ss' k₂ y₂ a' w c d) (sym q.0) (sym q.1) (opening_open q.2)) j)

-- THE JOBS of tick t
module _ {x k y : List ℕ} {t : ℕ} (next : Jobs x y t) where
  -- where none is due
  pub jobs_quiet : Sized k → (get_or y at_jobs 0 ≡ t → ⊥) → Jobbed x k y t k y 0 0
  jobs_quiet z ne =
      let f = next.jobs_from in
      let l : t < get_or y at_jobs 0 = omega (arith, ne) in
      inr (
        refl,
        refl,
        record {
          none_missed = no_job_misses k next l;
          released = releases_none 0 (max_v * most_n) z (λ j a b. none j a b l);
          length_same = refl;
          nexts = jobs_later (t + 1) (omega arith) (omega arith) next;
          tops_kept = λ u h. h;
        },
      )
    where
      none : (j : ℕ) → 0 < j → j ≤ max_v * most_n → t < get_or y at_jobs 0 → is_due y t (place_of j) ≡ false
      none j a b l =
          let v = (j - 1) / 8 + 1 in
          let n = (j - 1) % 8 + 1 in
          let q : seat v n ≡ j = omega arith in
          ap (λ c. is_due y t (place_of c)) (sym q) ∙ no_job_due next l v n (record { from = omega arith; to = omega arith }) (record { from = omega arith; to = omega arith })

  -- where one is missed
  pub jobs_missed : {k' y' : List ℕ} {v n : ℕ} → v ≡ missed_v x k y t → v ≤ max_v → 0 < v → n ≡ missed_n x k y t v → n ≤ most_n → Jobbed x k y t k' y' v n
  jobs_missed e l a q m = inl (record { is_v_law = e; v_in = record { from = a; to = l }; is_n_law = q; n_to = m })

  -- and where they are released
  pub jobs_made : {v : ℕ} → v ≡ missed_v x k y t → v ≤ 0 → {k' y' : List ℕ} → Releases x k y t 0 (max_v * most_n) k' → JobsRenewed x y y' t → Jobbed x k y t k' y' 0 0
  jobs_made {v} e l r j =
      let z : 0 ≡ v = omega arith in
      inr (
        refl,
        refl,
        record {
          none_missed = z ∙ e;
          released = r;
          length_same = j.length_same;
          nexts = j.jobs;
          tops_kept = λ u h. renewed_tops j h;
        },
      )
