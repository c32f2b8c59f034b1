-- Plain turns and the list that the clock keeps: of k such ticks the ticks done of the picked task are all that is to be written.
use Rattle.std.specs.Prelude.{ℕ, ◌+◌, ◌-◌, ◌<◌, ◌≡◌, refl, Bool, false, ◌&&◌, List, eqb, get_or, set}
use Rattle.std.proofs.Common.{sym, ap, subst, subst₂, ◌∙◌, ⊎_elim, eq-zero-or-pos, eq-or-lt_of_le, arith, eq-eqb, ne_eqb, lt-ltb, length-set, get_or-set_same, get_or-set_other}
use Rattle.std.specs.Prelude.{if◌then◌else◌}
use Rattle.plan.specs.Limits.{max_locks}
use Rattle.board_rules.specs.declared.Board.{Board}
use Rattle.board_rules.specs.Board.{seat, wait_of}
use Rattle.board_keeps.specs.Fair.{InV, InN}
use Rattle.clock_rules.specs.Clock.{Timing}
use Rattle.clock_times.specs.Times.{at_end, at_mutex, lock_cell, Ordered}
use Rattle.clock_marks.specs.Marks.{at_done, at_place, done_cell, place_cell, done_in, Ended, Sized, Mirrors}
use Rattle.clock_steps.specs.InStep.{all_seats}
use Rattle.clock_steps.specs.Done.{by_seat_law, seats_long}
use Rattle.clock_mirrors.specs.Tells.{Tells, Says, ready_with, read_on, tells_mirror, mirrors_tell, put_at, put_own, put_else}
use Rattle.clock_mirrors.specs.Writes.{PutJob, with_job, tells_job}
use Rattle.clock_mirrors.specs.Works.{done_put}
use Rattle.clock_mirrors.specs.Supplies.{spared_alike, quiet_mirrors}
use Rattle.clock_plains.specs.Plains.{Plain, Spent}
use Rattle.clock_plains.specs.Alike.{alike_locks}
use Rattle.clock_plains.specs.PlainLaws.{done_nobody, done_somebody, spent_alike}

-- the list after k plain ticks of (v, n), or of nobody
abbrev pub kept_after : List ℕ → ℕ → ℕ → ℕ → List ℕ
kept_after kept v n k = if eqb v 0 then kept else set kept (at_done + seat v n) (done_cell kept v n + k)

-- the one store that it takes
done_store : {kept : List ℕ} (v n a : ℕ) → InV v → InN n → Sized kept → PutJob kept (set kept (at_done + seat v n) a) v n a (place_cell kept v n)
done_store {kept} v n a i j z =
    let l = z.long in
    record {
      length_same = length-set kept (at_done + seat v n) a;
      else_same = λ x e f. get_or-set_other kept (at_done + seat v n) x a 0 e;
      done_is = get_or-set_same kept (at_done + seat v n) a 0 (omega arith);
      place_is = get_or-set_other kept (at_done + seat v n) (at_place + seat v n) a 0 (λ e. omega arith);
    }

-- MORE TICKS of a task whose job stays unfinished and none of whose sections ends
module _ {T : Timing} {x : List ℕ} {b : Board} {kept : List ℕ} (m : Mirrors T x b kept) (v n k : ℕ) (i : InV v) (j : InN n)
    (short : done_cell kept v n + k < T.lengths v n) (still : Ended x v n (done_cell kept v n + k) (place_cell kept v n)) where
  -- the ticks done, with k more of (v, n)
  abbrev more : ℕ → ℕ → ℕ
  more = put_at (λ w y. done_cell kept w y) v n (done_cell kept v n + k)

  -- two tasks of different seats are two
  two : {w y : ℕ} → (seat w y ≡ seat v n → ⊥) → (w ≡ v) × (y ≡ n) → ⊥
  two {w} {y} ne r = ne (ap (λ z. seat z y) r.0 ∙ ap (seat v) r.1)

  -- what the board says of them
  more_says : Says T x b (with_job (read_on T b kept) v n (done_cell kept v n + k) (place_cell kept v n))
  more_says = record {
    core = λ c w a e. refl;
    budget = λ w a. refl;
    spare = λ w a. refl;
    holding = λ w a. refl;
    ready = all_seats (λ w y. ready_with T b w y (done_cell kept w y) ≡ ready_with T b w y (more w y)) v n i j
        (ap (λ (t : Bool). (T.facts.has_task v n && t) && eqb (wait_of b v n) 0)
        (lt-ltb (done_cell kept v n) (T.lengths v n) (omega arith) ∙ sym (lt-ltb (done_cell kept v n + k) (T.lengths v n) short))
        ∙ ap (ready_with T b v n) (sym (put_own (λ w y. done_cell kept w y) v n (done_cell kept v n + k))))
        (λ w y a e ne. ap (ready_with T b w y) (sym (put_else (λ w y. done_cell kept w y) v n (done_cell kept v n + k) w y (two ne))));
    held = λ w y a e. refl;
    placed = all_seats (λ w y. more w y < T.lengths w y → Ended x w y (more w y) (put_at (λ w y. place_cell kept w y) v n (place_cell kept v n) w y)) v n i j
        (λ h. subst₂ (λ d q. Ended x v n d q) (sym (put_own (λ w y. done_cell kept w y) v n (done_cell kept v n + k))) (sym (put_own (λ w y. place_cell kept w y) v n (place_cell kept v n))) still)
        (λ w y a e ne h.
        let z = put_else (λ w y. done_cell kept w y) v n (done_cell kept v n + k) w y (two ne) in
        subst₂ (λ d q. Ended x w y d q) (sym z) (sym (put_else (λ w y. place_cell kept w y) v n (place_cell kept v n) w y (two ne))) (m.placed w y a e (subst (λ u. u < T.lengths w y) z h)));
  }

  -- the list with them
  more_tells : Tells (set kept (at_done + seat v n) (done_cell kept v n + k)) (with_job (read_on T b kept) v n (done_cell kept v n + k) (place_cell kept v n))
  more_tells = tells_job (mirrors_tell m) i j (done_store v n (done_cell kept v n + k) i j m.sized)

  -- mirrors the board
  pub more_mirrors : Mirrors T x b (set kept (at_done + seat v n) (done_cell kept v n + k))
  more_mirrors = tells_mirror more_tells more_says

  -- and says the ticks done
  pub more_done : done_in (set kept (at_done + seat v n) (done_cell kept v n + k)) ≡ set (done_in kept) (seat v n - 1) (done_cell kept v n + k)
  more_done = done_put kept v n (done_cell kept v n + k) i j more_tells (λ w y. refl)

-- PLAIN TICKS
module _ {T : Timing} {x : List ℕ} {b : Board} {kept : List ℕ} {c v n k : ℕ} {b' : Board} {d' : List ℕ} (m : Mirrors T x b kept)
    (p : Plain T c b (done_in kept) v n k) (s : Spent T c b (done_in kept) v n k b' d') (still : 0 < v → Ended x v n (done_cell kept v n + k) (place_cell kept v n)) where
  -- the sets are right already
  same_mirrors : Mirrors T x b' kept
  same_mirrors =
      let a = spent_alike p s (omega arith) (seats_long (λ w y. done_cell kept w y)) in
      quiet_mirrors m (alike_locks a) (λ w i. sym (a.has_left w i))
      (λ w i. spared_alike T b b' w (ap (λ ss. get_or ss (w - 1) false) s.stopped_same) (ap (λ os. get_or os (w - 1) 0) s.over_same))

  -- the job of (v, n) stays unfinished
  short_still : 0 < v → done_cell kept v n + k < T.lengths v n
  short_still h = let g = p.goes h in subst (λ y. y + k < T.lengths v n) (by_seat_law (λ w y. done_cell kept w y) v n g.v_in g.n_in) g.unfinished

  -- the list after them mirrors the board after them
  pub plain_mirrors : Mirrors T x b' (kept_after kept v n k)
  plain_mirrors =
      ⊎_elim (λ z. rw (eq-eqb v 0 z) same_mirrors)
      (λ h. rw (ne_eqb v 0 (λ z. omega arith)) (let g = p.goes h in more_mirrors same_mirrors v n k g.v_in g.n_in (short_still h) (still h))) (eq-zero-or-pos v)

  -- and says the ticks done
  pub plain_done : done_in (kept_after kept v n k) ≡ d'
  plain_done =
      ⊎_elim (λ z. ap (λ (t : Bool). done_in (if t then kept else set kept (at_done + seat v n) (done_cell kept v n + k))) (eq-eqb v 0 z) ∙ sym (done_nobody s z))
      (λ h.
      let g = p.goes h in
      ap (λ (t : Bool). done_in (if t then kept else set kept (at_done + seat v n) (done_cell kept v n + k))) (ne_eqb v 0 (λ z. omega arith))
      ∙ more_done same_mirrors v n k g.v_in g.n_in (short_still h) (still h)
      ∙ ap (λ y. set (done_in kept) (seat v n - 1) (y + k)) (sym (by_seat_law (λ w y. done_cell kept w y) v n g.v_in g.n_in)) ∙ sym (done_somebody s h))
      (eq-zero-or-pos v)

-- no section ends within k ticks where the next one does not
pub ended_later : {x : List ℕ} (o : Ordered x) {v n : ℕ} (i : InV v) (j : InN n) {d q : ℕ} (k : ℕ) → Ended x v n d q → (q < max_locks → 0 < lock_cell x at_mutex v n (q + 1) → d + k < lock_cell x at_end v n (q + 1)) →
    Ended x v n (d + k) q
ended_later {x} o {v} {n} i j {d} {q} k e h = record {
  to = e.to;
  past = λ y a l. let r = e.past y a l in omega arith;
  coming = λ y a l m.
      ⊎_elim
      (λ z. subst (λ u. d + k < lock_cell x at_end v n u) z (h (omega arith) (subst (λ u. 0 < lock_cell x at_mutex v n u) (sym z) m)))
      (λ r.
      let some = o.no_gap v n (q + 1) y i j (omega arith) r l m in
      let f = h (omega arith) some in
      let g = o.behind v n (q + 1) y i j (omega arith) r l m in
      let t = o.some_ticks v n y i j (omega arith) l m in
      omega arith)
      (eq-or-lt_of_le {n = q + 1} {m = y} (omega arith));
}
