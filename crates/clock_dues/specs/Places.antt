-- The section that a job is to begin or to end stands at the place behind those that have ended.
use Rattle.std.specs.Prelude.{ℕ, ◌+◌, ◌-◌, ◌*◌, ◌<◌, ◌≤◌, ◌≡◌, refl, List, Bool, true, false, ◌&&◌, eqb, ltb, get_or}
use Rattle.std.proofs.Common.{sym, ap, ap₂, ◌∙◌, ⊎_elim, eq-zero-or-pos, arith, eqb-true, eq-eqb, ne_eqb, ltb-true, lt-ltb, le-ltb, le-leb}
use Rattle.std.proofs.Math.Decide.{dec_le}
use Rattle.std.specs.Prelude.{if◌then◌else◌}
use Rattle.laws.specs.Choice.{when}
use Rattle.laws.specs.BoolLaws.{both, both_left, both_right, clash, same_or_not}
use Rattle.laws.specs.RangeLaws.{any_hit}
use Rattle.laws_picks.specs.Picks.{lowest}
use Rattle.laws_picks.specs.PickLaws.{lowest_le, lowest_passes, lowest_zero}
use Rattle.plan.specs.Limits.{max_locks}
use Rattle.board_seats.specs.Seats.{is_v, is_n, seat, holds_it}
use Rattle.board_rules.specs.Facts.{Facts}
use Rattle.board_rules.specs.declared.Board.{Board}
use Rattle.board_keeps.specs.Fair.{InV, InN}
use Rattle.clock_rules.specs.Clock.{done_of}
use Rattle.clock_steps.specs.Done.{by_seat_law}
use Rattle.clock_times.specs.Times.{at_begin, at_end, at_mutex, lock_cell, mutex_with, lengths_cell, timing_in, Ordered}
use Rattle.clock_marks.specs.Marks.{at_place, at_done, done_cell, place_cell, done_in, Ended, Mirrors}
use Rattle.clock_dues.specs.Picking.{mutex_at, IsDue, IsOver}

-- where only section q + 1 can have d in a part, the one that has it stands there
module _ (x : List ℕ) (part v n q d : ℕ)
    (only : (j : ℕ) → 0 < j → j ≤ max_locks → 0 < lock_cell x at_mutex v n j → lock_cell x part v n j ≡ d → j ≡ q + 1) where
  abbrev passes : ℕ → Bool
  passes j = ltb 0 (lock_cell x at_mutex v n j) && eqb (lock_cell x part v n j) d

  -- who passes is section q + 1
  passes_only : (j : ℕ) → 0 < j → j ≤ max_locks → passes j ≡ true → j ≡ q + 1
  passes_only j a l e =
      only j a l (ltb-true 0 (lock_cell x at_mutex v n j) (both_left (ltb 0 (lock_cell x at_mutex v n j)) _ e))
      (eqb-true (lock_cell x part v n j) d (both_right (ltb 0 (lock_cell x at_mutex v n j)) _ e))

  -- its cells
  cell_at : (at : ℕ) → lock_cell x at v n (q + 1) ≡ get_or x (at + ((seat v n - 1) * max_locks + q)) 0
  cell_at at = let e : q + 1 - 1 ≡ q = omega arith in rw e

  -- no section has it
  at_none : lowest max_locks passes ≡ 0 → mutex_at x part v n q d ≡ 0
  at_none z =
      go (ltb q max_locks) refl (eqb (get_or x (part + ((seat v n - 1) * max_locks + q)) 0) d) refl
    where
      m : ℕ
      m = get_or x (at_mutex + ((seat v n - 1) * max_locks + q)) 0

      go : (a : Bool) → ltb q max_locks ≡ a → (c : Bool) → eqb (get_or x (part + ((seat v n - 1) * max_locks + q)) 0) d ≡ c → (if a then (if c then m else 0) else 0) ≡ 0
      go true e true f =
          ⊎_elim (λ y. y)
          (λ y. absurd (clash
          (any_hit max_locks (q + 1) passes (omega arith) (let h = ltb-true q max_locks e in omega arith)
          (both _ _ (lt-ltb 0 (lock_cell x at_mutex v n (q + 1)) (rw (cell_at at_mutex) y)) (rw (cell_at part) f)))
          ((lowest_zero max_locks passes).1 z)))
          (eq-zero-or-pos m)
      go true e false f = refl
      go false e c f = refl

  -- section q + 1 has it
  at_some : q < max_locks → lock_cell x part v n (q + 1) ≡ d → mutex_at x part v n q d ≡ lock_cell x at_mutex v n (q + 1)
  at_some h e = rw (lt-ltb q max_locks h, eq-eqb _ d (sym (cell_at part) ∙ e)) (sym (cell_at at_mutex))

  found : 0 < lowest max_locks passes → mutex_at x part v n q d ≡ lock_cell x at_mutex v n (lowest max_locks passes)
  found g =
      let l = lowest_le max_locks passes in
      let t = lowest_passes max_locks passes g in
      let e = passes_only (lowest max_locks passes) g l t in
      at_some (omega arith) (ap (λ j. lock_cell x part v n j) (sym e) ∙ eqb-true (lock_cell x part v n (lowest max_locks passes)) d (both_right (ltb 0 (lock_cell x at_mutex v n (lowest max_locks passes))) _ t))
      ∙ ap (λ j. lock_cell x at_mutex v n j) (sym e)

  pub at_place_law : mutex_at x part v n q d ≡ mutex_with x part v n d
  at_place_law =
      ⊎_elim
      (λ z. at_none z ∙ rw (eq-eqb (lowest max_locks passes) 0 z))
      (λ g. found g ∙ rw (ne_eqb (lowest max_locks passes) 0 (λ z. omega arith)))
      (eq-zero-or-pos (lowest max_locks passes))

-- WHEN q SECTIONS HAVE ENDED after d ticks
module _ {x : List ℕ} {v n d q : ℕ} (o : Ordered x) (i : InV v) (j : InN n) (h : Ended x v n d q) where
  -- those before it have ended, and those behind it begin after it
  before : (k : ℕ) → 0 < k → k ≤ q → 0 < lock_cell x at_mutex v n k → (lock_cell x at_begin v n k < d) × (lock_cell x at_end v n k ≤ d)
  before k a l s =
      let t = h.to in
      let e = h.past k a l in
      let b = o.some_ticks v n k i j a (omega arith) s in (omega arith, e)

  behind : (k : ℕ) → q + 1 < k → k ≤ max_locks → 0 < lock_cell x at_mutex v n k → (d < lock_cell x at_begin v n k) × (lock_cell x at_begin v n k < lock_cell x at_end v n k)
  behind k a l s =
      let g = o.no_gap v n (q + 1) k i j (omega arith) a l s in
      let c = h.coming (q + 1) (omega arith) (omega arith) g in
      let b = o.behind v n (q + 1) k i j (omega arith) a l s in (omega arith, o.some_ticks v n k i j (omega arith) l s)

  place_of : (k : ℕ) → 0 < k → k ≤ max_locks → 0 < lock_cell x at_mutex v n k → (k ≤ q → ⊥) → (q + 1 < k → ⊥) → k ≡ q + 1
  place_of k a l s e f = ⊎_elim (λ y. y) (λ ne. absurd (by ne (dec_le k q))) (same_or_not k (q + 1))
    where
      by : (k ≡ q + 1 → ⊥) → Dec (k ≤ q) → ⊥
      by ne (yes y) = e y
      by ne (no y) = f (omega arith)

  only_begins : (k : ℕ) → 0 < k → k ≤ max_locks → 0 < lock_cell x at_mutex v n k → lock_cell x at_begin v n k ≡ d → k ≡ q + 1
  only_begins k a l s e =
      place_of k a l s (λ y. let b = (before k a y s).0 in omega arith) (λ y. let b = (behind k y l s).0 in omega arith)

  only_ends : (k : ℕ) → 0 < k → k ≤ max_locks → 0 < lock_cell x at_mutex v n k → lock_cell x at_end v n k ≡ d + 1 → k ≡ q + 1
  only_ends k a l s e =
      place_of k a l s (λ y. let b = (before k a y s).1 in omega arith) (λ y. let b = behind k y l s in omega arith)

  pub begins_at : mutex_at x at_begin v n q d ≡ mutex_with x at_begin v n d
  begins_at = at_place_law x at_begin v n q d only_begins

  pub ends_at : mutex_at x at_end v n q (d + 1) ≡ mutex_with x at_end v n (d + 1)
  ends_at = at_place_law x at_end v n q (d + 1) only_ends

-- AS THE TIMING SAYS IT

in_names : {v n : ℕ} → InV v → InN n → (is_v v && is_n n) ≡ true
in_names {v} {n} i j =
    both (is_v v) (is_n n) (both _ _ (le-leb 1 v i.from) (le-leb v 16 i.to)) (both _ _ (le-leb 1 n j.from) (le-leb n 8 j.to))

module _ (F : Facts) {x : List ℕ} {b : Board} {k : List ℕ} {v n : ℕ} (i : InV v) (j : InN n) (o : Ordered x) (m : Mirrors (timing_in F x) x b k)
    (l : done_cell k v n < lengths_cell x v n) where
  place_is : Ended x v n (done_cell k v n) (place_cell k v n)
  unfolding timing_in when
  place_is = m.placed v n i j (rw (in_names i j) l)

  begins_is : mutex_at x at_begin v n (place_cell k v n) (done_cell k v n) ≡ (timing_in F x).begins v n (done_of (done_in k) v n)
  unfolding timing_in when
  begins_is = rw (in_names i j, by_seat_law (λ v n. done_cell k v n) v n i j) (begins_at o i j place_is)

  ends_is : mutex_at x at_end v n (place_cell k v n) (done_cell k v n + 1) ≡ (timing_in F x).ends v n (done_cell k v n + 1)
  unfolding timing_in when
  ends_is = rw (in_names i j) (ends_at o i j place_is)

-- THE CODE'S VALUES: the seat s of (v, n), the place q and the ticks d that stand for it
module _ (x k : List ℕ) {v n s q d : ℕ} (i : InV v) (j : InN n) (e : s ≡ seat v n) (f : q ≡ get_or k (at_place + s) 0) (g : d ≡ get_or k (at_done + s) 0) where
  place_cell_law : q ≡ place_cell k v n
  place_cell_law = f ∙ ap (λ s. get_or k (at_place + s) 0) e

  done_cell_law : d ≡ done_cell k v n
  done_cell_law = g ∙ ap (λ s. get_or k (at_done + s) 0) e

  pub due_is : (hs : List ℕ) {w r : ℕ} → w ≡ mutex_at x at_begin v n q d → r ≡ (if holds_it hs v n w then 0 else w) → IsDue x hs k v n r
  due_is hs h y F b z o m l =
      y ∙ ap₂ (λ a c. if eqb (get_or a (c - 1) 0) (seat v n) then 0 else c) (sym z)
      (h ∙ (ap₂ (λ a c. mutex_at x at_begin v n a c) place_cell_law done_cell_law ∙ begins_is F i j o m l))

  pub over_is : {r : ℕ} → r ≡ mutex_at x at_end v n q (d + 1) → IsOver x k v n r
  over_is h F b o m l = h ∙ (ap₂ (λ a c. mutex_at x at_end v n a (c + 1)) place_cell_law done_cell_law ∙ ends_is F i j o m l)

-- d stands for section q + 1, or not, or there is no such section
module _ (x : List ℕ) (part v n q d : ℕ) where
  pub mutex_here_law : {s a r : ℕ} → q < 8 → s ≡ seat v n → a ≡ get_or x (part + ((s - 1) * 8 + q)) 0 → a ≡ d → r ≡ get_or x (2336 + ((s - 1) * 8 + q)) 0
      → r ≡ mutex_at x part v n q d
  mutex_here_law l e f g h =
      let z : get_or x (part + ((seat v n - 1) * 8 + q)) 0 ≡ d = rw e at (sym f ∙ g) in
      h ∙ rw (e, lt-ltb q 8 l, eq-eqb _ d z)

  pub mutex_other : {s a : ℕ} → q < 8 → s ≡ seat v n → a ≡ get_or x (part + ((s - 1) * 8 + q)) 0 → (a ≡ d → ⊥) → 0 ≡ mutex_at x part v n q d
  mutex_other {s} l e f g =
      let z : get_or x (part + ((seat v n - 1) * 8 + q)) 0 ≡ d → ⊥ = λ y. g (f ∙ (ap (λ s. get_or x (part + ((s - 1) * 8 + q)) 0) e ∙ y)) in
      rw (lt-ltb q 8 l, ne_eqb _ d z)

  pub mutex_past : 8 ≤ q → 0 ≡ mutex_at x part v n q d
  mutex_past l = rw (le-ltb q 8 l)
