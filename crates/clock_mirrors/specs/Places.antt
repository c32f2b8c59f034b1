-- The sections of a task by the place that its job has come to: what begins or ends is the section there.
use Rattle.std.specs.Prelude.{ℕ, ◌+◌, ◌<◌, ◌≤◌, ◌≡◌, refl, List, Bool, true, false, ◌&&◌, eqb, ltb, leb}
use Rattle.std.proofs.Common.{sym, subst, ◌∙◌, ⊎_elim, arith, eq-zero-or-pos, ltb-true, ltb-false, eqb-true, lt-ltb, le-leb, eq-eqb, ne_eqb}
use Rattle.std.proofs.Math.Path.{ap}
use Rattle.std.proofs.lemmas.Bool.{eqb-false}
use Rattle.std.specs.Prelude.{if◌then◌else◌}
use Rattle.laws.specs.Choice.{when}
use Rattle.laws.specs.RangeLaws.{none_at}
use Rattle.laws.specs.BoolLaws.{both, both_left, both_right, clash, bool_cases, same_or_not}
use Rattle.laws_picks.specs.Picks.{lowest}
use Rattle.laws_picks.specs.PickLaws.{lowest_le, lowest_passes, lowest_zero}
use Rattle.plan.specs.Limits.{max_v, most_n, max_locks}
use Rattle.board_seats.specs.Seats.{is_v, is_n}
use Rattle.board_rules.specs.Facts.{Facts}
use Rattle.board_rules.specs.declared.Board.{Board}
use Rattle.board_keeps.specs.Fair.{InV, InN}
use Rattle.clock_times.specs.Times.{at_begin, at_end, at_mutex, lock_cell, mutex_with, timing_in, Ordered}
use Rattle.clock_marks.specs.Marks.{done_cell, place_cell, Ended, Mirrors}

-- the mutex of the section after q of them, if it has t in the part `at`; 0 for none
abbrev pub mutex_here : List ℕ → ℕ → ℕ → ℕ → ℕ → ℕ → ℕ
mutex_here x at v n t q = if ltb q max_locks && eqb (lock_cell x at v n (q + 1)) t then lock_cell x at_mutex v n (q + 1) else 0

-- how many sections have ended one tick later
abbrev pub place_after : List ℕ → ℕ → ℕ → ℕ → ℕ → ℕ
place_after x v n d q = if eqb (mutex_here x at_end v n (d + 1) q) 0 then q else q + 1

module _ (x : List ℕ) (at v n t q : ℕ) where
  -- where it is one, there is such a section
  pub here_some : (mutex_here x at v n t q ≡ 0 → ⊥) → (q < max_locks) × (lock_cell x at v n (q + 1) ≡ t) × (0 < lock_cell x at_mutex v n (q + 1))
  here_some nz = go (ltb q max_locks && eqb (lock_cell x at v n (q + 1)) t) refl nz
    where
      go : (c : Bool) → (ltb q max_locks && eqb (lock_cell x at v n (q + 1)) t) ≡ c → ((if c then lock_cell x at_mutex v n (q + 1) else 0) ≡ 0 → ⊥) →
          (q < max_locks) × (lock_cell x at v n (q + 1) ≡ t) × (0 < lock_cell x at_mutex v n (q + 1))
      go true e h = (ltb-true q max_locks (both_left (ltb q max_locks) _ e), eqb-true (lock_cell x at v n (q + 1)) t (both_right (ltb q max_locks) _ e), omega arith)
      go false e h = absurd (h refl)

  -- and the other way round
  pub here_is : q < max_locks → lock_cell x at v n (q + 1) ≡ t → mutex_here x at v n t q ≡ lock_cell x at_mutex v n (q + 1)
  here_is l e = ap (λ (c : Bool). if c then lock_cell x at_mutex v n (q + 1) else 0) (both (ltb q max_locks) _ (lt-ltb q max_locks l) (eq-eqb (lock_cell x at v n (q + 1)) t e))

  -- where no other section has t there, it is what a scan of the sections finds
  mutex_here_law : ((y : ℕ) → 0 < y → y ≤ max_locks → 0 < lock_cell x at_mutex v n y → lock_cell x at v n y ≡ t → y ≡ q + 1) → mutex_with x at v n t ≡ mutex_here x at v n t q
  mutex_here_law only = ⊎_elim none some (eq-zero-or-pos (lowest max_locks has))
    where
      has : ℕ → Bool
      has y = ltb 0 (lock_cell x at_mutex v n y) && eqb (lock_cell x at v n y) t

      none : lowest max_locks has ≡ 0 → mutex_with x at v n t ≡ mutex_here x at v n t q
      none e =
          ap (λ y. if eqb y 0 then 0 else lock_cell x at_mutex v n y) e
          ∙ ⊎_elim (λ z. sym z)
          (λ nz. absurd (let r = here_some nz in clash (both (ltb 0 (lock_cell x at_mutex v n (q + 1))) _ (lt-ltb 0 (lock_cell x at_mutex v n (q + 1)) r.2) (eq-eqb (lock_cell x at v n (q + 1)) t r.1))
          (none_at max_locks (q + 1) has ((lowest_zero max_locks has).1 e) (omega arith) (omega (arith, r.0)))))
          (same_or_not (mutex_here x at v n t q) 0)

      some : 0 < lowest max_locks has → mutex_with x at v n t ≡ mutex_here x at v n t q
      some h =
          let y = lowest max_locks has in
          let p = lowest_passes max_locks has h in
          let s = eqb-true (lock_cell x at v n y) t (both_right (ltb 0 (lock_cell x at_mutex v n y)) _ p) in
          let l = lowest_le max_locks has in
          let u = only y h l (ltb-true 0 (lock_cell x at_mutex v n y) (both_left (ltb 0 (lock_cell x at_mutex v n y)) _ p)) s in
          ap (λ (c : Bool). if c then 0 else lock_cell x at_mutex v n y) (ne_eqb y 0 (λ z. omega arith)) ∙ ap (lock_cell x at_mutex v n) u
          ∙ sym (here_is (omega arith) (ap (lock_cell x at v n) (sym u) ∙ s))

-- WHERE q SECTIONS HAVE ENDED when d ticks are done
module _ {x : List ℕ} (o : Ordered x) {v n : ℕ} (i : InV v) (j : InN n) {d q : ℕ} (e : Ended x v n d q) where
  -- the next section is not over
  next_coming : (y : ℕ) → q + 1 < y → y ≤ max_locks → 0 < lock_cell x at_mutex v n y → d < lock_cell x at_begin v n y
  next_coming y l h m =
      let a = o.behind v n (q + 1) y i j (omega arith) l h m in
      let c = e.coming (q + 1) (omega arith) (omega arith) (o.no_gap v n (q + 1) y i j (omega arith) l h m) in
      omega arith

  -- a section that begins now is the next
  only_begins : (y : ℕ) → 0 < y → y ≤ max_locks → 0 < lock_cell x at_mutex v n y → lock_cell x at_begin v n y ≡ d → y ≡ q + 1
  only_begins y l h m s =
      ⊎_elim (λ z. z)
      (λ ne. absurd (⊎_elim (λ z. let a = next_coming y (let r = ltb-true q y z in omega arith) h m in omega arith)
      (λ z. let a = e.past y l (ltb-false q y z) in let c = o.some_ticks v n y i j l h m in omega arith) (bool_cases (ltb q y)))) (same_or_not y (q + 1))

  -- a section that ends with the next tick is the next
  only_ends : (y : ℕ) → 0 < y → y ≤ max_locks → 0 < lock_cell x at_mutex v n y → lock_cell x at_end v n y ≡ d + 1 → y ≡ q + 1
  only_ends y l h m s =
      ⊎_elim (λ z. z)
      (λ ne. absurd (⊎_elim (λ z. let a = next_coming y (let r = ltb-true q y z in omega arith) h m in let c = o.some_ticks v n y i j l h m in omega arith)
      (λ z. let a = e.past y l (ltb-false q y z) in omega arith) (bool_cases (ltb q y)))) (same_or_not y (q + 1))

  -- a tick later
  pub tick_ended : Ended x v n (d + 1) (place_after x v n d q)
  tick_ended = go (eqb (mutex_here x at_end v n (d + 1) q) 0) refl
    where
      go : (c : Bool) → eqb (mutex_here x at_end v n (d + 1) q) 0 ≡ c → Ended x v n (d + 1) (if c then q else q + 1)
      go true z = record {
        to = e.to;
        past = λ y a l. let h = e.past y a l in omega arith;
        coming = λ y a l m.
            let h = e.coming y a l m in
            let ne : lock_cell x at_end v n y ≡ d + 1 → ⊥ = λ s.
            (let u = only_ends y (omega arith) l m s in
            let w = here_is x at_end v n (d + 1) q (omega arith) (ap (lock_cell x at_end v n) (sym u) ∙ s) in
            let m' : 0 < lock_cell x at_mutex v n (q + 1) = subst (λ y. 0 < lock_cell x at_mutex v n y) u m in
            let c = eqb-true (mutex_here x at_end v n (d + 1) q) 0 z in
            omega arith) in
            omega arith;
      }
      go false z =
          let r = here_some x at_end v n (d + 1) q (eqb-false (mutex_here x at_end v n (d + 1) q) 0 z) in
          record {
            to = omega (arith, r.0);
            past = λ y a l. ⊎_elim (λ s. let w = ap (lock_cell x at_end v n) s ∙ r.1 in omega arith) (λ ne. let h = e.past y a (omega arith) in omega arith) (same_or_not y (q + 1));
            coming = λ y a l m.
                let h = o.behind v n (q + 1) y i j (omega arith) a l m in let c = o.some_ticks v n y i j (omega arith) l m in omega (arith, r.1);
          }

  module _ (F : Facts) where
    -- the names are in range
    in_names : (is_v v && is_n n) ≡ true
    in_names = both (is_v v) (is_n n) (both (leb 1 v) (leb v max_v) (le-leb 1 v i.from) (le-leb v max_v i.to)) (both (leb 1 n) (leb n most_n) (le-leb 1 n j.from) (le-leb n most_n j.to))

    -- what begins now
    pub begins_here : (timing_in F x).begins v n d ≡ mutex_here x at_begin v n d q
    unfolding timing_in when
    begins_here = ap (λ (c : Bool). when c (mutex_with x at_begin v n d)) in_names ∙ mutex_here_law x at_begin v n d q only_begins

    -- what ends with the next tick
    pub ends_here : (timing_in F x).ends v n (d + 1) ≡ mutex_here x at_end v n (d + 1) q
    unfolding timing_in when
    ends_here = ap (λ (c : Bool). when c (mutex_with x at_end v n (d + 1))) in_names ∙ mutex_here_law x at_end v n (d + 1) q only_ends

-- a job that begins has no section behind it
pub none_ended : {x : List ℕ} → Ordered x → {v n : ℕ} → InV v → InN n → Ended x v n 0 0
none_ended {x} o {v} {n} i j = record {
  to = omega arith;
  past = λ y a l. absurd (omega arith);
  coming = λ y a l m. let h = o.some_ticks v n y i j a l m in omega arith;
}

-- AS THE LIST SAYS IT of an unfinished job
module _ (F : Facts) {x : List ℕ} {b : Board} {k : List ℕ} (mir : Mirrors (timing_in F x) x b k) (o : Ordered x) (v n : ℕ) (i : InV v) (j : InN n) (short : done_cell k v n < (timing_in F x).lengths v n) where
  -- the mutex of the section that begins now, 0 for none
  pub begins_at : (timing_in F x).begins v n (done_cell k v n) ≡ mutex_here x at_begin v n (done_cell k v n) (place_cell k v n)
  begins_at = begins_here o i j (mir.placed v n i j short) F

  -- the mutex of the section that ends with the next tick
  pub ends_at : (timing_in F x).ends v n (done_cell k v n + 1) ≡ mutex_here x at_end v n (done_cell k v n + 1) (place_cell k v n)
  ends_at = ends_here o i j (mir.placed v n i j short) F
