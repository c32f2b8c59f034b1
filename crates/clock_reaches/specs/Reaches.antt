-- For how many ticks a task goes on, by the section behind those that have ended: between two sections nothing begins and nothing ends.
use Rattle.std.specs.Prelude.{ℕ, ◌+◌, ◌-◌, ◌*◌, ◌<◌, ◌≤◌, ◌≡◌, refl, Bool, true, false, ◌&&◌, List, ◌⊎◌, eqb, ltb, get_or}
use Rattle.std.proofs.Math.Path.{sym}
use Rattle.std.proofs.Common.{ap, ap₂, subst, ◌∙◌, inl, inr, eq-zero-or-pos, arith, eqb-true, eq-eqb, ne_eqb, ltb-true, lt-ltb, le-leb}
use Rattle.std.proofs.Math.Logic.{⊎_elim}
use Rattle.std.proofs.Math.Decide.{dec_lt}
use Rattle.std.specs.Prelude.{if◌then◌else◌}
use Rattle.laws.specs.Choice.{when}
use Rattle.laws.specs.BoolLaws.{both, both_left, clash}
use Rattle.laws.specs.RangeLaws.{any_hit}
use Rattle.laws_picks.specs.PickLaws.{lowest_passes, lowest_zero}
use Rattle.plan.specs.Limits.{max_locks}
use Rattle.board_seats.specs.Seats.{is_v, is_n, seat, holds_it}
use Rattle.board_rules.specs.Facts.{Facts}
use Rattle.board_rules.specs.declared.Board.{Board}
use Rattle.board_rules.specs.Board.{left_of, holds}
use Rattle.board_keeps.specs.Fair.{InV, InN}
use Rattle.clock_rules.specs.Clock.{done_of}
use Rattle.clock_steps.specs.Done.{by_seat_law}
use Rattle.clock_times.specs.Times.{at_begin, at_end, at_mutex, lock_cell, mutex_with, lock_with, lengths_cell, timing_in, Ordered}
use Rattle.clock_marks.specs.Marks.{at_place, at_done, done_cell, place_cell, done_in, Ended, Mirrors}
use Rattle.clock_dues.specs.Picking.{mutex_at}
use Rattle.clock_dues.specs.Places.{begins_at, ends_at}
use Rattle.clock_plains.specs.Plains.{Goes}
use Rattle.clock_plains.specs.PlainMirrors.{ended_later}
use Rattle.clock_reaches.specs.Stretches.{next_cell, Stretch}

in_names : {v n : ℕ} → InV v → InN n → (is_v v && is_n n) ≡ true
in_names {v} {n} i j =
    both (is_v v) (is_n n) (both _ _ (le-leb 1 v i.from) (le-leb v 16 i.to)) (both _ _ (le-leb 1 n j.from) (le-leb n 8 j.to))

-- what stands at a place, where d does not or where nothing is at it
at_nothing : (x : List ℕ) (part v n q d : ℕ) → (q < max_locks → 0 < lock_cell x at_mutex v n (q + 1) → lock_cell x part v n (q + 1) ≡ d → ⊥) → mutex_at x part v n q d ≡ 0
at_nothing x part v n q d h =
    go (ltb q max_locks) refl (eqb (get_or x (part + ((seat v n - 1) * max_locks + q)) 0) d) refl
  where
    m : ℕ
    m = get_or x (at_mutex + ((seat v n - 1) * max_locks + q)) 0

    go : (a : Bool) → ltb q max_locks ≡ a → (c : Bool) → eqb (get_or x (part + ((seat v n - 1) * max_locks + q)) 0) d ≡ c → (if a then (if c then m else 0) else 0) ≡ 0
    go true e true f =
        let z : q + 1 - 1 ≡ q = omega arith in
        ⊎_elim (λ y. y) (λ y. absurd (h (ltb-true q max_locks e) (rw z y) (rw z (eqb-true _ d f)))) (eq-zero-or-pos m)
    go true e false f = refl
    go false e c f = refl

-- what (v, n) is to ask for, where m is the mutex whose section begins
abbrev asked : Board → ℕ → ℕ → ℕ → ℕ
asked b v n m = if holds b v n m then 0 else m

-- or the mutex of section q + 1 is held
at_held_law : (x : List ℕ) (part v n q d : ℕ) (b : Board) → (q < max_locks → 0 < lock_cell x at_mutex v n (q + 1) → lock_cell x part v n (q + 1) ≡ d → holds b v n (lock_cell x at_mutex v n (q + 1)) ≡ true) →
    asked b v n (mutex_at x part v n q d) ≡ 0
at_held_law x part v n q d b h =
    go (ltb q max_locks) refl (eqb (get_or x (part + ((seat v n - 1) * max_locks + q)) 0) d) refl
  where
    m : ℕ
    m = get_or x (at_mutex + ((seat v n - 1) * max_locks + q)) 0

    by : (t : Bool) → (let z : ℕ = 0 in if t then z else z) ≡ 0
    by true = refl
    by false = refl

    none : asked b v n 0 ≡ 0
    none = by (holds b v n 0)

    go : (a : Bool) → ltb q max_locks ≡ a → (c : Bool) → eqb (get_or x (part + ((seat v n - 1) * max_locks + q)) 0) d ≡ c →
        asked b v n (if a then (if c then m else 0) else 0) ≡ 0
    go true e true f =
        let z : q + 1 - 1 ≡ q = omega arith in
        ⊎_elim (λ y. ap (asked b v n) y ∙ none)
        (λ y.
        let t : holds b v n m ≡ true = rw z at (h (ltb-true q max_locks e) (rw z y) (rw z (eqb-true _ d f))) in
        ap (λ (u : Bool). if u then 0 else m) t)
        (eq-zero-or-pos m)
    go true e false f = none
    go false e c f = none

module _ (F : Facts) {x : List ℕ} {b : Board} {k : List ℕ} {v n : ℕ} (i : InV v) (j : InN n) (o : Ordered x) (m : Mirrors (timing_in F x) x b k) where
  -- the sections that have ended, while the job is unfinished
  pub place_is : done_cell k v n < lengths_cell x v n → Ended x v n (done_cell k v n) (place_cell k v n)
  unfolding timing_in when
  place_is l = m.placed v n i j (rw (in_names i j) l)

  -- A STRETCH within the budget
  pub goes_for : {r : ℕ} → Stretch x b.holder k v n r → r < left_of b v → Goes (timing_in F x) b (done_in k) v n r
  unfolding timing_in when
  goes_for {r} s l =
      let e = by_seat_law (λ v n. done_cell k v n) v n i j in
      let u = s.unfinished in
      let a = place_is (omega arith) in
      record {
        v_in = i;
        n_in = j;
        budget = l;
        unfinished = rw (in_names i j, e) u;
        no_ask_law = λ y z.
            let w = ended_later o i j y a (λ f g. let p = s.ends f g in omega arith) in
            rw (in_names i j, e, sym (begins_at o i j w)) (at_held_law x at_begin v n (place_cell k v n) (done_cell k v n + y) b (λ f g h. s.asks f g y z h));
        no_end = λ y z.
            let w = ended_later o i j y a (λ f g. let p = s.ends f g in omega arith) in
            rw (in_names i j, e, sym (ends_at o i j w)) (at_nothing x at_end v n (place_cell k v n) (done_cell k v n + y + 1) (λ f g h. let p = s.ends f g in omega arith));
      }

  -- WHO GOES ON ends no section
  pub goes_ended : {r : ℕ} → Goes (timing_in F x) b (done_in k) v n r → Ended x v n (done_cell k v n + r) (place_cell k v n)
  unfolding timing_in when
  goes_ended {r} g =
      ended_later o i j r a (λ f h. ⊎_elim (λ y. y) (λ y. absurd (ends_there f h y)) (either (dec_lt (done_cell k v n + r) (next_cell x at_end k v n))))
    where
      e : done_of (done_in k) v n ≡ done_cell k v n
      e = by_seat_law (λ v n. done_cell k v n) v n i j

      u : done_cell k v n + r < lengths_cell x v n
      u = rw (in_names i j, e) at g.unfinished

      a : Ended x v n (done_cell k v n) (place_cell k v n)
      a = place_is (omega (arith, u))

      either : {p q : ℕ} → Dec (p < q) → (p < q) ⊎ (q ≤ p)
      either (yes y) = inl y
      either (no y) = inr (omega arith)

      passes : ℕ → ℕ → Bool
      passes d y = ltb 0 (lock_cell x at_mutex v n y) && eqb (lock_cell x at_end v n y) d

      some_end : (y : ℕ) → 0 < y → y ≤ max_locks → 0 < lock_cell x at_mutex v n y → mutex_with x at_end v n (lock_cell x at_end v n y) ≡ 0 → ⊥
      some_end y p q h z =
          let d = lock_cell x at_end v n y in
          let w = lock_with x at_end v n d in
          let nz : w ≡ 0 → ⊥ = λ c. clash (any_hit max_locks y (passes d) p q (both _ _ (lt-ltb 0 _ h) (eq-eqb d d refl))) ((lowest_zero max_locks (passes d)).1 c) in
          let t = lowest_passes max_locks (passes d) (omega arith) in
          let c = ltb-true 0 (lock_cell x at_mutex v n w) (both_left (ltb 0 (lock_cell x at_mutex v n w)) _ t) in
          let s : lock_cell x at_mutex v n w ≡ 0 = rw (ne_eqb w 0 nz) at z in
          omega arith

      ends_there : place_cell k v n < max_locks → 0 < next_cell x at_mutex k v n → next_cell x at_end k v n ≤ done_cell k v n + r → ⊥
      ends_there f h l =
          let c = a.coming (place_cell k v n + 1) (omega arith) (omega arith) h in
          let y = next_cell x at_end k v n - done_cell k v n - 1 in
          let z : mutex_with x at_end v n (done_of (done_in k) v n + y + 1) ≡ 0 = rw (in_names i j) at (g.no_end y (omega arith)) in
          let w : done_of (done_in k) v n + y + 1 ≡ next_cell x at_end k v n = omega (arith, e) in
          some_end (place_cell k v n + 1) (omega arith) (omega arith) h (ap (λ d. mutex_with x at_end v n d) (sym w) ∙ z)

-- THE CODE'S VALUES: the seat s of (v, n), the place q and the ticks d that stand for it
module _ (x hs k : List ℕ) {v n s q d : ℕ} (i : InV v) (j : InN n) (o : Ordered x) (l : done_cell k v n < lengths_cell x v n) (h : Ended x v n (done_cell k v n) (place_cell k v n))
    (e : s ≡ seat v n) (f : d ≡ get_or k (at_done + s) 0) (g : q ≡ get_or k (at_place + s) 0) where
  done_is : d ≡ done_cell k v n
  done_is = f ∙ ap (λ s. get_or k (at_done + s) 0) e

  place_of : q ≡ place_cell k v n
  place_of = g ∙ ap (λ s. get_or k (at_place + s) 0) e

  -- the job's ticks
  pub all_is : {a : ℕ} → a ≡ get_or x (159 + s) 0 → a ≡ lengths_cell x v n
  all_is w = let z : 159 + seat v n ≡ 160 + (seat v n - 1) = let y = j.from in omega arith in w ∙ ap (λ s. get_or x (159 + s) 0) e ∙ ap (λ y. get_or x y 0) z

  pub rest_some : {a : ℕ} → a ≡ get_or x (159 + s) 0 → d < a
  rest_some w = let y = all_is w in let u = done_is in omega arith

  -- a cell of the next section
  cell_is : (at : ℕ) {a : ℕ} → a ≡ get_or x (at + ((s - 1) * 8 + q)) 0 → a ≡ next_cell x at k v n
  cell_is at w =
      let z : place_cell k v n + 1 - 1 ≡ place_cell k v n = omega arith in
      w ∙ ap₂ (λ s q. get_or x (at + ((s - 1) * 8 + q)) 0) e place_of ∙ ap (λ y. get_or x (at + ((seat v n - 1) * 8 + y)) 0) (sym z)

  -- no section is to come
  pub stretch_free : {r a : ℕ} → (q < 8 → 0 < get_or x (2336 + ((s - 1) * 8 + q)) 0 → ⊥) → a ≡ get_or x (159 + s) 0 → d + r < a → Stretch x hs k v n r
  stretch_free {r} none g u =
      let y = all_is g in
      let w = done_is in
      let p = place_of in
      let c = cell_is at_mutex refl in
      record { unfinished = omega arith; ends = λ a b. absurd (none (omega arith) (omega arith)); asks = λ a b. absurd (none (omega arith) (omega arith)) }

  module _ {a y z : ℕ} (to : q < 8) (ma : a ≡ get_or x (2336 + ((s - 1) * 8 + q)) 0) (nz : a ≡ 0 → ⊥) (by : y ≡ get_or x (288 + ((s - 1) * 8 + q)) 0) (ez : z ≡ get_or x (1312 + ((s - 1) * 8 + q)) 0) where
    -- it is under way or to come
    pub end_coming : d < z
    end_coming =
        let w = done_is in
        let p = place_of in
        let c = cell_is at_mutex ma in
        let u = cell_is at_end ez in
        let t = h.coming (place_cell k v n + 1) (omega arith) (omega arith) (omega arith) in
        omega arith

    -- until it begins
    pub stretch_before : {r : ℕ} → d + r ≤ y → Stretch x hs k v n r
    stretch_before {r} r-to =
        let w = done_is in
        let p = place_of in
        let c = cell_is at_mutex ma in
        let u = cell_is at_begin by in
        let t = o.some_ticks v n (place_cell k v n + 1) i j (omega arith) (omega arith) (omega arith) in
        let b = o.in_lengths v n (place_cell k v n + 1) i j (omega arith) (omega arith) (omega arith) in
        record { unfinished = omega arith; ends = λ _ _. omega arith; asks = λ _ _ g l m. absurd (omega arith) }

    -- until it ends
    pub stretch_within : {r : ℕ} → d + r < z → (y ≡ d → holds_it hs v n a ≡ true) → (y < d) ⊎ (y ≡ d) → Stretch x hs k v n r
    stretch_within {r} r-to held side =
        let w = done_is in
        let p = place_of in
        let c = cell_is at_mutex ma in
        let u = cell_is at_begin by in
        let t = cell_is at_end ez in
        let b = o.in_lengths v n (place_cell k v n + 1) i j (omega arith) (omega arith) (omega arith) in
        record {
          unfinished = omega arith;
          ends = λ _ _. omega arith;
          asks = λ _ _ g l m. ⊎_elim (λ q. absurd (omega arith)) (λ q. subst (λ a. holds_it hs v n a ≡ true) c (held q)) side;
        }

-- fewer ticks
pub stretch_less : {x hs k : List ℕ} {v n r r' : ℕ} → Stretch x hs k v n r → r' ≤ r → Stretch x hs k v n r'
stretch_less s l = let u = s.unfinished in record { unfinished = omega arith; ends = λ a b. let p = s.ends a b in omega arith; asks = λ a b j m. s.asks a b j (omega arith) }
