-- Laws of the loop over the releases of a tick.
use Rattle.std.specs.Prelude.{ℕ, ◌+◌, ◌-◌, ◌*◌, ◌<◌, ◌≤◌, ◌≡◌, refl, List, Bool, true, false, ltb, leb, get_or, set}
use Rattle.std.proofs.Common.{sym, ap, subst, subst₂, ◌∙◌, arith, le_antisymm, le-leb}
use Rattle.std.proofs.Math.Decide.{dec_le}
use Rattle.std.specs.Prelude.{if◌then◌else◌}
use Rattle.laws.specs.Choice.{when}
use Rattle.laws.specs.BoolLaws.{both}
use Rattle.plan.specs.Limits.{max_v, most_n}
use Rattle.board_seats.specs.Seats.{is_v, is_n, seat}
use Rattle.board_rules.specs.Facts.{Facts}
use Rattle.board_keeps.specs.Fair.{InV, InN}
use Rattle.clock_times.specs.Times.{at_lengths, lengths_cell, timing_in}
use Rattle.clock_marks.specs.Marks.{at_done, at_place, Sized}
use Rattle.clock_marks.specs.Changes.{PutReady}
use Rattle.clock_nexts.specs.Nexts.{places, place_of, row_at, is_due, Row}
use Rattle.clock_misses.specs.DueLaws.{no_row_due}
use Rattle.clock_supplies.specs.SizedLaws.{sized_done, sized_place, sized_put_ready}
use Rattle.clock_mirrors.specs.Writes.{job_put}
use Rattle.clock_mirrors.specs.Works.{release_mirrors}
use Rattle.clock_releases.specs.Opens.{Release, Releases}

-- ONE RELEASE: three writes
pub release_is : {x k k' : List ℕ} {v n : ℕ} → Sized k → InV v → InN n → {on : Bool} → on ≡ ltb 0 (get_or x (at_lengths - 1 + seat v n) 0) →
    PutReady (set (set k (at_done + seat v n) 0) (at_place + seat v n) 0) k' v n on → Release x k k' v n
release_is {x} {k} {k'} {v} {n} z i j e p = record {
  mid = set (set k (at_done + seat v n) 0) (at_place + seat v n) 0;
  job = job_put v n 0 0 i j z;
  ready = subst (λ c. PutReady (set (set k (at_done + seat v n) 0) (at_place + seat v n) 0) k' v n c) e p;
  sized = sized_put_ready (sized_place (sized_done z v n 0 i j) v n 0 i j) i p;
}

-- the list after the first write, and after the second
pub done_sized : {k k₁ : List ℕ} {v n : ℕ} → Sized k → InV v → InN n → k₁ ≡ set k (at_done + seat v n) 0 → Sized k₁
done_sized {v = v} {n} z i j e = subst Sized (sym e) (sized_done z v n 0 i j)

pub place_sized : {k k₁ : List ℕ} {v n : ℕ} → Sized k → InV v → InN n → k₁ ≡ set k (at_place + seat v n) 0 → Sized k₁
place_sized {v = v} {n} z i j e = subst Sized (sym e) (sized_place z v n 0 i j)

-- the writes one after the other
pub release_wrote : {x k k₁ k₂ k' : List ℕ} {v n e s : ℕ} → Sized k → InV v → InN n → k₁ ≡ set k (at_done + seat v n) 0 → k₂ ≡ set k₁ (at_place + seat v n) 0 →
    e ≡ get_or x (159 + s) 0 → s ≡ seat v n → PutReady k₂ k' v n (ltb 0 e) → Release x k k' v n
release_wrote {x} {k} {k₁} {k₂} {k'} {v} {n} {e} {s} z i j a b c d p =
    release_is z i j (ap (ltb 0) (c ∙ ap (λ y. get_or x (159 + y) 0) d))
    (subst (λ y. PutReady y k' v n (ltb 0 e)) (b ∙ ap (λ y. set y (at_place + seat v n) 0) a) p)

-- the lengths of a task
lengths_at : (F : Facts) (x : List ℕ) (v n : ℕ) → InV v → InN n → (timing_in F x).lengths v n ≡ get_or x (at_lengths - 1 + seat v n) 0
unfolding timing_in when
lengths_at F x v n i j =
    ap (λ (c : Bool). when c (lengths_cell x v n)) (both (is_v v) (is_n n) (both (leb 1 v) (leb v max_v) (le-leb 1 v i.from) (le-leb v max_v i.to)) (both (leb 1 n) (leb n most_n) (le-leb 1 n j.from) (le-leb n most_n j.to)))
    ∙ ap (λ c. get_or x c 0) (omega arith)

module _ {x k k' : List ℕ} {v n : ℕ} (r : Release x k k' v n) (i : InV v) (j : InN n) where
  -- another place is as it was
  pub release_else : (y : ℕ) → 36 ≤ y → (y ≡ at_done + seat v n → ⊥) → (y ≡ at_place + seat v n → ⊥) → get_or k' y 0 ≡ get_or k y 0
  release_else y l a b = r.ready.else_same y (λ e. omega arith) (λ e. omega arith) ∙ r.job.else_same y a b

  -- its own ticks done
  pub release_own : get_or k' (at_done + seat v n) 0 ≡ 0
  release_own = r.ready.else_same (at_done + seat v n) (λ e. omega arith) (λ e. omega arith) ∙ r.job.done_is

-- SEAT AFTER SEAT
module _ {x y : List ℕ} {t : ℕ} where
  -- none of some seats is due
  pub releases_none : {k : List ℕ} (r s : ℕ) → Sized k → ((j : ℕ) → r < j → j ≤ s → is_due y t (place_of j) ≡ false) → Releases x k y t r s k
  releases_none {k} r s z none = record {
    sized = z;
    past = λ j a b. sym (ap (λ c. if c then 0 else get_or k (at_done + j) 0) (none j a b));
    rest = λ j a out. refl;
    mirrors = λ F b p o idle m. m;
  }

  -- one is
  pub releases_one : {k k' : List ℕ} {v n : ℕ} → InV v → InN n → is_due y t (place_of (seat v n)) ≡ true → Release x k k' v n → Releases x k y t (seat v n - 1) (seat v n) k'
  releases_one {k} {k'} {v} {n} i j e r = record {
    sized = r.sized;
    past = λ y' a b.
        let q : y' ≡ seat v n = omega arith in
        ap (λ z. get_or k' (at_done + z) 0) q ∙ release_own r i j
        ∙ sym (ap (λ c. if c then 0 else get_or k (at_done + y') 0) (ap (λ z. is_due y t (place_of z)) q ∙ e));
    rest = λ y' a out. release_else r i j (at_done + y') (omega arith) (λ z. out (omega arith) (omega arith)) (λ z. omega arith);
    mirrors = λ F b p o idle m.
        release_mirrors p m o v n i j r.job
        (subst (λ c. PutReady r.mid k' v n (ltb 0 c)) (sym (lengths_at F x v n i j)) r.ready)
        (idle.none (seat v n) (omega arith) (omega arith) e);
  }

  -- some, and then more
  pub releases_then : {k k₁ k₂ : List ℕ} {r s u : ℕ} → r ≤ s → s ≤ u → u ≤ max_v * most_n → Releases x k y t r s k₁ → Releases x k₁ y t s u k₂ → Releases x k y t r u k₂
  releases_then {k} {k₁} {k₂} {r} {s} {u} l m n g h = record {
    sized = h.sized;
    past = λ j a b. at_place_law j a b (dec_le j s);
    rest = λ j a out. h.rest j a (λ c d. out (omega arith) d) ∙ g.rest j a (λ c d. out c (omega arith));
    mirrors = λ F b p o idle z. h.mirrors F b p o idle (g.mirrors F b p o idle z);
  }
    where
      at_place_law : (j : ℕ) → r < j → j ≤ u → Dec (j ≤ s) → get_or k₂ (at_done + j) 0 ≡ (if is_due y t (place_of j) then 0 else get_or k (at_done + j) 0)
      at_place_law j a b (yes q) = h.rest j (omega arith) (λ c d. omega arith) ∙ g.past j a q
      at_place_law j a b (no q) =
          h.past j (omega arith) b
          ∙ ap (λ c. if is_due y t (place_of j) then 0 else c) (g.rest j (omega arith) (λ c d. omega arith))

  -- the tasks of v: of the first n + 1 the last
  module _ {k k' : List ℕ} {v n s : ℕ} (i : InV v) (l : n < most_n) (e : s ≡ seat v (n + 1)) {due : Bool} (test : due ≡ is_due y t (15 + s)) (h : Releases x k y t (seat v 0) (seat v n) k') where
    due_here : due ≡ is_due y t (place_of (seat v (n + 1)))
    due_here = test ∙ ap (λ z. is_due y t (place_of z)) e

    pub releases_leave : due ≡ false → Releases x k y t (seat v 0) (seat v (n + 1)) k'
    releases_leave q =
        releases_then (omega arith) (omega arith) (omega arith) h
        (releases_none (seat v n) (seat v (n + 1)) h.sized
        (λ j a b. let z : j ≡ seat v (n + 1) = omega arith in ap (λ c. is_due y t (place_of c)) z ∙ sym due_here ∙ q))

    pub releases_take : {k₁ : List ℕ} → due ≡ true → Release x k' k₁ v (n + 1) → Releases x k y t (seat v 0) (seat v (n + 1)) k₁
    releases_take {k₁} q r =
        let z : seat v (n + 1) - 1 ≡ seat v n = omega arith in
        releases_then (omega arith) (omega arith) (omega arith) h
        (subst (λ c. Releases x k' y t c (seat v (n + 1)) k₁) z (releases_one i (record { from = omega arith; to = omega arith }) (sym due_here ∙ q) r))

  pub releases_row : {k k' : List ℕ} (v : ℕ) {n : ℕ} → Releases x k y t (seat v 0) (seat v n) k' → n ≤ most_n → most_n ≤ n → Releases x k y t (seat v 0) (seat v most_n) k'
  releases_row {k} {k'} v h l m = subst (λ n. Releases x k y t (seat v 0) (seat v n) k') (le_antisymm l m) h

  -- the VCPUs: of the first i + 1 the last
  module _ {k k' : List ℕ} {i : ℕ} (l : i < max_v) (h : Releases x k y t 0 (i * most_n) k') where
    pub rows_leave : Row x y t (i + 1) → (get_or y (places + i) 0 ≡ t → ⊥) → Releases x k y t 0 ((i + 1) * most_n) k'
    rows_leave r ne =
        let f = r.row_from in
        let e : row_at y (i + 1) ≡ get_or y (places + i) 0 = ap (λ c. get_or y c 0) (omega arith) in
        let u : t < row_at y (i + 1) = omega (arith, ne) in
        releases_then (omega arith) (omega arith) (omega arith) h
        (releases_none (i * most_n) ((i + 1) * most_n) h.sized
        (λ j a b.
        let q : seat (i + 1) (j - i * most_n) ≡ j = omega arith in
        ap (λ c. is_due y t (place_of c)) (sym q) ∙ no_row_due r u (j - i * most_n) (record { from = omega arith; to = omega arith })))

    pub rows_take : {k₁ : List ℕ} → Releases x k' y t (seat (i + 1) 0) (seat (i + 1) most_n) k₁ → Releases x k y t 0 ((i + 1) * most_n) k₁
    rows_take {k₁} r =
        let a : seat (i + 1) 0 ≡ i * most_n = omega arith in
        let b : seat (i + 1) most_n ≡ (i + 1) * most_n = omega arith in
        releases_then (omega arith) (omega arith) (omega arith) h (subst₂ (λ c d. Releases x k' y t c d k₁) a b r)

  pub rows_all : {k k' : List ℕ} {i : ℕ} → Releases x k y t 0 (i * most_n) k' → i ≤ max_v → max_v ≤ i → Releases x k y t 0 (max_v * most_n) k'
  rows_all {k} {k'} h l m = subst (λ i. Releases x k y t 0 (i * most_n) k') (le_antisymm l m) h
