-- Laws of the loops that write the nexts.
use Rattle.std.specs.Prelude.{ℕ, ◌+◌, ◌-◌, ◌<◌, ◌≤◌, ◌≡◌, refl, List, length, get_or, set}
use Rattle.std.proofs.Common.{sym, ap, subst, ◌∙◌, ⊎_elim, le_antisymm, arith, below_more, eq-eqb, ne_eqb, length-set, get_or-set_same, get_or-set_other}
use Rattle.laws.specs.BoolLaws.{same_or_not}
use Rattle.plan.specs.Limits.{max_v, most_n}
use Rattle.board_seats.specs.Seats.{seat}
use Rattle.board_keeps.specs.Fair.{InV, InN}
use Rattle.clock_nexts.specs.Nexts.{Coming, places, place_of, period_at, next_at, task_next, row_at, at_tops, at_jobs, nexts_length, Tops, Row, Jobs, Periods, renewed, renewal, Wrote, Soonest, TopsRenewed, RowRenewed, RowsRenewed, JobsRenewed}
use Rattle.clock_nexts.specs.LeastLaws.{coming_from, coming_later, coming_renewed}

-- CELLS FROM a ON
module _ {f : ℕ → ℕ} {y : List ℕ} {a : ℕ} where
  pub wrote_none : Wrote f y y a a
  wrote_none = record { length_same = refl; new = λ j l m. absurd (omega arith); else_same = λ j h. refl }

  module _ {y' : List ℕ} {i : ℕ} (h : Wrote f y y' a i) where
    -- the cell that is yet to be written
    wrote_old : next_at y' i ≡ next_at y i
    wrote_old = h.else_same i (λ u v. omega arith)

    pub wrote_more : {r : ℕ} → a ≤ i → i < length y → r ≡ f i → Wrote f y (set y' i r) a (i + 1)
    wrote_more {r} l m q = record {
      length_same = length-set y' i r ∙ h.length_same;
      new = λ j u v.
          below_more (λ j. a ≤ j → get_or (set y' i r) j 0 ≡ f j) i
          (λ j v u. get_or-set_other y' i j r 0 (λ z. omega arith) ∙ h.new j u v)
          (λ u. get_or-set_same y' i r 0 (let s = h.length_same in omega arith) ∙ q)
          j v u;
      else_same = λ j out.
          get_or-set_other y' i j r 0 (λ z. out (omega arith) (omega arith))
          ∙ h.else_same j (λ u v. out u (omega arith));
    }

    pub wrote_to : {n : ℕ} → i ≤ n → n ≤ i → Wrote f y y' a n
    wrote_to l m = subst (Wrote f y y' a) (le_antisymm l m) h

-- a next by the test of its tick
pub renewed_now : (p y t : ℕ) → y ≡ t → t + p ≡ renewed p y t
renewed_now p y t e = rw (eq-eqb y t e)

pub renewed_not : (p y t : ℕ) → (y ≡ t → ⊥) → y ≡ renewed p y t
renewed_not p y t ne = rw (ne_eqb y t ne)

-- one more is renewed
module _ (x : List ℕ) (t : ℕ) {y y' : List ℕ} {a i : ℕ} (h : Wrote (renewal x y t) y y' a i) where
  pub renewal_here : {r : ℕ} → r ≡ renewed (period_at x i) (next_at y' i) t → r ≡ renewal x y t i
  renewal_here q = q ∙ ap (λ z. renewed (period_at x i) z t) (wrote_old h)

  pub renewal_more : {r : ℕ} → length y ≡ nexts_length → a ≤ i → i < places → r ≡ renewed (period_at x i) (next_at y' i) t → Wrote (renewal x y t) y (set y' i r) a (i + 1)
  renewal_more e l m q = wrote_more h l (omega arith) (renewal_here q)

-- WHAT IS SAID OF SAME CELLS
coming_kept : {p t y y' : ℕ} → y' ≡ y → Coming p t y → Coming p t y'
coming_kept {p} {t} e h = subst (Coming p t) (sym e) h

module _ {x y y' : List ℕ} {t : ℕ} where
  pub tops_kept : ((i : ℕ) → i < max_v → next_at y' i ≡ next_at y i) → get_or y' at_tops 0 ≡ get_or y at_tops 0 → Tops x y t → Tops x y' t
  tops_kept same e h = record {
    nexts = λ i l. coming_kept (same i l) (h.nexts i l);
    tops_from = let z = h.tops_from in omega arith;
    tops_to_law = λ i l. let z = h.tops_to_law i l in let q = same i l in omega arith;
  }

  pub row_kept : {v : ℕ} → ((n : ℕ) → InN n → task_next y' v n ≡ task_next y v n) → row_at y' v ≡ row_at y v → Row x y t v → Row x y' t v
  row_kept same e h = record {
    nexts = λ n j. coming_kept (same n j) (h.nexts n j);
    row_from = let z = h.row_from in omega arith;
    row_to = λ n j. let z = h.row_to n j in let q = same n j in omega arith;
  }

  pub jobs_kept : ((j : ℕ) → max_v ≤ j → j < at_tops → get_or y' j 0 ≡ get_or y j 0) → get_or y' at_jobs 0 ≡ get_or y at_jobs 0 → Jobs x y t → Jobs x y' t
  jobs_kept same e h = record {
    rows = λ v i. row_kept (λ n j. same (place_of (seat v n)) (omega arith) (omega arith)) (same (places - 1 + v) (omega arith) (omega arith)) (h.rows v i);
    jobs_from = let z = h.jobs_from in omega arith;
    jobs_to = λ v i. let z = h.jobs_to v i in let q = same (places - 1 + v) (omega arith) (omega arith) in omega arith;
  }

-- LATER, up to the bounds
module _ {x y : List ℕ} {t : ℕ} (u : ℕ) (l : t ≤ u) where
  pub tops_later : u ≤ get_or y at_tops 0 → Tops x y t → Tops x y u
  tops_later m h = record {
    nexts = λ i b. coming_later (h.nexts i b) u l (let z = h.tops_to_law i b in omega arith);
    tops_from = m;
    tops_to_law = h.tops_to_law;
  }

  pub row_later : {v : ℕ} → u ≤ row_at y v → Row x y t v → Row x y u v
  row_later m h = record {
    nexts = λ n j. coming_later (h.nexts n j) u l (let z = h.row_to n j in omega arith);
    row_from = m;
    row_to = h.row_to;
  }

  pub jobs_later : u ≤ get_or y at_jobs 0 → Jobs x y t → Jobs x y u
  jobs_later m h = record {
    rows = λ v i. row_later (let z = h.jobs_to v i in omega arith) (h.rows v i);
    jobs_from = m;
    jobs_to = h.jobs_to;
  }

-- WHEN TICK t IS OVER
module _ {x y : List ℕ} {t : ℕ} (periods : Periods x) (long : length y ≡ nexts_length) (to : t ≤ 1000000) where
  -- the cells from a to before i, and their least in a cell q behind them
  module _ {y₁ : List ℕ} {a i r : ℕ} (q : ℕ) (w : Wrote (renewal x y t) y y₁ a i) (s : Soonest (renewal x y t) a i r) (b : q < nexts_length) where
    cell_other : (j : ℕ) → (j ≡ q → ⊥) → (a ≤ j → j < i → ⊥) → get_or (set y₁ q r) j 0 ≡ get_or y j 0
    cell_other j ne out = get_or-set_other y₁ q j r 0 ne ∙ w.else_same j out

    cell_least : get_or (set y₁ q r) q 0 ≡ r
    cell_least = get_or-set_same y₁ q r 0 (let z = w.length_same in omega arith)

    module _ (j : ℕ) (l : a ≤ j) (m : j < i) (p : j < places) (ne : j ≡ q → ⊥) where
      cell_new : get_or (set y₁ q r) j 0 ≡ renewal x y t j
      cell_new = get_or-set_other y₁ q j r 0 ne ∙ w.new j l m

      cell_coming : Coming (period_at x j) t (next_at y j) → Coming (period_at x j) (t + 1) (get_or (set y₁ q r) j 0)
      cell_coming h = coming_kept cell_new (coming_renewed h (periods.to j p) to)

      cell_above : get_or (set y₁ q r) q 0 ≤ get_or (set y₁ q r) j 0
      cell_above = let z = s.least j l m in let c = cell_new in let e = cell_least in omega arith

    -- all of them come after t
    bound_from : ((j : ℕ) → a ≤ j → j < i → j < places) → ((j : ℕ) → a ≤ j → j < i → Coming (period_at x j) t (next_at y j)) → t + 1 ≤ get_or (set y₁ q r) q 0
    bound_from p h =
        let e = cell_least in
        let z = s.most (t + 1) (omega arith) (λ j l m. coming_from (coming_renewed (h j l m) (periods.to j (p j l m)) to) (omega arith)) in
        omega arith

  -- of the tops
  pub tops_renewed : {y₁ : List ℕ} {r : ℕ} → Tops x y t → Wrote (renewal x y t) y y₁ 0 max_v → Soonest (renewal x y t) 0 max_v r → TopsRenewed x y (set y₁ at_tops r) t
  tops_renewed {y₁} {r} h w s = record {
    length_same = length-set y₁ at_tops r ∙ w.length_same;
    tops = record {
      nexts = λ i l. cell_coming at_tops w s (omega arith) i (omega arith) l (omega arith) (λ e. omega arith) (h.nexts i l);
      tops_from = bound_from at_tops w s (omega arith) (λ j l m. omega arith) (λ j l m. h.nexts j m);
      tops_to_law = λ i l. cell_above at_tops w s (omega arith) i (omega arith) l (omega arith) (λ e. omega arith);
    };
    else_same = λ j l ne. cell_other at_tops w s (omega arith) j ne (λ u v. omega arith);
  }

  -- of a row
  pub row_renewed : {y₁ : List ℕ} {v r a i : ℕ} → InV v → a ≡ place_of (seat v 1) → i ≡ a + most_n → Row x y t v → Wrote (renewal x y t) y y₁ a i → Soonest (renewal x y t) a i r → {q : ℕ} → q ≡ places - 1 + v →
      RowRenewed x y (set y₁ q r) t v
  row_renewed {y₁} {v} {r} {a} {i} inV ea ei h w s {q} eq = subst (λ q. RowRenewed x y (set y₁ q r) t v) (sym eq) here
    where
      -- the task of a cell
      at_cell : (j : ℕ) → a ≤ j → j < i → Coming (period_at x j) t (next_at y j)
      at_cell j l m =
          let n = j - a + 1 in
          let e : place_of (seat v n) ≡ j = omega arith in
          subst (λ c. Coming (period_at x c) t (next_at y c)) e (h.nexts n (record { from = omega arith; to = omega arith }))

      here : RowRenewed x y (set y₁ (places - 1 + v) r) t v
      here = let c = places - 1 + v in record {
        length_same = length-set y₁ c r ∙ w.length_same;
        row = record {
          nexts = λ n j. cell_coming c w s (omega arith) (place_of (seat v n)) (omega arith) (omega arith) (omega arith) (λ e. omega arith) (h.nexts n j);
          row_from = bound_from c w s (omega arith) (λ j l m. omega arith) at_cell;
          row_to = λ n j. cell_above c w s (omega arith) (place_of (seat v n)) (omega arith) (omega arith) (omega arith) (λ e. omega arith);
        };
        else_same = λ j out ne. cell_other c w s (omega arith) j ne (λ u l. out (omega arith) (omega arith));
      }

-- ROW AFTER ROW
module _ {x y : List ℕ} {t : ℕ} where
  pub rows_none : RowsRenewed x y y t 0
  rows_none = record { within = omega arith; length_same = refl; past = λ w a b. absurd (omega arith); else_same = λ j a b. refl }

  module _ {y' : List ℕ} {v : ℕ} (h : RowsRenewed x y y' t v) where
    -- a row that is yet to be renewed
    pub rows_old : (w : ℕ) → v < w → w ≤ max_v → Row x y t w → Row x y' t w
    rows_old w l m r =
        row_kept (λ n j. h.else_same (place_of (seat w n)) (λ a b. omega arith) (λ a b. omega arith)) (h.else_same (places - 1 + w) (λ a b. omega arith) (λ a b. omega arith)) r

    -- no task of the row is due
    pub rows_leave : v < max_v → Row x y t (v + 1) → (get_or y' (places + v) 0 ≡ t → ⊥) → RowsRenewed x y y' t (v + 1)
    rows_leave l r ne = record {
      within = omega arith;
      length_same = h.length_same;
      past = λ w a b.
          ⊎_elim
          (λ (e : w ≡ v + 1).
          let o = rows_old (v + 1) (omega arith) (omega arith) r in
          let f = o.row_from in
          let z : row_at y' (v + 1) ≡ get_or y' (places + v) 0 = ap (λ j. get_or y' j 0) (omega arith) in
          subst (Row x y' (t + 1)) (sym e) (row_later (t + 1) (omega arith) (omega (arith, ne)) o))
          (λ (n : w ≡ v + 1 → ⊥). h.past w a (omega (arith, n)))
          (same_or_not w (v + 1));
      else_same = λ j a b. h.else_same j (λ u m. a u (omega arith)) (λ u m. b u (omega arith));
    }

    -- it is renewed
    pub rows_take : v < max_v → {y'' : List ℕ} → RowRenewed x y' y'' t (v + 1) → RowsRenewed x y y'' t (v + 1)
    rows_take l {y''} r = record {
      within = omega arith;
      length_same = r.length_same ∙ h.length_same;
      past = λ w a b.
          ⊎_elim
          (λ (e : w ≡ v + 1). subst (Row x y'' (t + 1)) (sym e) r.row)
          (λ (n : w ≡ v + 1 → ⊥).
          let m : w ≤ v = omega (arith, n) in
          row_kept (λ z j. r.else_same (place_of (seat w z)) (λ u k. omega arith) (λ e. omega arith)) (r.else_same (places - 1 + w) (λ u k. omega arith) (λ e. omega arith)) (h.past w a m))
          (same_or_not w (v + 1));
      else_same = λ j a b.
          r.else_same j (λ u m. a (omega arith) (omega arith)) (λ e. b (omega arith) (omega arith))
          ∙ h.else_same j (λ u m. a u (omega arith)) (λ u m. b u (omega arith));
    }

    pub rows_to : max_v ≤ v → RowsRenewed x y y' t max_v
    rows_to l = subst (RowsRenewed x y y' t) (le_antisymm h.within l) h

    -- all are, and the least of them stands in its cell
    pub rows_all : length y ≡ nexts_length → t ≤ 1000000 → max_v ≤ v → {r : ℕ} → Soonest (λ j. get_or y' j 0) places at_tops r → JobsRenewed x y (set y' at_jobs r) t
    rows_all long to l {r} s = record {
      length_same = length-set y' at_jobs r ∙ h.length_same;
      jobs = record {
        rows = λ w i. row_kept (λ n j. other (place_of (seat w n)) (omega arith)) (other (places - 1 + w) (omega arith)) (row w i);
        jobs_from =
            let z = s.most (t + 1) (omega arith)
            (λ j a b.
            let w = j - places + 1 in
            let e : row_at y' w ≡ get_or y' j 0 = ap (λ c. get_or y' c 0) (omega arith) in
            let f = (row w (record { from = omega arith; to = omega arith })).row_from in
            omega arith) in
            let e = here in
            omega arith;
        jobs_to = λ w i.
            let z = s.least (places - 1 + w) (omega arith) (omega arith) in
            let o = other (places - 1 + w) (omega arith) in
            let e = here in
            omega arith;
      };
      else_same = λ j a b. get_or-set_other y' at_jobs j r 0 b ∙ h.else_same j (λ u m. a u (omega arith)) (λ u m. a (omega arith) (omega arith));
    }
      where
        row : (w : ℕ) → InV w → Row x y' (t + 1) w
        row w i = h.past w i.from (let z = i.to in omega arith)

        other : (j : ℕ) → j < at_jobs → get_or (set y' at_jobs r) j 0 ≡ get_or y' j 0
        other j m = get_or-set_other y' at_jobs j r 0 (λ e. omega arith)

        here : get_or (set y' at_jobs r) at_jobs 0 ≡ r
        here = get_or-set_same y' at_jobs r 0 (let z = h.length_same in omega arith)
