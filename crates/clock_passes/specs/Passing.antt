-- Whether a task may have a mutex, by what is kept beside the board: k has the set of those tasks of v that hold one, and what each of them holds.
use Rattle.std.specs.Prelude.{ℕ, ◌+◌, ◌-◌, ◌/◌, ◌%◌, ◌<◌, ◌≤◌, ◌≡◌, refl, List, Bool, true, false, ◌&&◌, ◌||◌, not, eqb, ltb, get_or}
use Rattle.std.proofs.Common.{sym, ap, subst, ◌∙◌, ⊎_elim, eq-zero-or-pos, arith, eq-eqb, ne_eqb, eqb-true, ltb-false, le-ltb}
use Rattle.std.proofs.Math.Bool.{and-true}
use Rattle.std.proofs.lemmas.Bool.{eqb-false, not-true, not-false}
use Rattle.std.specs.Prelude.{if◌then◌else◌}
use Rattle.laws.specs.Range.{all_to}
use Rattle.laws.specs.RangeLaws.{any_at, any_hit, all_of, all_miss, miss_at, highest_le, highest_passes}
use Rattle.laws.specs.BoolLaws.{both_left, both_right, miss_right, either_left, either_right, neither_left, neither_right, both_ways, bool_cases, clash, is_true, same_or_not}
use Rattle.laws_picks.specs.Picks.{lowest}
use Rattle.laws_picks.specs.PickLaws.{lowest_least, lowest_passes, lowest_zero}
use Rattle.plan.specs.Limits.{max_m, most_n}
use Rattle.plan.specs.declared.Policy.{Policy}
use Rattle.plan.specs.declared.OverrunChoice.{OverrunChoice}
use Rattle.board_seats.specs.Seats.{is_global, ceiling_of}
use Rattle.board_rules.specs.Facts.{Facts}
use Rattle.board_rules.specs.View.{facts_in}
use Rattle.board_rules.specs.declared.Board.{Board}
use Rattle.board_rules.specs.Board.{seat, holder_of, holds, held_global, held_local, passes, may_have, good}
use Rattle.board_rules.specs.Names.{seat_some}
use Rattle.board_keeps.specs.Fair.{Fair, InV, InN, InM}
use Rattle.board_keeps.specs.Locks.{Barred}
use Rattle.board_keeps.specs.Good.{barred, barred_fails, good_sound}
use Rattle.clock_rules.specs.Clock.{Timing}
use Rattle.clock_sets.specs.Sets.{in_set, Without}
use Rattle.clock_sets.specs.SetLaws.{in_none, some_task}
use Rattle.clock_times.specs.Times.{timing_in}
use Rattle.clock_marks.specs.Marks.{board_of, global_mark, holders_cell, held_cell, held_by, Mirrors}
use Rattle.clock_mirrors.specs.Holds.{held_some}
use Rattle.laws_picks.specs.SameLaws.{all_same}

-- m, which a task of the same VCPU holds, does not bar task n: it is global, or its ceiling is below n
abbrev pub clears_by : List ℕ → ℕ → ℕ → Bool
clears_by t n m = eqb m global_mark || ltb (ceiling_of t m) n

-- what the tasks of v in the set s hold does not bar n
abbrev pub passes_in : List ℕ → List ℕ → ℕ → ℕ → ℕ → Bool
passes_in t k v n s = all_to most_n (λ y. not (in_set s y) || clears_by t n (held_cell k v y))

-- m may go to (v, n): a global mutex is free; for a local one n is above the ceiling of every local mutex that a task of v holds
abbrev pub may_by : List ℕ → List ℕ → List ℕ → ℕ → ℕ → ℕ → Bool
may_by t hs k v n m = if is_global t m then eqb (get_or hs (m - 1) 0) 0 else passes_in t k v n (holders_cell k v)

-- THE WALK over those in s: `rest` are left, and the others do not bar n
pub record Passing (t k : List ℕ) (v n s rest : ℕ) : Type 0 where
  pub few : rest < 256
  pub is : passes_in t k v n s ≡ passes_in t k v n rest

module _ {t k : List ℕ} {v n s : ℕ} where
  -- before the first
  pub passing_first : {rest : ℕ} → rest ≡ s → s < 256 → Passing t k v n s rest
  passing_first e l = record { few = omega arith; is = ap (λ r. passes_in t k v n r) (sym e) }

  module _ {rest : ℕ} (g : Passing t k v n s rest) where
    -- after the last
    pub passing_all : rest ≡ 0 → true ≡ passes_in t k v n s
    passing_all z =
        sym (g.is ∙ all_of most_n (λ y. not (in_set rest y) || clears_by t n (held_cell k v y))
        (λ y a l. either_left (not (in_set rest y)) (clears_by t n (held_cell k v y)) (ap not (ap (λ r. in_set r y) z ∙ in_none y))))

    -- the next one
    module _ (nz : rest ≡ 0 → ⊥) {x : ℕ} (e : x ≡ lowest 16 (in_set rest)) where
      pub next_in_law : InN x
      next_in_law =
          let w = any_at most_n (in_set rest) (some_task rest g.few ∙ ap not (ne_eqb rest 0 nz)) in
          let l = lowest_least 16 w.at (in_set rest) w.within.from (let h = w.within.to in omega arith) w.is in
          let o = any_hit 16 w.at (in_set rest) w.within.from (let h = w.within.to in omega arith) w.is in
          record {
            from = ⊎_elim (λ z. absurd (clash o ((lowest_zero 16 (in_set rest)).1 (sym e ∙ z)))) (λ h. h) (eq-zero-or-pos x);
            to = let h = w.within.to in omega arith;
          }

      next_is : in_set rest x ≡ true
      next_is = let h = next_in_law.from in subst (λ y. in_set rest y ≡ true) (sym e) (lowest_passes 16 (in_set rest) (omega arith))

      -- it bars n
      pub passing_out : {m : ℕ} {c : Bool} → m ≡ held_cell k v x → c ≡ clears_by t n m → not c ≡ true → false ≡ passes_in t k v n s
      passing_out {m} {c} h d z =
          let q : clears_by t n (held_cell k v x) ≡ false = ap (clears_by t n) (sym h) ∙ sym d ∙ not-true c z in
          sym (g.is ∙ all_miss most_n x (λ y. not (in_set rest y) || clears_by t n (held_cell k v y)) next_in_law.from next_in_law.to (rw (next_is, q)))

      -- it does not
      module _ {rest' : ℕ} (w : Without rest x rest') where
        -- it is left out
        left_out : in_set rest' x ≡ false
        left_out = let i = next_in_law in w.names x i.from (let h = i.to in omega arith) ∙ miss_right (in_set rest x) (not (eqb x x)) (ap not (eq-eqb x x refl))

        pub passing_less : rest' < rest
        passing_less =
            let ne : rest' ≡ rest → ⊥ = λ z. clash next_is (ap (λ r. in_set r x) (sym z) ∙ left_out) in
            let l = w.within in omega arith

        pub passing_more : {m : ℕ} {c : Bool} → m ≡ held_cell k v x → c ≡ clears_by t n m → not c ≡ false → Passing t k v n s rest'
        passing_more {m} {c} h d z = record { few = let l = w.within in let f = g.few in omega arith; is = g.is ∙ all_same most_n same }
          where
            same : (y : ℕ) → 0 < y → y ≤ most_n → (not (in_set rest y) || clears_by t n (held_cell k v y)) ≡ (not (in_set rest' y) || clears_by t n (held_cell k v y))
            same y a l =
                ⊎_elim
                (λ q. either_right (not (in_set rest y)) (clears_by t n (held_cell k v y)) (ap (λ y. clears_by t n (held_cell k v y)) q ∙ ap (clears_by t n) (sym h) ∙ sym d ∙ not-false c z)
                ∙ sym (either_left (not (in_set rest' y)) (clears_by t n (held_cell k v y)) (ap not (ap (in_set rest') q ∙ left_out))))
                (λ ne.
                let q : in_set rest y ≡ in_set rest' y = sym (w.names y a (omega arith) ∙ ap (λ (r : Bool). in_set rest y && not r) (ne_eqb y x ne) ∙ and-true (in_set rest y)) in
                ap (λ (r : Bool). not r || clears_by t n (held_cell k v y)) q)
                (same_or_not y x)

-- the local mutex that a task holds, where it holds one
record LocalHold (F : Facts) (b : Board) (v y m : ℕ) : Type 0 where
  m_in : InM m
  is_local_law : F.local_to v m ≡ true
  held : holder_of b m ≡ seat v y

local_hold : (F : Facts) (b : Board) (v y : ℕ) → 0 < held_local F b v y → LocalHold F b v y (held_local F b v y)
unfolding held_local
local_hold F b v y l =
    let m = held_local F b v y in
    let r = highest_passes max_m (λ m. F.local_to v m && holds b v y m) l in
    record {
      m_in = record { from = l; to = highest_le max_m (λ m. F.local_to v m && holds b v y m) };
      is_local_law = both_left (F.local_to v m) (holds b v y m) r;
      held = eqb-true (holder_of b m) (seat v y) (both_right (F.local_to v m) (holds b v y m) r);
    }

-- WHAT IS KEPT SAYS WHETHER A TASK PASSES THE LOCAL TEST, where it holds nothing itself
module _ {T : Timing} {x : List ℕ} {b : Board} {k : List ℕ} (mir : Mirrors T x b k) (f : Fair T.facts) (g : good T.facts b ≡ true) (v n : ℕ) (i : InV v)
    (free : (m : ℕ) → InM m → holder_of b m ≡ seat v n → ⊥) where
  -- what task (v, y) holds does not bar n
  abbrev pub clear : ℕ → Bool
  clear y = eqb (held_cell k v y) global_mark || ltb (T.facts.ceiling (held_cell k v y)) n

  abbrev pub unbarred : ℕ → Bool
  unbarred y = not (in_set (holders_cell k v) y) || clear y

  -- a task that bars n holds a local mutex
  bars : (y : ℕ) → InN y → unbarred y ≡ false → Barred T.facts (holder_of b) v n
  bars y j e = ⊎_elim (λ h. absurd (eqb-false (held_cell k v y) global_mark (neither_left (eqb (held_cell k v y) global_mark) _ not_clear) (is_held ∙ rw h))) local (bool_cases (held_global T.facts b v y))
    where
      is_held : held_cell k v y ≡ held_by T.facts b v y
      is_held = mir.held v y i j

      not_clear : clear y ≡ false
      not_clear = neither_right (not (in_set (holders_cell k v) y)) (clear y) e

      some : held_cell k v y ≡ 0 → ⊥
      some =
          eqb-false (held_cell k v y) 0
          (not-true _ (sym (mir.holders v y i j) ∙ not-false (in_set (holders_cell k v) y) (neither_left (not (in_set (holders_cell k v) y)) (clear y) e)))

      local : held_global T.facts b v y ≡ false → Barred T.facts (holder_of b) v n
      local h =
          let F = T.facts in
          let m = held_local F b v y in
          let q : held_cell k v y ≡ m = is_held ∙ rw h in
          let l : 0 < m = omega (arith, some, q) in
          let r = local_hold F b v y l in
          record {
            by = m;
            by_in = r.m_in;
            is_local_law = r.is_local_law;
            held = λ z. seat_some v y j (sym r.held ∙ z);
            by_other = free m r.m_in;
            ceiling = subst (λ z. n ≤ F.ceiling z) q (ltb-false (F.ceiling (held_cell k v y)) n (neither_right (eqb (held_cell k v y) global_mark) _ not_clear));
          }

  -- who holds a local mutex of v is a task of v
  record Holder (m : ℕ) : Type 0 where
    task : ℕ
    task_in_law : InN task
    held : holder_of b m ≡ seat v task

  local_holder : (m : ℕ) → InM m → T.facts.local_to v m ≡ true → (holder_of b m ≡ 0 → ⊥) → Holder m
  local_holder m a l nz =
      let F = T.facts in
      let o = (good_sound F b g).holding in
      let s = o.seat_in m a in
      let w = (holder_of b m - 1) / 8 + 1 in
      let y = (holder_of b m - 1) % 8 + 1 in
      let e : holder_of b m ≡ seat w y = omega arith in
      let c : InV w = record { from = omega arith; to = omega arith } in
      let j : InN y = record { from = omega arith; to = omega arith } in
      let q : w ≡ v = f.local_one w v m (f.sheet_local w y m (o.held_listed w y m c j a e) (f.local_only v m l)) l in
      record { task = y; task_in_law = j; held = e ∙ ap (λ z. seat z y) q }

  -- a task that is barred is so by what another of its VCPU holds
  barred_by : Barred T.facts (holder_of b) v n → all_to most_n unbarred ≡ false
  barred_by r = by_task (local_holder r.by r.by_in r.is_local_law r.held)
    where
      by_task : Holder r.by → all_to most_n unbarred ≡ false
      by_task h =
          let F = T.facts in
          let m = r.by in
          let y = h.task in
          let j = h.task_in_law in
          let e : held_cell k v y ≡ m = mir.held v y i j ∙ held_some F b v y f (good_sound F b g).holding m i j r.by_in h.held ∙ rw (f.local_only v m r.is_local_law) in
          let c : clear y ≡ false = rw (e, ne_eqb m global_mark (λ z. let u = r.by_in.to in omega arith), le-ltb (F.ceiling m) n r.ceiling) in
          let s : in_set (holders_cell k v) y ≡ true = mir.holders v y i j ∙ rw (e, ne_eqb m 0 (λ z. let u = r.by_in.from in omega arith)) in
          all_miss most_n y unbarred j.from j.to (rw (s, c))

  pub passes_kept : all_to most_n unbarred ≡ passes T.facts b v n
  passes_kept =
      both_ways (all_to most_n unbarred) (passes T.facts b v n)
      (λ e. is_true (passes T.facts b v n) (λ h. clash e (barred_by (barred T.facts b v n h))))
      (λ e. is_true (all_to most_n unbarred) (λ h. let r = miss_at most_n unbarred h in clash e (barred_fails T.facts b v n (bars r.at r.within r.is))))

-- and so whether it may have m
pub may_kept : (p : Policy) (c : OverrunChoice) (t : List ℕ) {x ls os : List ℕ} {ss : List Bool} {hs ws k : List ℕ} → Mirrors (timing_in (facts_in p c t) x) x (board_of ls os ss hs ws) k →
    Fair (timing_in (facts_in p c t) x).facts → good (timing_in (facts_in p c t) x).facts (board_of ls os ss hs ws) ≡ true → (v n m : ℕ) → InV v →
    ((m : ℕ) → InM m → holder_of (board_of ls os ss hs ws) m ≡ seat v n → ⊥) → may_by t hs k v n m ≡ may_have (facts_in p c t) (board_of ls os ss hs ws) v n m
unfolding timing_in facts_in may_have
may_kept p c t {ls} {os} {ss} {hs} {ws} mir f g v n m i free =
    ap (λ (y : Bool). if is_global t m then eqb (holder_of (board_of ls os ss hs ws) m) 0 else y) (passes_kept mir f g v n i free)
