-- What a task holds, as the clock's list writes it, and that it says whose VCPU holds a global mutex.
use Rattle.std.specs.Prelude.{ℕ, ◌≤◌, ◌≡◌, List, Bool, true, false, ◌&&◌, ◌↔◌, eqb}
use Rattle.std.proofs.Common.{sym, ◌∙◌, ⊎_elim, arith}
use Rattle.std.proofs.Math.Path.{ap}
use borrow.Author.Tests.{eqb-true, eq-eqb, ne_eqb}
use Rattle.std.specs.Prelude.{if◌then◌else◌}
use Rattle.laws.specs.Range.{any_to}
use Rattle.laws.specs.RangeLaws.{any_at, any_hit, none_of, highest_zero, highest_is, highest_le, highest_same}
use Rattle.laws.specs.BoolLaws.{both, both_left, both_right, miss_right, both_ways, bool_cases, clash, is_false}
use Rattle.plan.specs.Limits.{max_m, most_n}
use Rattle.board_rules.specs.Facts.{Facts}
use Rattle.board_rules.specs.declared.Board.{Board}
use Rattle.board_rules.specs.Board.{seat, left_of, is_stopped, holder_of, wait_of, holds, holds_global, held_global, held_local, settled}
use Rattle.board_rules.specs.Settle.{GlobalHold, Marked, global_hold, hold_global, still_not_due, settled_stopped, mark_stays}
use Rattle.board_keeps.specs.Fair.{Fair, InV, InN, InM}
use Rattle.board_keeps.specs.Locks.{Holding}
use Rattle.clock_marks.specs.Marks.{global_mark, held_cell, held_by}
use Rattle.laws_picks.specs.SameLaws.{any_same}
use Rattle.clock_mirrors.specs.Tells.{any_tasks}

-- (v, n) holds the same on both boards
abbrev pub SameHolds : Board → Board → ℕ → ℕ → Type 0
SameHolds b b' v n = (k : ℕ) → InM k → (holder_of b' k ≡ seat v n) ↔ (holder_of b k ≡ seat v n)

module _ (F : Facts) (b b' : Board) (v n : ℕ) (h : SameHolds b b' v n) where
  -- as a test
  holds_alike : (k : ℕ) → InM k → holds b' v n k ≡ holds b v n k
  holds_alike k i =
      both_ways (holds b' v n k) (holds b v n k) (λ e. eq-eqb (holder_of b k) (seat v n) ((h k i).0 (eqb-true (holder_of b' k) (seat v n) e)))
      (λ e. eq-eqb (holder_of b' k) (seat v n) ((h k i).1 (eqb-true (holder_of b k) (seat v n) e)))

  -- a global mutex, or none
  global_alike : held_global F b' v n ≡ held_global F b v n
  unfolding held_global
  global_alike =
      any_same max_m {f = λ m. F.global m && holds b' v n m} {g = λ m. F.global m && holds b v n m}
      (λ k a c. ap (λ (t : Bool). F.global k && t) (holds_alike k (record { from = a; to = c })))

  -- a local mutex, or none
  local_alike : held_local F b' v n ≡ held_local F b v n
  unfolding held_local
  local_alike =
      highest_same max_m {f = λ m. F.local_to v m && holds b' v n m} {g = λ m. F.local_to v m && holds b v n m}
      (λ k a c. ap (λ (t : Bool). F.local_to v k && t) (holds_alike k (record { from = a; to = c })))

  -- what it holds is the same
  pub held_same : held_by F b' v n ≡ held_by F b v n
  held_same = rw (global_alike, local_alike)

module _ (F : Facts) (b : Board) (v n : ℕ) where
  -- a task that holds no mutex
  pub held_none : ((k : ℕ) → InM k → holder_of b k ≡ seat v n → ⊥) → held_by F b v n ≡ 0
  held_none h = rw (no_global, no_local)
    where
      no_global : held_global F b v n ≡ false
      no_global =
          unfold held_global in none_of max_m (λ m. F.global m && holds b v n m)
          (λ k a c. miss_right (F.global k) (holds b v n k) (ne_eqb (holder_of b k) (seat v n) (h k (record { from = a; to = c }))))

      no_local : held_local F b v n ≡ 0
      no_local =
          unfold held_local in (highest_zero max_m (λ m. F.local_to v m && holds b v n m)).0
          (none_of max_m (λ m. F.local_to v m && holds b v n m)
          (λ k a c. miss_right (F.local_to v k) (holds b v n k) (ne_eqb (holder_of b k) (seat v n) (h k (record { from = a; to = c })))))

  -- a task that holds m
  pub held_some : Fair F → Holding F (holder_of b) (wait_of b) → (m : ℕ) → InV v → InN n → InM m → holder_of b m ≡ seat v n → held_by F b v n ≡ (if F.global m then global_mark else m)
  held_some f o m i j l e = ⊎_elim (λ g. rw (has_global g, g)) (λ g. rw (no_global g, is_local_law g, g)) (bool_cases (F.global m))
    where
      has_global : F.global m ≡ true → held_global F b v n ≡ true
      has_global g =
          unfold held_global in any_hit max_m m (λ k. F.global k && holds b v n k) l.from l.to (both (F.global m) (holds b v n m) g (eq-eqb (holder_of b m) (seat v n) e))

      no_global : F.global m ≡ false → held_global F b v n ≡ false
      no_global g =
          unfold held_global in none_of max_m (λ k. F.global k && holds b v n k)
          (λ k a c. is_false (F.global k && holds b v n k) (λ t.
          let z = o.held_alone v n m k i j l (record { from = a; to = c }) e (eqb-true (holder_of b k) (seat v n) (both_right (F.global k) (holds b v n k) t)) in
          clash (both_left (F.global k) (holds b v n k) t) (ap F.global z ∙ g)))

      is_local_law : F.global m ≡ false → held_local F b v n ≡ m
      is_local_law g =
          unfold held_local in highest_is max_m m (λ k. F.local_to v k && holds b v n k) l.from l.to
          (both (F.local_to v m) (holds b v n m) (f.sheet_local v n m (o.held_listed v n m i j l e) g) (eq-eqb (holder_of b m) (seat v n) e))
          (λ k a c. miss_right (F.local_to v k) (holds b v n k)
          (ne_eqb (holder_of b k) (seat v n) (λ q. let z = o.held_alone v n m k i j l (record { from = omega arith; to = c }) e q in omega arith)))

  -- the mark of a global mutex is no local one's name
  global_marked : eqb (held_by F b v n) global_mark ≡ held_global F b v n
  global_marked =
      ⊎_elim (λ g. rw g) (λ g. rw g (ne_eqb (held_local F b v n) global_mark (λ e. let h = low in omega arith))) (bool_cases (held_global F b v n))
    where
      low : held_local F b v n ≤ max_m
      low = unfold held_local in highest_le max_m (λ m. F.local_to v m && holds b v n m)

-- the tasks of v hold a global mutex just where one has its mark
pub holding_marked : (F : Facts) (b : Board) (v : ℕ) → holds_global F b v ≡ any_to most_n (λ n. eqb (held_by F b v n) global_mark)
holding_marked F b v = both_ways (holds_global F b v) (any_to most_n (λ n. eqb (held_by F b v n) global_mark)) to back
  where
    to : holds_global F b v ≡ true → any_to most_n (λ n. eqb (held_by F b v n) global_mark) ≡ true
    to e =
        let r = global_hold F b v e in
        any_hit most_n r.n (λ n. eqb (held_by F b v n) global_mark) r.n_in.from r.n_in.to
        (global_marked F b v r.n ∙ (unfold held_global in any_hit max_m r.m (λ m. F.global m && holds b v r.n m) r.m_in.from r.m_in.to
        (both (F.global r.m) (holds b v r.n r.m) r.is_global_law (eq-eqb (holder_of b r.m) (seat v r.n) r.held))))

    back : any_to most_n (λ n. eqb (held_by F b v n) global_mark) ≡ true → holds_global F b v ≡ true
    back e =
        let r = any_at most_n (λ n. eqb (held_by F b v n) global_mark) e in
        let q = any_at max_m (λ m. F.global m && holds b v r.at m) (unfold held_global in (sym (global_marked F b v r.at) ∙ r.is)) in
        hold_global F b v (record {
          m = q.at;
          n = r.at;
          m_in = q.within;
          n_in = r.within;
          is_global_law = both_left (F.global q.at) _ q.is;
          held = eqb-true (holder_of b q.at) (seat v r.at) (both_right (F.global q.at) _ q.is);
        })

-- so cells that say what its tasks hold say it
pub holding_read : (F : Facts) (b : Board) (k : List ℕ) (v : ℕ) → ((n : ℕ) → InN n → held_cell k v n ≡ held_by F b v n) → any_to most_n (λ n. eqb (held_cell k v n) global_mark) ≡ holds_global F b v
holding_read F b k v h =
    any_tasks {f = λ n. eqb (held_cell k v n) global_mark} {g = λ n. eqb (held_by F b v n) global_mark} (λ n j. ap (λ m. eqb m global_mark) (h n j)) ∙ sym (holding_marked F b v)

-- a VCPU whose tasks have the marks that they had
pub holding_same : (F : Facts) (b b' : Board) (v : ℕ) → ((n : ℕ) → InN n → eqb (held_by F b' v n) global_mark ≡ eqb (held_by F b v n) global_mark) → holds_global F b' v ≡ holds_global F b v
holding_same F b b' v h =
    holding_marked F b' v ∙ any_tasks {f = λ n. eqb (held_by F b' v n) global_mark} {g = λ n. eqb (held_by F b v n) global_mark} h ∙ sym (holding_marked F b v)

-- a VCPU one of whose tasks has the mark
pub holding_some : (F : Facts) (b : Board) (v n : ℕ) → InN n → held_by F b v n ≡ global_mark → holds_global F b v ≡ true
holding_some F b v n j e =
    holding_marked F b v ∙ any_hit most_n n (λ y. eqb (held_by F b v y) global_mark) j.from j.to (eq-eqb (held_by F b v n) global_mark e)

-- MARKS of VCPUs: one that keeps its budget and the global mutexes that it held keeps its mark when the event is complete
pub mark_same : (F : Facts) (b c : Board) (w : ℕ) → InV w → Marked F b → left_of c w ≡ left_of b w → is_stopped c w ≡ is_stopped b w →
    (GlobalHold F (holder_of b) w → GlobalHold F (holder_of c) w) → is_stopped (settled F c) w ≡ is_stopped b w
mark_same F b c w i g l s h = settled_stopped F c w i ∙ mark_stays F c w (λ e. still_not_due F b c w l h (g w i (sym s ∙ e))) ∙ s
