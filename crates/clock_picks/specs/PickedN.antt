-- The task that is picked in a VCPU, by the sets that the clock keeps and by what each task holds; and who is picked by both.
use Prim.Native.Nat.{ℕ, ◌+◌, ◌<◌, ◌≤◌, max}
use Rattle.std.specs.Prelude.{◌≡◌, List, Bool, ◌&&◌, not, get_or}
use Rattle.std.proofs.Math.Path.{refl, ap, subst}
use Rattle.std.proofs.Common.{sym, ap₂, ◌∙◌, ⊎_elim, eq-zero-or-pos, arith}
use Rattle.std.proofs.Math.Bool.{true, false}
use borrow.Author.Tests.{eqb-true, ne_eqb, not-false}
use Rattle.std.proofs.Math.Dec.{eqb}
use Rattle.std.specs.Prelude.{if◌then◌else◌}
use Rattle.laws.specs.Range.{highest}
use Rattle.laws.specs.RangeLaws.{highest_le, highest_passes, highest_zero, highest_same}
use Rattle.laws.specs.BoolLaws.{both, clash, is_false, same_or_not}
use Rattle.laws_picks.specs.Picks.{top_of}
use Rattle.plan.specs.Limits.{max_m, task_raise}
use Rattle.plan.specs.declared.Policy.{Policy}
use Rattle.plan.specs.declared.OverrunChoice.{OverrunChoice}
use Rattle.board_walks.specs.Walks.{local_under}
use Rattle.board_seats.specs.Seats.{seat, ceiling_of}
use Rattle.board_rules.specs.Facts.{Facts}
use Rattle.board_rules.specs.View.{facts_in}
use Rattle.board_rules.specs.declared.Board.{Board}
use Rattle.board_rules.specs.Board.{holds, local_waiter, held_global, held_local, raised_by, task_priority}
use Rattle.board_keeps.specs.Fair.{InV, InN}
use Rattle.clock_rules.specs.Clock.{Timing, is_ready, pick_n}
use Rattle.clock_sets.specs.Sets.{in_set, Without, Meet}
use Rattle.clock_sets.specs.SetLaws.{in_none, some_task}
use Rattle.clock_times.specs.Times.{timing_in}
use Rattle.clock_marks.specs.Marks.{at_held, tasks_cell, holders_cell, held_cell, held_by, global_mark, done_in, Mirrors}
use Rattle.laws_picks.specs.SameLaws.{top_same}
use Rattle.clock_picks.specs.Tops.{top_plain, top_one}
use Rattle.clock_dues.specs.Picking.{rank_of, PicksN}

-- THE PRIORITY of a task is its rank by what it holds

pub rank_some : (t ws : List ℕ) (v m n : ℕ) → 0 < n → 0 < rank_of t ws v m n
rank_some t ws v m n h = go (eqb m 0) (eqb m global_mark)
  where
    go : (a c : Bool) → 0 < (if a then n else (if c then task_raise + n else max n (local_under t ws v (ceiling_of t m))))
    go true c = h
    go false true = omega arith
    go false false = omega arith

-- by what the list k has at its seat
pub rank_by : (t ws k : List ℕ) (v n : ℕ) {s m r : ℕ} → s ≡ seat v n → m ≡ get_or k (at_held + s) 0 → r ≡ rank_of t ws v m n → r ≡ rank_of t ws v (held_cell k v n) n
rank_by t ws k v n e f g = rw (g, f, e)

-- a task that holds nothing has its own
plain_priority : (F : Facts) (b : Board) (v n : ℕ) → held_by F b v n ≡ 0 → task_priority F b v n ≡ n
unfolding task_priority
plain_priority F b v n = go (held_global F b v n) (held_local F b v n)
  where
    go : (g : Bool) (m : ℕ) → (if g then global_mark else m) ≡ 0 → (if g then task_raise + n else (if eqb m 0 then n else max n (raised_by F b v m))) ≡ n
    go true m e = absurd (omega arith)
    go false m e = rw e

module _ (p : Policy) (o : OverrunChoice) (t : List ℕ) (b : Board) (v : ℕ) where
  raised_in : (m : ℕ) → raised_by (facts_in p o t) b v m ≡ local_under t b.waits v (ceiling_of t m)
  unfolding raised_by local_waiter facts_in
  raised_in m = refl

  local_to_law : (n : ℕ) → held_local (facts_in p o t) b v n ≤ max_m
  unfolding held_local
  local_to_law n = highest_le max_m (λ m. (facts_in p o t).local_to v m && holds b v n m)

  pub priority_rank : (n : ℕ) → rank_of t b.waits v (held_by (facts_in p o t) b v n) n ≡ task_priority (facts_in p o t) b v n
  unfolding task_priority
  priority_rank n = go (held_global (facts_in p o t) b v n) (held_local (facts_in p o t) b v n) (local_to_law n)
    where
      go : (g : Bool) (m : ℕ) → m ≤ max_m → rank_of t b.waits v (if g then global_mark else m) n
          ≡ (if g then task_raise + n else (if eqb m 0 then n else max n (raised_by (facts_in p o t) b v m)))
      go true m l = refl
      go false m l = rw (ne_eqb m global_mark (λ e. omega arith), raised_in m)

-- THE PICK

module _ {T : Timing} {x : List ℕ} {b : Board} {k : List ℕ} (m : Mirrors T x b k) (v : ℕ) (i : InV v) where
  ready_is : {s : ℕ} → s ≡ tasks_cell k v → (n : ℕ) → 0 < n → n ≤ 8 → in_set s n ≡ is_ready T b (done_in k) v n
  ready_is e n a l = ap (λ s. in_set s n) e ∙ m.tasks v n i (record { from = a; to = l })

  -- no ready task holds a mutex: the highest
  pub pick_n_plain : {s h u r : ℕ} → s ≡ tasks_cell k v → h ≡ holders_cell k v → Meet s h u → u ≡ 0 → r ≡ highest 8 (in_set s) → r ≡ pick_n T b (done_in k) v
  unfolding pick_n
  pick_n_plain {s} {h} {u} e f meet z q =
      q ∙ highest_same 8 (ready_is e) ∙ top_plain 8 (is_ready T b (done_in k) v) (task_priority T.facts b v) own
    where
      held_none : (n : ℕ) → 0 < n → n ≤ 8 → is_ready T b (done_in k) v n ≡ true → held_cell k v n ≡ 0
      held_none n a l t =
          let j : InN n = record { from = a; to = l } in
          let g : in_set u n ≡ false = ap (λ s. in_set s n) z ∙ in_none n in
          let d : in_set h n ≡ false = is_false (in_set h n) (λ y. clash (meet.names n a (omega arith) ∙ both (in_set s n) (in_set h n) (ready_is e n a l ∙ t) y) g) in
          eqb-true (held_cell k v n) 0 (not-false _ (sym (m.holders v n i j) ∙ (ap (λ s. in_set s n) (sym f) ∙ d)))

      own : (n : ℕ) → 0 < n → n ≤ 8 → is_ready T b (done_in k) v n ≡ true → task_priority T.facts b v n ≡ n
      own n a l t = plain_priority T.facts b v n (sym (m.held v n i (record { from = a; to = l })) ∙ held_none n a l t)

  -- one task alone is ready: that one
  pub pick_n_alone : {s u r : ℕ} → s ≡ tasks_cell k v → 0 < r → r ≤ 8 → r ≡ highest 8 (in_set s) → Without s r u → u ≡ 0 → r ≡ pick_n T b (done_in k) v
  unfolding pick_n
  pick_n_alone {s} {u} {r} e g l q w z =
      top_one 8 (is_ready T b (done_in k) v) (task_priority T.facts b v) r g l (sym (ready_is e r g l) ∙ own) alone
    where
      own : in_set s r ≡ true
      own = subst (λ y. in_set s y ≡ true) (sym q) (highest_passes 8 (in_set s) (omega arith))

      alone : (j : ℕ) → 0 < j → j ≤ 8 → is_ready T b (done_in k) v j ≡ true → j ≡ r
      alone j a c t =
          ⊎_elim (λ y. y)
          (λ ne. absurd (clash (w.names j a (omega arith) ∙ both (in_set s j) (not (eqb j r)) (ready_is e j a c ∙ t) (ap not (ne_eqb j r ne))) (ap (λ s. in_set s j) z ∙ in_none j)))
          (same_or_not j r)

-- a set of tasks with a part that is not empty has a highest
pub some_highest : {s u r : ℕ} → s < 256 → u ≤ s → (u ≡ 0 → ⊥) → r ≡ highest 8 (in_set s) → 0 < r
some_highest {s} {u} {r} h l nz q =
    ⊎_elim
    (λ z. absurd (clash (some_task s h ∙ ap not (ne_eqb s 0 (λ e. nz (omega arith)))) ((highest_zero 8 (in_set s)).1 (sym q ∙ z))))
    (λ g. g) (eq-zero-or-pos r)

-- else the topmost by rank
pub pick_n_ranked : (t ws k : List ℕ) (v : ℕ) {s r : ℕ} → InV v → s ≡ tasks_cell k v → r ≡ top_of 8 (in_set s) (λ n. rank_of t ws v (held_cell k v n) n) → PicksN t ws k v r
unfolding pick_n timing_in
pick_n_ranked t ws k v i e q p o x b w m =
    q ∙ top_same 8 (ready_is m v i e)
    (λ n a l _. ap₂ (λ y h. rank_of t y v h n) (sym w) (m.held v n i (record { from = a; to = l })) ∙ priority_rank p o t b v n)
