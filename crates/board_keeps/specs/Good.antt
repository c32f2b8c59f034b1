-- The conditions for 9 as facts: a board passes the test just where it meets them.
use Rattle.std.specs.Prelude.{ℕ, ◌*◌, ◌≤◌, ◌≡◌, Bool, true, false, ◌&&◌, ◌||◌, not, ◌⊎◌, eqb, ltb, leb}
use Rattle.std.proofs.Common.{sym, ap, ◌∙◌, inl, inr, ⊎_elim, arith, leb-true, ltb-false, eqb-true, le-leb, le-ltb, eq-eqb, ne_eqb}
use Rattle.std.proofs.lemmas.Bool.{eqb-false, not-true, not-false}
use Rattle.std.specs.Prelude.{if◌then◌else◌}
use Rattle.laws.specs.Range.{all_to, highest}
use Rattle.laws.specs.RangeLaws.{all_at, all_of, all_miss, highest_is, miss_at}
use Rattle.laws.specs.BoolLaws.{both_left, both_right, both, either_left, either_right, neither_left, neither_right, bool_cases, either_of, or_else}
use Rattle.plan.specs.Limits.{max_v, max_m, most_n}
use Rattle.board_rules.specs.Facts.{Facts}
use Rattle.board_rules.specs.declared.Board.{Board}
use Rattle.board_rules.specs.Board.{seat, left_of, over_of, is_stopped, holder_of, wait_of, holds, held_by_other, passes, under_p, must_stop, budgets_good, mark_good, hold_good, wait_good, seat_good, good}
use Rattle.board_rules.specs.Settle.{Marked}
use Rattle.board_keeps.specs.Fair.{Fair, InV, InN, InM, sheet_m}
use Rattle.board_keeps.specs.Locks.{Barred, Holding, Waiting}

-- THE LOCAL TEST

pub barred : (F : Facts) (b : Board) (v n : ℕ) → passes F b v n ≡ false → Barred F (holder_of b) v n
unfolding passes
barred F b v n e =
    let r = miss_at max_m (λ m. not (F.local_to v m && held_by_other b v n m) || ltb (F.ceiling m) n) e in
    let m = r.at in
    let p = not-false _ (neither_left (not (F.local_to v m && held_by_other b v n m)) (ltb (F.ceiling m) n) r.is) in
    let q = both_right (F.local_to v m) (held_by_other b v n m) p in
    record {
      by = m;
      by_in = r.within;
      is_local_law = both_left (F.local_to v m) (held_by_other b v n m) p;
      held = eqb-false (holder_of b m) 0 (not-true _ (both_left (not (eqb (holder_of b m) 0)) (not (holds b v n m)) q));
      by_other = eqb-false (holder_of b m) (seat v n) (not-true _ (both_right (not (eqb (holder_of b m) 0)) (not (holds b v n m)) q));
      ceiling = ltb-false (F.ceiling m) n (neither_right (not (F.local_to v m && held_by_other b v n m)) (ltb (F.ceiling m) n) r.is);
    }

pub barred_fails : (F : Facts) (b : Board) (v n : ℕ) → Barred F (holder_of b) v n → passes F b v n ≡ false
unfolding passes
barred_fails F b v n r =
    let m = r.by in
    all_miss max_m m (λ k. not (F.local_to v k && held_by_other b v n k) || ltb (F.ceiling k) n) r.by_in.from r.by_in.to
    (rw (r.is_local_law, ne_eqb (holder_of b m) 0 r.held, ne_eqb (holder_of b m) (seat v n) r.by_other, le-ltb (F.ceiling m) n r.ceiling))

-- BUDGETS AND MARKS: l and o are left of v's budget and overrun, s is its mark
pub record Budgeted (F : Facts) (v l o : ℕ) (s : Bool) : Type 0 where
  pub left_le : l ≤ F.budget v
  pub over_le : o ≤ F.overrun v
  pub budget_first : (o ≡ F.overrun v) ⊎ (l ≡ 0)
  pub mark_policy : s ≡ true → under_p F.policy ≡ true
  pub mark_vcpu : s ≡ true → F.has_vcpu v ≡ true
  pub mark_left : s ≡ true → l ≡ 0

-- all conditions but that a mark stands where it is due
pub record Sound (F : Facts) (b : Board) : Type 0 where
  pub budgets : (v : ℕ) → InV v → Budgeted F v (left_of b v) (over_of b v) (is_stopped b v)
  pub holding : Holding F (holder_of b) (wait_of b)
  pub waiting : Waiting F (holder_of b) (wait_of b)

-- the parts of the test: of a VCPU, and of a task
abbrev vcpu_good : Facts → Board → ℕ → Bool
vcpu_good F b v = budgets_good F b v && mark_good F b v

abbrev task_good : Facts → Board → ℕ → ℕ → Bool
task_good F b v n = wait_good F b v n && all_to max_m (hold_good F b v n)

abbrev tasks_good : Facts → Board → ℕ → Bool
tasks_good F b v = all_to most_n (task_good F b v)

-- FROM THE TEST

module _ (F : Facts) (b : Board) (g : good F b ≡ true) where
  vcpu_test : (v : ℕ) → InV v → vcpu_good F b v ≡ true
  unfolding good
  vcpu_test v i = all_at max_v v (vcpu_good F b) (both_left (all_to max_v (vcpu_good F b)) _ g) i.from i.to

  lock_test : (all_to max_v (tasks_good F b) && all_to max_m (seat_good b)) ≡ true
  unfolding good
  lock_test = both_right (all_to max_v (vcpu_good F b)) _ g

  task_test : (v n : ℕ) → InV v → InN n → task_good F b v n ≡ true
  task_test v n i j =
      all_at most_n n (task_good F b v) (all_at max_v v (tasks_good F b) (both_left (all_to max_v (tasks_good F b)) _ lock_test) i.from i.to) j.from j.to

  seat_test : (m : ℕ) → InM m → seat_good b m ≡ true
  seat_test m k = all_at max_m m (seat_good b) (both_right (all_to max_v (tasks_good F b)) _ lock_test) k.from k.to

  hold_test : (v n m : ℕ) → InV v → InN n → InM m → holder_of b m ≡ seat v n →
      (F.lists v n m && (eqb (wait_of b v n) 0 && eqb (highest max_m (λ k. holds b v n k)) m)) ≡ true
  hold_test v n m i j k e =
      or_else (not (holds b v n m)) _ (all_at max_m m (hold_good F b v n) (both_right (wait_good F b v n) _ (task_test v n i j)) k.from k.to)
      (ap not (eq-eqb (holder_of b m) (seat v n) e))

  wait_test : (v n : ℕ) → InV v → InN n → (wait_of b v n ≡ 0 → ⊥) →
      (F.lists v n (wait_of b v n) && (if F.global (wait_of b v n) then held_by_other b v n (wait_of b v n) else not (passes F b v n))) ≡ true
  wait_test v n i j w =
      or_else (eqb (wait_of b v n) 0) _ (both_left (wait_good F b v n) _ (task_test v n i j)) (ne_eqb (wait_of b v n) 0 w)

  reach_test : (v n : ℕ) → InV v → InN n → (wait_of b v n ≡ 0 → ⊥) →
      (if F.global (wait_of b v n) then held_by_other b v n (wait_of b v n) else not (passes F b v n)) ≡ true
  reach_test v n i j w = both_right (F.lists v n (wait_of b v n)) _ (wait_test v n i j w)

  held_highest : (v n m : ℕ) → InV v → InN n → InM m → holder_of b m ≡ seat v n → highest max_m (λ k. holds b v n k) ≡ m
  held_highest v n m i j k e =
      eqb-true (highest max_m (λ k. holds b v n k)) m (both_right (eqb (wait_of b v n) 0) _ (both_right (F.lists v n m) _ (hold_test v n m i j k e)))

  good_budgeted : (v : ℕ) → InV v → Budgeted F v (left_of b v) (over_of b v) (is_stopped b v)
  good_budgeted v i =
      let p = both_left (budgets_good F b v) (mark_good F b v) (vcpu_test v i) in
      let q = both_right (leb (left_of b v) (F.budget v)) _ p in
      let mark : is_stopped b v ≡ true → (under_p F.policy && (F.has_vcpu v && eqb (left_of b v) 0)) ≡ true =
      λ s. rw s at (both_right (budgets_good F b v) (mark_good F b v) (vcpu_test v i)) in
      record {
        left_le = leb-true (left_of b v) (F.budget v) (both_left (leb (left_of b v) (F.budget v)) _ p);
        over_le = leb-true (over_of b v) (F.overrun v) (both_left (leb (over_of b v) (F.overrun v)) _ q);
        budget_first = ⊎_elim (λ e. inl (eqb-true (over_of b v) (F.overrun v) e)) (λ e. inr (eqb-true (left_of b v) 0 e))
            (either_of (eqb (over_of b v) (F.overrun v)) (eqb (left_of b v) 0) (both_right (leb (over_of b v) (F.overrun v)) _ q));
        mark_policy = λ s. both_left (under_p F.policy) _ (mark s);
        mark_vcpu = λ s. both_left (F.has_vcpu v) _ (both_right (under_p F.policy) _ (mark s));
        mark_left = λ s. eqb-true (left_of b v) 0 (both_right (F.has_vcpu v) _ (both_right (under_p F.policy) _ (mark s)));
      }

  pub good_marked : Marked F b
  good_marked v i s = not-true (must_stop F b v) (rw s at (both_right (budgets_good F b v) (mark_good F b v) (vcpu_test v i)))

  good_holding : Holding F (holder_of b) (wait_of b)
  good_holding = record {
    seat_in = λ m k. leb-true (holder_of b m) (max_v * most_n) (seat_test m k);
    held_listed = λ v n m i j k e. both_left (F.lists v n m) _ (hold_test v n m i j k e);
    held_alone = λ v n m k i j p q e f. sym (held_highest v n k i j q f) ∙ held_highest v n m i j p e;
    holder_idle = λ v n m i j k e.
        eqb-true (wait_of b v n) 0 (both_left (eqb (wait_of b v n) 0) _ (both_right (F.lists v n m) _ (hold_test v n m i j k e)));
    wait_listed = λ v n i j w. both_left (F.lists v n (wait_of b v n)) _ (wait_test v n i j w);
  }

  good_waiting : Waiting F (holder_of b) (wait_of b)
  good_waiting = record {
    for_global = λ v n i j w e.
        eqb-false (holder_of b (wait_of b v n)) 0 (not-true _ (both_left (not (eqb (holder_of b (wait_of b v n)) 0)) _ (rw e at (reach_test v n i j w))));
    for_local = λ v n i j w e. barred F b v n (not-true _ (rw e at (reach_test v n i j w)));
  }

  pub good_sound : Sound F b
  good_sound = record { budgets = good_budgeted; holding = good_holding; waiting = good_waiting }

-- AND BACK

module _ (F : Facts) (b : Board) (f : Fair F) (s : Sound F b) (k : Marked F b) where
  budgets_pass : (v : ℕ) → InV v → budgets_good F b v ≡ true
  budgets_pass v i =
      let r = s.budgets v i in
      both (leb (left_of b v) (F.budget v)) _ (le-leb (left_of b v) (F.budget v) r.left_le)
      (both (leb (over_of b v) (F.overrun v)) _ (le-leb (over_of b v) (F.overrun v) r.over_le)
      (⊎_elim (λ e. either_left (eqb (over_of b v) (F.overrun v)) _ (eq-eqb (over_of b v) (F.overrun v) e))
      (λ e. either_right (eqb (over_of b v) (F.overrun v)) _ (eq-eqb (left_of b v) 0 e)) r.budget_first))

  mark_pass : (v : ℕ) → InV v → mark_good F b v ≡ true
  mark_pass v i =
      let r = s.budgets v i in
      ⊎_elim
      (λ e. rw e (both (under_p F.policy) _ (r.mark_policy e) (both (F.has_vcpu v) _ (r.mark_vcpu e) (eq-eqb (left_of b v) 0 (r.mark_left e)))))
      (λ e. rw e (ap not (k v i e))) (bool_cases (is_stopped b v))

  hold_pass : (v n : ℕ) → InV v → InN n → (m : ℕ) → InM m → hold_good F b v n m ≡ true
  hold_pass v n i j m l = ⊎_elim held (λ e. either_left (not (holds b v n m)) _ (ap not e)) (bool_cases (holds b v n m))
    where
      held : holds b v n m ≡ true → hold_good F b v n m ≡ true
      held e =
          let h = eqb-true (holder_of b m) (seat v n) e in
          let r = s.holding in
          either_right (not (holds b v n m)) _
          (both (F.lists v n m) _ (r.held_listed v n m i j l h)
          (both (eqb (wait_of b v n) 0) _ (eq-eqb (wait_of b v n) 0 (r.holder_idle v n m i j l h))
          (eq-eqb (highest max_m (λ k. holds b v n k)) m
          (highest_is max_m m (λ k. holds b v n k) l.from l.to e
          (λ x a c. ne_eqb (holder_of b x) (seat v n) (λ q. let z = r.held_alone v n m x i j l (record { from = omega arith; to = c }) h q in omega arith))))))

  wait_pass : (v n : ℕ) → InV v → InN n → wait_good F b v n ≡ true
  wait_pass v n i j = ⊎_elim (λ e. either_left (eqb (wait_of b v n) 0) _ e) (λ e. waits (eqb-false (wait_of b v n) 0 e)) (bool_cases (eqb (wait_of b v n) 0))
    where
      waits : (wait_of b v n ≡ 0 → ⊥) → wait_good F b v n ≡ true
      waits nz =
          let l = s.holding.wait_listed v n i j nz in
          let m = wait_of b v n in
          either_right (eqb m 0) _
          (both (F.lists v n m) _ l
          (⊎_elim
          (λ e. rw e (both (not (eqb (holder_of b m) 0)) _ (ap not (ne_eqb (holder_of b m) 0 (s.waiting.for_global v n i j nz e)))
          (ap not (ne_eqb (holder_of b m) (seat v n) (λ q. nz (s.holding.holder_idle v n m i j (sheet_m f v n m l) q))))))
          (λ e. rw e (ap not (barred_fails F b v n (s.waiting.for_local v n i j nz e)))) (bool_cases (F.global m))))

  vcpu_pass : (v : ℕ) → InV v → vcpu_good F b v ≡ true
  vcpu_pass v i = both (budgets_good F b v) _ (budgets_pass v i) (mark_pass v i)

  task_pass : (v n : ℕ) → InV v → InN n → task_good F b v n ≡ true
  task_pass v n i j =
      both (wait_good F b v n) _ (wait_pass v n i j) (all_of max_m (hold_good F b v n) (λ m x y. hold_pass v n i j m (record { from = x; to = y })))

  tasks_pass : (v : ℕ) → InV v → tasks_good F b v ≡ true
  tasks_pass v i = all_of most_n (task_good F b v) (λ n x y. task_pass v n i (record { from = x; to = y }))

  seat_pass : (m : ℕ) → InM m → seat_good b m ≡ true
  seat_pass m i = le-leb (holder_of b m) (max_v * most_n) (s.holding.seat_in m i)

  pub sound_good : good F b ≡ true
  unfolding good
  sound_good =
      both (all_to max_v (vcpu_good F b)) _ (all_of max_v (vcpu_good F b) (λ v x y. vcpu_pass v (record { from = x; to = y })))
      (both (all_to max_v (tasks_good F b)) _ (all_of max_v (tasks_good F b) (λ v x y. tasks_pass v (record { from = x; to = y })))
      (all_of max_m (seat_good b) (λ m x y. seat_pass m (record { from = x; to = y }))))
