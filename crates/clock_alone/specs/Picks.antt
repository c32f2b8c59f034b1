-- A core picks the same task, and the same VCPUs of it idle, where its VCPUs are as they were.
use Prim.Native.Nat.{ℕ, ◌<◌}
use Rattle.std.specs.Prelude.{◌≡◌, Bool, true, ◌&&◌, ltb}
use Rattle.std.proofs.Common.{sym, ap₂, ◌∙◌, eq-zero-or-pos}
use Rattle.std.proofs.Math.Path.{ap}
use Rattle.std.proofs.Math.Bool.{not}
use mathlib.Core.List.{List}
use Rattle.std.proofs.Math.Logic.{⊎_elim}
use Rattle.std.proofs.Math.Dec.{eqb, leb}
use Rattle.std.specs.Prelude.{if◌then◌else◌}
use Rattle.laws.specs.Range.{any_to}
use Rattle.laws.specs.RangeLaws.{highest_same}
use Rattle.laws.specs.BoolLaws.{both_left, miss_left, miss_right, bool_cases}
use Rattle.laws_picks.specs.PickLaws.{top_most}
use Rattle.laws_picks.specs.SameLaws.{any_same, top_same}
use Rattle.plan.specs.Limits.{max_v, max_m, most_n}
use Rattle.board_rules.specs.Facts.{Facts}
use Rattle.board_rules.specs.declared.Board.{Board}
use Rattle.board_rules.specs.declared.Next.{Next}
use Rattle.board_rules.specs.declared.Next.TheVariants.{Nobody}
use Rattle.board_rules.specs.Board.{holds, holds_global, local_waiter, is_asleep, under_p, held_global, held_local, raised_by, task_priority, vcpu_priority, next_of}
use Rattle.board_keeps.specs.Fair.{InV, InN}
use Rattle.clock_rules.specs.Clock.{Timing, is_ready, has_ready, is_on, may_run, pick_v, pick_n, picked, idles}
use Rattle.clock_steps.specs.Supply.{supply_same}
use Rattle.clock_alone.specs.Same.{SameTasks, SameOn, SameCore}

-- PRIORITIES AND SUPPLY of a VCPU whose tasks hold and wait for the same
module _ (F : Facts) {w : ℕ} {b b' : Board} (t : SameTasks w b b') where
  -- they hold a global mutex, or none
  global_same : holds_global F b' w ≡ holds_global F b w
  unfolding holds_global
  global_same =
      any_same max_m {f = λ m. F.global m && any_to most_n (λ n. holds b' w n m)} {g = λ m. F.global m && any_to most_n (λ n. holds b w n m)}
      (λ m a l. ap (λ (x : Bool). F.global m && x)
      (any_same most_n {f = λ n. holds b' w n m} {g = λ n. holds b w n m} (λ n c k. t.hold_same n m (record { from = c; to = k }) (record { from = a; to = l }))))

  -- the VCPU's priority
  vcpu_same : vcpu_priority F b' w ≡ vcpu_priority F b w
  unfolding vcpu_priority
  vcpu_same = rw global_same

  -- who waits for a local mutex
  waiter_same : (n : ℕ) → InN n → local_waiter F b' w n ≡ local_waiter F b w n
  unfolding local_waiter
  waiter_same n j = ap (λ (x : ℕ). not (eqb x 0) && F.local_to w x) (t.wait_same n j)

  -- who is raised by that
  raised_same : (m : ℕ) → raised_by F b' w m ≡ raised_by F b w m
  unfolding raised_by
  raised_same m =
      highest_same most_n {f = λ n. local_waiter F b' w n && leb n (F.ceiling m)} {g = λ n. local_waiter F b w n && leb n (F.ceiling m)}
      (λ n a l. ap (λ (x : Bool). x && leb n (F.ceiling m)) (waiter_same n (record { from = a; to = l })))

  module _ (n : ℕ) (j : InN n) where
    -- a task holds a global mutex, or none
    held_global_same : held_global F b' w n ≡ held_global F b w n
    unfolding held_global
    held_global_same =
        any_same max_m {f = λ m. F.global m && holds b' w n m} {g = λ m. F.global m && holds b w n m}
        (λ m a l. ap (λ (x : Bool). F.global m && x) (t.hold_same n m j (record { from = a; to = l })))

    -- a local mutex, or none
    held_local_same : held_local F b' w n ≡ held_local F b w n
    unfolding held_local
    held_local_same =
        highest_same max_m {f = λ m. F.local_to w m && holds b' w n m} {g = λ m. F.local_to w m && holds b w n m}
        (λ m a l. ap (λ (x : Bool). F.local_to w m && x) (t.hold_same n m j (record { from = a; to = l })))

    -- the task's priority
    task_same : task_priority F b' w n ≡ task_priority F b w n
    unfolding task_priority
    task_same = rw (held_global_same, held_local_same, raised_same (held_local F b w n))

-- asleep or awake
asleep_same : (F : Facts) {w : ℕ} {b b' : Board} → SameOn w b b' → is_asleep F b' w ≡ is_asleep F b w
asleep_same F {w} {b} {b'} s = ap (λ x. eqb x 0) (supply_same F b b' w s.left_same s.over_same s.mark_same (global_same F s.tasks))

-- A CORE that is as it was
module _ {T : Timing} {c : ℕ} {b b' : Board} {d d' : List ℕ} (h : SameCore T c b d b' d') where
  module _ (w : ℕ) (i : InV w) (on : is_on T c w ≡ true) where
    -- a task is ready, or not
    ready_same : (n : ℕ) → InN n → is_ready T b' d' w n ≡ is_ready T b d w n
    ready_same n j = ap₂ (λ (x y : ℕ). (T.facts.has_task w n && ltb x (T.lengths w n)) && eqb y 0) (h.ticks w i on n j) ((h.vcpus w i on).tasks.wait_same n j)

    -- some task is
    has_ready_same : has_ready T b' d' w ≡ has_ready T b d w
    has_ready_same = any_same most_n {f = is_ready T b' d' w} {g = is_ready T b d w} (λ n a l. ready_same n (record { from = a; to = l }))

    -- which task of the VCPU is picked
    task_picked : pick_n T b' d' w ≡ pick_n T b d w
    unfolding pick_n
    task_picked =
        top_same most_n {f = is_ready T b' d' w} {g = is_ready T b d w} (λ n a l. ready_same n (record { from = a; to = l }))
        (λ n a l e. task_same T.facts (h.vcpus w i on).tasks n (record { from = a; to = l }))

  -- which VCPU may run
  may_run_same : (w : ℕ) → InV w → may_run T c b' d' w ≡ may_run T c b d w
  may_run_same w i =
      ⊎_elim (λ on. ap₂ (λ (x y : Bool). is_on T c w && (not x && y)) (asleep_same T.facts (h.vcpus w i on)) (has_ready_same w i on))
      (λ off. miss_left (is_on T c w) _ off ∙ sym (miss_left (is_on T c w) _ off)) (bool_cases (is_on T c w))

  -- which is picked
  vcpu_picked : pick_v T c b' d' ≡ pick_v T c b d
  unfolding pick_v
  vcpu_picked =
      top_same max_v {f = may_run T c b' d'} {g = may_run T c b d} (λ w a l. may_run_same w (record { from = a; to = l }))
      (λ w a l e. vcpu_same T.facts (h.vcpus w (record { from = a; to = l }) (both_left (is_on T c w) _ e)).tasks)

  -- and which task
  pub picked_same : picked T c b' d' ≡ picked T c b d
  unfolding picked pick_v
  picked_same = ⊎_elim none some (eq-zero-or-pos (pick_v T c b d))
    where
      by : Board → List ℕ → ℕ → Next
      by x y v = if eqb v 0 then Nobody else next_of v (pick_n T x y v)

      none : pick_v T c b d ≡ 0 → by b' d' (pick_v T c b' d') ≡ by b d (pick_v T c b d)
      none z = ap (by b' d') (vcpu_picked ∙ z) ∙ sym (ap (by b d) z)

      some : 0 < pick_v T c b d → by b' d' (pick_v T c b' d') ≡ by b d (pick_v T c b d)
      some l =
          let v = pick_v T c b d in
          let m = top_most max_v (may_run T c b d) (vcpu_priority T.facts b) l in
          ap (by b' d') vcpu_picked ∙ ap (λ (n : ℕ). if eqb v 0 then Nobody else next_of v n) (task_picked v m.in_range_law (both_left (is_on T c v) _ m.is_passed))

  -- who idles
  pub idles_same : (w : ℕ) → InV w → idles T c b' d' w ≡ idles T c b d w
  idles_same w i =
      ⊎_elim (λ on. ap₂ (λ (x : ℕ) (y : Bool). under_p T.facts.policy && (is_on T c w && (ltb 0 x && not y))) (h.vcpus w i on).left_same (has_ready_same w i on))
      (λ off. miss_right (under_p T.facts.policy) _ (miss_left (is_on T c w) _ off) ∙ sym (miss_right (under_p T.facts.policy) _ (miss_left (is_on T c w) _ off))) (bool_cases (is_on T c w))
