-- Two states in which every core picks alike: the boards have the same locks, overruns and marks, the same VCPUs have budget, and the same jobs are unfinished.
use Rattle.std.specs.Prelude.{ℕ, ◌+◌, ◌-◌, ◌≤◌, ◌≡◌, Bool, false, ◌&&◌, not, List, ltb, get_or}
use Rattle.std.proofs.Common.{sym, ◌∙◌, eq-zero-or-pos, arith, ltb-true, ltb-false, ne_eqb}
use Rattle.std.proofs.Math.Path.{ap, ap₂}
use Rattle.std.proofs.Math.Logic.{⊎_elim}
use Rattle.std.proofs.Math.Dec.{eqb}
use Rattle.std.specs.Prelude.{if◌then◌else◌}
use Rattle.laws.specs.BoolLaws.{bool_cases}
use Rattle.laws_picks.specs.PickLaws.{top_le}
use Rattle.plan.specs.Limits.{max_v, most_n, vcpu_raise}
use Rattle.board_rules.specs.Facts.{Facts}
use Rattle.board_rules.specs.declared.Board.{Board}
use Rattle.board_rules.specs.declared.Next.TheVariants.{Nobody}
use Rattle.board_rules.specs.Board.{seat, left_of, holds_global, local_waiter, reserve, supply, is_asleep, under_p, held_global, held_local, raised_by, task_priority, vcpu_priority, next_of}
use Rattle.board_keeps.specs.Fair.{InV, InN}
use Rattle.clock_rules.specs.Clock.{Timing, is_unfinished, is_ready, has_ready, is_on, may_run, pick_v, pick_n, picked, idles}
use Rattle.clock_steps.specs.Quiet.{SameLocks, same_global}
use Rattle.laws_picks.specs.SameLaws.{any_same, top_same}

-- from (b, d) to (b', d') nothing changes that a pick looks at
pub record Alike (T : Timing) (b : Board) (d : List ℕ) (b' : Board) (d' : List ℕ) : Type 0 where
  pub over_same : b'.over ≡ b.over
  pub stopped_same : b'.stopped ≡ b.stopped
  pub holder_same : b'.holder ≡ b.holder
  pub waits_same : b'.waits ≡ b.waits
  pub has_left : (w : ℕ) → InV w → ltb 0 (left_of b' w) ≡ ltb 0 (left_of b w)
  pub unfinished : (w x : ℕ) → InV w → InN x → is_unfinished T d' w x ≡ is_unfinished T d w x

-- two sums are 0 together where their first parts are, and the second are the same
none_left : (l l' r r' : ℕ) → ltb 0 l' ≡ ltb 0 l → r' ≡ r → eqb (l' + r') 0 ≡ eqb (l + r) 0
none_left l l' r r' h e =
    ⊎_elim
    (λ z.
    let p = ltb-true 0 l z in
    let q = ltb-true 0 l' (h ∙ z) in
    ne_eqb (l' + r') 0 (λ y. omega arith) ∙ sym (ne_eqb (l + r) 0 (λ y. omega arith)))
    (λ z.
    let p = ltb-false 0 l z in
    let q = ltb-false 0 l' (h ∙ z) in
    ap (λ y. eqb y 0) {x = l' + r'} {y = l + r} (omega arith))
    (bool_cases (ltb 0 l))

-- priorities are by the locks alone
pub priority_alike : (F : Facts) (b b' : Board) (v n : ℕ) → b'.holder ≡ b.holder → b'.waits ≡ b.waits → task_priority F b' v n ≡ task_priority F b v n
unfolding task_priority held_global held_local raised_by local_waiter
priority_alike F b b' v n h w =
    ap (λ hs. task_priority F (record { left = b'.left; over = b'.over; stopped = b'.stopped; holder = hs; waits = b'.waits }) v n) h
    ∙ ap (λ ws. task_priority F (record { left = b'.left; over = b'.over; stopped = b'.stopped; holder = b.holder; waits = ws }) v n) w

module _ {T : Timing} {b : Board} {d : List ℕ} {b' : Board} {d' : List ℕ} (s : Alike T b d b' d') where
  -- the locks are the same
  pub alike_locks : SameLocks b b'
  alike_locks = record { holder_same = s.holder_same; waits_same = s.waits_same }

  -- the same VCPUs are asleep
  pub asleep_alike : (w : ℕ) → InV w → is_asleep T.facts b' w ≡ is_asleep T.facts b w
  unfolding supply
  asleep_alike w i = none_left (left_of b w) (left_of b' w) _ _ (s.has_left w i) rest
    where
      rest : reserve T.facts.choice (holds_global T.facts b' w) (get_or b'.stopped (w - 1) false) (get_or b'.over (w - 1) 0)
          ≡ reserve T.facts.choice (holds_global T.facts b w) (get_or b.stopped (w - 1) false) (get_or b.over (w - 1) 0)
      rest =
          ap (λ (g : Bool). reserve T.facts.choice g (get_or b'.stopped (w - 1) false) (get_or b'.over (w - 1) 0)) (same_global T.facts w alike_locks)
          ∙ ap₂ (λ ss os. reserve T.facts.choice (holds_global T.facts b w) (get_or ss (w - 1) false) (get_or os (w - 1) 0)) s.stopped_same s.over_same

  -- the same tasks are ready
  pub ready_alike : (v n : ℕ) → InV v → InN n → is_ready T b' d' v n ≡ is_ready T b d v n
  ready_alike v n i j = ap₂ ◌&&◌ (s.unfinished v n i j) (ap (λ ws. eqb (get_or ws (seat v n - 1) 0) 0) s.waits_same)

  -- so the same VCPUs have a ready task
  pub has_ready_alike : (v : ℕ) → InV v → has_ready T b' d' v ≡ has_ready T b d v
  has_ready_alike v i = any_same most_n (λ n a l. ready_alike v n i (record { from = a; to = l }))

  -- a core may run the same VCPUs
  may_run_alike : (c v : ℕ) → InV v → may_run T c b' d' v ≡ may_run T c b d v
  may_run_alike c v i = ap₂ (λ (x y : Bool). is_on T c v && (not x && y)) (asleep_alike v i) (has_ready_alike v i)

  -- and picks the same
  pub pick_v_alike : (c : ℕ) → pick_v T c b' d' ≡ pick_v T c b d
  unfolding pick_v vcpu_priority
  pick_v_alike c =
      top_same max_v (λ v a l. may_run_alike c v (record { from = a; to = l }))
      (λ v a l _. ap (λ (t : Bool). if t then vcpu_raise + v else v) (same_global T.facts v alike_locks))

  -- in it too
  pub pick_n_alike : (v : ℕ) → InV v → pick_n T b' d' v ≡ pick_n T b d v
  unfolding pick_n
  pick_n_alike v i =
      top_same most_n (λ n a l. ready_alike v n i (record { from = a; to = l }))
      (λ n a l _. priority_alike T.facts b b' v n s.holder_same s.waits_same)

  -- the pick as a whole
  pub picked_alike : (c : ℕ) → picked T c b' d' ≡ picked T c b d
  unfolding picked
  picked_alike c =
      ap (λ v. if eqb v 0 then Nobody else next_of v (pick_n T b' d' v)) (pick_v_alike c)
      ∙ ⊎_elim (λ z. rw z) (λ p. ap (λ n. if eqb (pick_v T c b d) 0 then Nobody else next_of (pick_v T c b d) n) (pick_n_alike (pick_v T c b d) (record { from = p; to = low }))) (eq-zero-or-pos (pick_v T c b d))
    where
      low : pick_v T c b d ≤ max_v
      low = unfold pick_v in top_le max_v (may_run T c b d) (vcpu_priority T.facts b)

  -- the same VCPUs idle
  pub idles_alike : (c w : ℕ) → InV w → idles T c b' d' w ≡ idles T c b d w
  idles_alike c w i = ap₂ (λ (x y : Bool). under_p T.facts.policy && (is_on T c w && (x && not y))) (s.has_left w i) (has_ready_alike w i)
