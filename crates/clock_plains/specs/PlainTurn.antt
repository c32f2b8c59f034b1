-- A plain turn: nothing is asked, each VCPU that idles and then the picked one loses a tick of budget, no mark becomes due, and nothing is freed.
use Prim.Native.Nat.{ℕ, zero, suc, ◌+◌, ◌-◌, ◌<◌, ◌≤◌}
use Rattle.std.specs.Prelude.{◌≡◌, Bool, true, false, ◌||◌, not, eqb, ltb, length}
use Rattle.std.proofs.Math.Path.{refl, ap}
use Rattle.std.proofs.Common.{sym, subst, subst₂, ◌∙◌, ⊎_elim, eq-zero-or-pos, arith, eqb-true, eq-eqb, ne_eqb, length-set, get_or-set_same, get_or-set_other}
use mathlib.Core.List.{List, [], ◌∷◌, ◌++◌}
use Rattle.std.proofs.lemmas.Bool.{eqb-false}
use Rattle.std.proofs.Math.ListN.{set}
use Rattle.std.proofs.lemmas.List.{set-get_or}
use Rattle.std.specs.Prelude.{if◌then◌else◌}
use Rattle.laws.specs.Range.{flat_to}
use Rattle.laws.specs.RangeLaws.{any_hit}
use Rattle.laws.specs.BoolLaws.{both_left, both_right, miss_right, or_else, neither_left, neither_right, is_false, same_or_not}
use Rattle.plan.specs.Limits.{max_v, most_n}
use Rattle.board_rules.specs.Facts.{Facts}
use Rattle.board_rules.specs.declared.Board.{Board}
use Rattle.board_rules.specs.declared.Event.{Event}
use Rattle.board_rules.specs.declared.Event.TheVariants.{Use}
use Rattle.board_rules.specs.declared.Next.{Next}
use Rattle.board_rules.specs.declared.Next.TheVariants.{Nobody, To}
use Rattle.board_rules.specs.declared.Outcome.{Outcome}
use Rattle.board_rules.specs.Board.{seat, left_of, over_of, is_stopped, under_p, must_stop, with_left, settled, used, step, good}
use Rattle.board_rules.specs.Lent.{board_of}
use Rattle.board_events.specs.Events.{board_by, board_after}
use Rattle.board_rules.specs.Settle.{due, mark_stays}
use Rattle.board_rules.specs.SettleEvents.{keep_settles, use_keeps}
use Rattle.board_keeps.specs.Fair.{Fair, InV}
use Rattle.board_keeps.specs.Shaped.{Shaped}
use Rattle.board_keeps.specs.Change.{left_new}
use Rattle.board_keeps.specs.Good.{good_marked}
use Rattle.board_keeps.proofs.Runs.{after_good}
use Rattle.clock_rules.specs.Clock.{Timing, Run, done_of, is_ready, is_on, picked, due_of, Asks, no_ask, asks_of, asks, most_picks, idles, idle_uses, free_of, work, work_done, turn, after_turn}
use Rattle.clock_paced.specs.Paced.{Paced}
use Rattle.clock_steps.specs.Accepted.{board_append}
use Rattle.clock_steps.specs.Taken.{use_taken, use_is}
use Rattle.clock_steps.specs.Running.{Running, after_shaped}
use Rattle.clock_steps.specs.IdleTurn.{budget_awake}
use Rattle.clock_steps.specs.Picked.{Chosen}
use Rattle.clock_steps.specs.RunTaken.{turn_kept}
use Rattle.clock_plains.specs.Plains.{due_at, Plain, loses, Spent}
use Rattle.clock_plains.specs.PlainLaws.{picks_nobody, picks_somebody, plain_chosen, plain_next}
use Rattle.clock_plains.specs.SpentLaws.{by_test, spent_one, spent_none, spent_rest}

-- A TICK OF A VCPU that has more than one left takes just that
abbrev one_less : Board → ℕ → Board
one_less b w = board_of (set b.left (w - 1) (left_of b w - 1)) b.over b.stopped b.holder b.waits

module _ {F : Facts} {b : Board} (f : Fair F) (s : Shaped b) (g : good F b ≡ true) (w : ℕ) (has : F.has_vcpu w ≡ true) (more : 1 < left_of b w) where
  -- no mark is due to it
  mark_same : (is_stopped b w || must_stop F (with_left b w (left_of b w - 1) (over_of b w)) w) ≡ is_stopped b w
  mark_same =
      let c = with_left b w (left_of b w - 1) (over_of b w) in
      mark_stays F c w (λ e. is_false (must_stop F c w) (λ t. let y = (due F c w t).left in let q = left_new s w (left_of b w - 1) (over_of b w) (f.vcpu_in w has) in omega arith))

  -- the board after `use w 1`
  use_one : (step F b (Use w 1)).board ≡ one_less b w
  unfolding used
  use_one =
      let i = f.vcpu_in w has in
      let ls = set b.left (w - 1) (left_of b w - 1) in
      ap (λ (o : Outcome). o.board) (use_is F b w 1 (use_taken F b w has (budget_awake F b w (omega arith))))
      ∙ ap (λ y. settled F (with_left b w (left_of b w - 1) y)) {x = over_of b w - (1 - left_of b w)} {y = over_of b w} (omega arith)
      ∙ keep_settles F (good_marked F b g) (use_keeps F b w (left_of b w - 1) (over_of b w) i) s.stopped_long i
      ∙ ap (λ (t : Bool). board_of ls (set b.over (w - 1) (over_of b w)) (set b.stopped (w - 1) t) b.holder b.waits) mark_same
      ∙ ap (λ os. board_of ls os (set b.stopped (w - 1) (is_stopped b w)) b.holder b.waits) (set-get_or b.over (w - 1) 0)
      ∙ ap (λ ss. board_of ls b.over ss b.holder b.waits) (set-get_or b.stopped (w - 1) false)

-- THE IDLE USES of the VCPUs up to k
record Idled (T : Timing) (c : ℕ) (b : Board) (d : List ℕ) (k : ℕ) (b' : Board) : Type 0 where
  left_long : length b'.left ≡ length b.left
  lost : (w : ℕ) → InV w → w ≤ k → idles T c b d w ≡ true → left_of b' w ≡ left_of b w - 1
  kept : (w : ℕ) → InV w → idles T c b d w ≡ false → left_of b' w ≡ left_of b w
  above : (w : ℕ) → InV w → k < w → left_of b' w ≡ left_of b w
  over_same : b'.over ≡ b.over
  stopped_same : b'.stopped ≡ b.stopped
  holder_same : b'.holder ≡ b.holder
  waits_same : b'.waits ≡ b.waits

module _ {T : Timing} (p : Paced T) (c : ℕ) {b : Board} {d : List ℕ} (g : Running T b d) (rich : (w : ℕ) → InV w → idles T c b d w ≡ true → 1 < left_of b w) where
  -- one VCPU more is idle
  idled_more : (k : ℕ) (es : List Event) → InV (suc k) → idles T c b d (suc k) ≡ true → Idled T c b d k (board_after T.facts b es) → Idled T c b d (suc k) (one_less (board_after T.facts b es) (suc k))
  idled_more k es i e h =
      let b₁ = board_after T.facts b es in
      let l = (after_shaped T.facts g.shaped es).left_long in
      let same = h.above (suc k) i (omega arith) in
      let new = get_or-set_same b₁.left (suc k - 1) (left_of b₁ (suc k) - 1) 0 (omega arith) in
      let other : (w : ℕ) → InV w → (w ≡ suc k → ⊥) → left_of (one_less b₁ (suc k)) w ≡ left_of b₁ w = λ w a ne. get_or-set_other b₁.left (suc k - 1) (w - 1) (left_of b₁ (suc k) - 1) 0 (λ z. ne (omega arith)) in
      record {
        left_long = length-set b₁.left (suc k - 1) (left_of b₁ (suc k) - 1) ∙ h.left_long;
        lost = λ w a r q.
            ⊎_elim (λ z. subst (λ y. left_of (one_less b₁ (suc k)) y ≡ left_of b y - 1) (sym z) (omega arith)) (λ ne. other w a ne ∙ h.lost w a (omega arith) q) (same_or_not w (suc k));
        kept = λ w a q.
            other w a (λ z. let y : ◌≡◌ {A = Bool} true false = sym e ∙ ap (idles T c b d) (sym z) ∙ q in let x : ◌≡◌ {A = ℕ} 0 1 = cc in omega arith) ∙ h.kept w a q;
        above = λ w a r. other w a (λ z. omega arith) ∙ h.above w a (omega arith);
        over_same = h.over_same;
        stopped_same = h.stopped_same;
        holder_same = h.holder_same;
        waits_same = h.waits_same;
      }

  -- one VCPU more is not
  idled_less : (k : ℕ) (b' : Board) → idles T c b d (suc k) ≡ false → Idled T c b d k b' → Idled T c b d (suc k) b'
  idled_less k b' e h = record {
    left_long = h.left_long;
    lost = λ w a r q.
        h.lost w a (⊎_elim (λ z. let y : ◌≡◌ {A = Bool} true false = sym q ∙ ap (idles T c b d) z ∙ e in let x : ◌≡◌ {A = ℕ} 0 1 = cc in omega arith) (λ ne. omega arith) (same_or_not w (suc k))) q;
    kept = h.kept;
    above = λ w a r. h.above w a (omega arith);
    over_same = h.over_same;
    stopped_same = h.stopped_same;
    holder_same = h.holder_same;
    waits_same = h.waits_same;
  }

  -- VCPU after VCPU
  idled_to : (k : ℕ) → k ≤ max_v → Idled T c b d k (board_after T.facts b (flat_to k (λ v. if idles T c b d v then Use v 1 ∷ [] else [])))
  unfolding flat_to board_by
  idled_to zero l = record {
    left_long = refl;
    lost = λ w a r q. absurd (omega arith);
    kept = λ w a q. refl;
    above = λ w a r. refl;
    over_same = refl;
    stopped_same = refl;
    holder_same = refl;
    waits_same = refl;
  }
  idled_to (suc k) l = at (idles T c b d (suc k)) refl (idled_to k (omega arith))
    where
      es : List Event
      es = flat_to k (λ v. if idles T c b d v then Use v 1 ∷ [] else [])

      i : InV (suc k)
      i = record { from = omega arith; to = l }

      at : (x : Bool) → idles T c b d (suc k) ≡ x → Idled T c b d k (board_after T.facts b es) → Idled T c b d (suc k) (board_after T.facts b (es ++ (if x then Use (suc k) 1 ∷ [] else [])))
      at true e h =
          let F = T.facts in
          let same = h.above (suc k) i (omega arith) in
          let some = rich (suc k) i e in
          let has = both_left (F.has_vcpu (suc k)) _ (both_left (is_on T c (suc k)) _ (both_right (under_p F.policy) _ e)) in
          subst (Idled T c b d (suc k))
          (sym (board_append F b es (Use (suc k) 1 ∷ []) ∙ use_one p.fair (after_shaped F g.shaped es) (after_good p.fair g.shaped g.is_good es) (suc k) has (omega arith)))
          (idled_more k es i e h)
      at false e h = subst (Idled T c b d (suc k)) (sym (board_append T.facts b es [])) (idled_less k (board_after T.facts b es) e h)

  -- all of them
  all_idled : Idled T c b d max_v (board_after T.facts b (idle_uses T c b d))
  unfolding idle_uses
  all_idled = idled_to max_v (omega arith)

-- THE ASKS: none
module _ (T : Timing) (c : ℕ) (b : Board) (d : List ℕ) where
  -- where nobody is picked
  nobody_asks : (k : ℕ) → picked T c b d ≡ Nobody → asks T (suc k) c b d ≡ no_ask Nobody
  unfolding asks
  nobody_asks k e = ap (asks_of T b d (λ x. asks T k c x d)) e

  -- where nothing is due to who is
  somebody_asks : (k v n : ℕ) → picked T c b d ≡ To v n → due_of T b d v n ≡ 0 → asks T (suc k) c b d ≡ no_ask (To v n)
  unfolding asks
  somebody_asks k v n e z = ap (asks_of T b d (λ x. asks T k c x d)) e ∙ (rw (eq-eqb (due_of T b d v n) 0 z))

  -- the state after the turn
  turn_after : (x : Next) → asks T most_picks c b d ≡ no_ask x →
      after_turn T c (record { board = b; done = d }) ≡ record { board = board_after T.facts (board_after T.facts b (idle_uses T c b d)) (work T d x); done = work_done d x }
  unfolding after_turn turn board_by
  turn_after x e =
      let F = T.facts in
      let after : Asks → Run = λ a. record { board = board_after F b (a.events ++ (idle_uses T c (board_after F b a.events) d ++ work T d a.pick)); done = work_done d a.pick } in
      let with-done : Board → Run = λ y. record { board = y; done = work_done d x } in
      ap after e ∙ ap with-done (board_append F b (idle_uses T c b d) (work T d x))

-- who is picked does not idle
chosen_busy : {T : Timing} {c : ℕ} {b : Board} {d : List ℕ} {v n : ℕ} → Chosen T c b d v n → idles T c b d v ≡ false
chosen_busy {T} {c} {b} {d} {v} {n} q =
    let r = any_hit most_n n (is_ready T b d v) q.n_in.from q.n_in.to q.ready in
    miss_right (under_p T.facts.policy) _ (miss_right (is_on T c v) _ (miss_right (ltb 0 (left_of b v)) _ (ap not r)))

module _ {T : Timing} (p : Paced T) {c : ℕ} {b : Board} {d : List ℕ} {v n k : ℕ} (g : Running T b d) (l : Plain T c b d v n (suc k)) where
  -- the idle uses take one tick each
  turn_idled : Idled T c b d max_v (board_after T.facts b (idle_uses T c b d))
  turn_idled = all_idled p c g (λ w i e. let h = l.idling w i e in omega arith)

  -- nobody is picked
  turn_nobody : v ≡ 0 → after_turn T c (record { board = b; done = d }) ≡ record { board = board_after T.facts b (idle_uses T c b d); done = d }
  unfolding board_by
  turn_nobody z = turn_after T c b d Nobody (nobody_asks T c b d 128 (picks_nobody l z))

  -- and then nobody but who idles loses a tick
  spent_nobody : v ≡ 0 → Spent T c b d v n 1 (board_after T.facts b (idle_uses T c b d)) d
  spent_nobody z =
      let h = turn_idled in
      record {
        left_long = h.left_long;
        left = λ w i.
            by_test (loses T c b d v w) (λ e. h.lost w i i.to (or_else (eqb w v) (idles T c b d w) e (ne_eqb w v (λ q. omega arith))))
            (λ e. h.kept w i (neither_right (eqb w v) (idles T c b d w) e));
        over_same = h.over_same;
        stopped_same = h.stopped_same;
        holder_same = h.holder_same;
        waits_same = h.waits_same;
        done = by_test (eqb v 0) (λ e. refl) (λ e. absurd (eqb-false v 0 e z));
      }

  module _ (pos : 0 < v) where
    -- the picked task neither asks nor frees
    turn_work : work T d (To v n) ≡ Use v 1 ∷ []
    turn_work =
        let q = l.goes pos in
        ap (λ m. Use v 1 ∷ free_of v n m) (ap (λ y. T.ends v n (y + 1)) {x = done_of d v n} {y = done_of d v n + 0} (omega arith) ∙ q.no_end 0 (omega arith))

    -- the state after the turn
    turn_somebody : after_turn T c (record { board = b; done = d }) ≡ record { board = one_less (board_after T.facts b (idle_uses T c b d)) v; done = set d (seat v n - 1) (done_of d v n + 1) }
    unfolding board_by
    turn_somebody =
        let F = T.facts in
        let es = idle_uses T c b d in
        let b₁ = board_after F b es in
        let q = l.goes pos in
        let r = plain_chosen l pos in
        let with-done : Board → Run = λ y. record { board = y; done = set d (seat v n - 1) (done_of d v n + 1) } in
        let same = turn_idled.kept v q.v_in (chosen_busy r) in
        let m = q.budget in
        turn_after T c b d (To v n)
        (somebody_asks T c b d 128 v n (picks_somebody l pos) (ap (due_at T b v n) {x = done_of d v n} {y = done_of d v n + 0} (omega arith) ∙ q.no_ask_law 0 (omega arith)))
        ∙ ap (λ fs. with-done (board_after F b₁ fs)) turn_work
        ∙ ap with-done (use_one p.fair (after_shaped F g.shaped es) (after_good p.fair g.shaped g.is_good es) v (both_left (F.has_vcpu v) _ r.on_core) (omega arith))

    -- and then the picked one and who idles lose a tick
    spent_somebody : Spent T c b d v n 1 (one_less (board_after T.facts b (idle_uses T c b d)) v) (set d (seat v n - 1) (done_of d v n + 1))
    spent_somebody =
        let h = turn_idled in
        let b₁ = board_after T.facts b (idle_uses T c b d) in
        let q = l.goes pos in
        let same = h.kept v q.v_in (chosen_busy (plain_chosen l pos)) in
        let long = (after_shaped T.facts g.shaped (idle_uses T c b d)).left_long in
        let iv = q.v_in in
        let new = get_or-set_same b₁.left (v - 1) (left_of b₁ v - 1) 0 (omega arith) in
        let other : (w : ℕ) → InV w → (w ≡ v → ⊥) → left_of (one_less b₁ v) w ≡ left_of b₁ w = λ w a ne. get_or-set_other b₁.left (v - 1) (w - 1) (left_of b₁ v - 1) 0 (λ z. ne (omega arith)) in
        record {
          left_long = length-set b₁.left (v - 1) (left_of b₁ v - 1) ∙ h.left_long;
          left = λ w i.
              by_test (loses T c b d v w)
              (λ e. ⊎_elim (λ z. subst (λ y. left_of (one_less b₁ v) y ≡ left_of b y - 1) (sym z) (omega arith))
              (λ ne. other w i ne ∙ h.lost w i i.to (or_else (eqb w v) (idles T c b d w) e (ne_eqb w v ne))) (same_or_not w v))
              (λ e. other w i (eqb-false w v (neither_left (eqb w v) (idles T c b d w) e)) ∙ h.kept w i (neither_right (eqb w v) (idles T c b d w) e));
          over_same = h.over_same;
          stopped_same = h.stopped_same;
          holder_same = h.holder_same;
          waits_same = h.waits_same;
          done = by_test (eqb v 0) (λ e. absurd (let z = eqb-true v 0 e in omega arith)) (λ e. refl);
        }

  -- WHAT A PLAIN TURN COMES TO
  pub turn_spent : Spent T c b d v n 1 (after_turn T c (record { board = b; done = d })).board (after_turn T c (record { board = b; done = d })).done
  turn_spent =
      ⊎_elim
      (λ z. subst (λ (r : Run). Spent T c b d v n 1 r.board r.done) (sym (turn_nobody z)) (spent_nobody z))
      (λ h. subst (λ (r : Run). Spent T c b d v n 1 r.board r.done) (sym (turn_somebody h)) (spent_somebody h))
      (eq-zero-or-pos v)

  -- so it is the state that is told
  pub plain_turn : {b' : Board} {d' : List ℕ} → Spent T c b d v n 1 b' d' → after_turn T c (record { board = b; done = d }) ≡ record { board = b'; done = d' }
  plain_turn {b'} {d'} s =
      let e = spent_one g.shaped.left_long turn_spent s in
      let run : Board → List ℕ → Run = λ x y. record { board = x; done = y } in
      ap (λ x. run x (after_turn T c (record { board = b; done = d })).done) e.0 ∙ ap (run b') e.1

-- THE STATE after k plain turns is one of a run
pub spent_running : {T : Timing} (p : Paced T) (k : ℕ) {c : ℕ} {b : Board} {d : List ℕ} {v n : ℕ} {b' : Board} {d' : List ℕ} → Running T b d → Plain T c b d v n k → Spent T c b d v n k b' d' → Running T b' d'
spent_running {T} p zero {c} {b} {d} {v} {n} g l s = let e = spent_one g.shaped.left_long (spent_none T c b d v n) s in subst₂ (Running T) e.0 e.1 g
spent_running {T} p (suc k) {c} {b} {d} {v} {n} {b'} {d'} g l s =
    let t = turn_spent p g l in
    spent_running p k (turn_kept p c {r = record { board = b; done = d }} g) (plain_next g.done_long l t)
    (spent_rest g.done_long l (omega arith) t (subst (λ y. Spent T c b d v n y b' d') {x = suc k} {y = 1 + k} (omega arith) s))
