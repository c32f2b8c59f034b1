-- The picks of a turn end: each wait leaves one ready task less on the core, so that one pick more than there are seats is enough.
use Prim.Native.Nat.{ℕ, zero, suc, ◌*◌, ◌≤◌, ◌<◌}
use Rattle.std.specs.Prelude.{◌≡◌, refl, Bool, true, false, ◌&&◌, List, eqb, Ok, Err}
use Rattle.std.proofs.Common.{sym, subst, ◌∙◌, ⊎_elim, arith, eqb-true}
use Rattle.std.proofs.Math.Path.{ap}
use Rattle.std.proofs.lemmas.Bool.{false≢true, eqb-false}
use Rattle.std.specs.Prelude.{if◌then◌else◌}
use Rattle.laws.specs.Choice.{when}
use Rattle.laws.specs.BoolLaws.{both, both_right, clash, bool_cases, same_or_not, is_false}
use Rattle.plan.specs.Limits.{max_v, most_n}
use Rattle.plan.specs.Refusals.{Fault}
use Rattle.board_rules.specs.Facts.{Facts}
use Rattle.board_rules.specs.declared.Board.{Board}
use Rattle.board_rules.specs.declared.Event.TheVariants.{Ask}
use Rattle.board_rules.specs.declared.Next.{Next}
use Rattle.board_rules.specs.declared.Next.TheVariants.{Nobody, To}
use Rattle.board_rules.specs.declared.Outcome.{Outcome}
use Rattle.board_rules.specs.Board.{seat, wait_of, settled, with_wait, may_have, asked, answered, ask_fault, step}
use Rattle.board_events.specs.Events.{board_by, board_after}
use Rattle.board_keeps.specs.Fair.{InV, InN}
use Rattle.board_keeps.specs.Shaped.{Shaped, step_shaped}
use Rattle.board_keeps.specs.Change.{wait_new}
use Rattle.board_rules.specs.Names.{seat_one}
use Rattle.board_rules.specs.Change.{wait_else}
use Rattle.clock_rules.specs.Clock.{Timing, is_unfinished, is_ready, is_on, picked, due_of, Asks, is_wait, no_ask, after, asks_of, asks, most_picks}
use Rattle.clock_steps.specs.Picked.{nobody_picks, Chosen, Picked, nobody, somebody, picks}
use Rattle.clock_steps.specs.Taken.{ask_granted, ask_waits}
use Rattle.clock_steps.specs.Asking.{Asking, spent, none_picked, none_due, has_asked, has_waited, asking}
use Rattle.clock_steps.specs.Counts.{sum_to, sum_to_bound, sum_to_le, sum_to_less}

-- a task of core c that is ready
abbrev pub ready_on : Timing → ℕ → Board → List ℕ → ℕ → ℕ → Bool
ready_on T c b d v n = is_on T c v && is_ready T b d v n

-- how many of a VCPU's tasks are, and of all
unfoldable pub ready_of : Timing → ℕ → Board → List ℕ → ℕ → ℕ
ready_of T c b d v = sum_to most_n (λ n. when (ready_on T c b d v n) 1)

-- and of all its VCPUs of the core
unfoldable pub ready_tasks : Timing → ℕ → Board → List ℕ → ℕ
ready_tasks T c b d = sum_to max_v (ready_of T c b d)

-- a task counts once
one_most : (t : Bool) → when t 1 ≤ 1
unfolding when
one_most true = omega arith
one_most false = omega arith

-- it counts no more where it is ready only if it was
one_le : (s t : Bool) → (s ≡ true → t ≡ true) → when s 1 ≤ when t 1
unfolding when
one_le true true h = omega arith
one_le true false h = absurd (false≢true (h refl))
one_le false t h = omega arith

-- and less where it is ready no more
one_less_law : (s t : Bool) → s ≡ false → t ≡ true → when s 1 < when t 1
unfolding when
one_less_law s t e h = rw (e, h) (omega arith)

-- at most one for each seat
pub ready_bound : (T : Timing) (c : ℕ) (b : Board) (d : List ℕ) → ready_tasks T c b d < most_picks
unfolding ready_tasks ready_of
ready_bound T c b d =
    let h = sum_to_bound max_v (most_n * 1) (ready_of T c b d) (λ v. sum_to_bound most_n 1 (λ n. when (ready_on T c b d v n) 1) (λ n. one_most (ready_on T c b d v n))) in omega arith

-- WHO WAITS

-- an ask that waits leaves the board with that wait
pub waits_board : (F : Facts) (b : Board) (v n m : ℕ) → is_wait (step F b (Ask v n m)).answer ≡ true → (step F b (Ask v n m)).board ≡ settled F (with_wait b v n m)
waits_board F b v n m w = at_fault (ask_fault F b v n m) refl
  where
    at_fault : (x : Fault) → ask_fault F b v n m ≡ x → (step F b (Ask v n m)).board ≡ settled F (with_wait b v n m)
    at_fault (Ok tt) e =
        ⊎_elim (λ h. absurd (clash w (ap (λ (o : Outcome). is_wait o.answer) (ask_granted F b v n m e h))))
        (λ h. ap (λ (o : Outcome). o.board) (ask_waits F b v n m e h)) (bool_cases (may_have F b v n m))
    at_fault (Err r) e = absurd (clash w (unfold step in ap (λ x. is_wait (answered b x (asked F b v n m)).answer) e))

module _ (T : Timing) (c : ℕ) (d : List ℕ) {b b' : Board} (s : Shaped b) (v n m : ℕ) (q : Chosen T c b d v n) (nz : m ≡ 0 → ⊥) (to : b' ≡ settled T.facts (with_wait b v n m)) where
  -- the task that asked waits for m
  wait_here : wait_of b' v n ≡ m
  unfolding settled
  wait_here = ap (λ x. wait_of x v n) to ∙ wait_new s v n m q.v_in q.n_in

  -- the others wait for what they waited for
  wait_there : (x j : ℕ) → InV x → InN j → (seat x j ≡ seat v n → ⊥) → wait_of b' x j ≡ wait_of b x j
  unfolding settled
  wait_there x j i l ne = ap (λ z. wait_of z x j) to ∙ wait_else b v n m x j q.v_in q.n_in i l ne

  -- it is ready no more
  not_ready : ready_on T c b' d v n ≡ false
  not_ready = is_false (ready_on T c b' d v n) (λ e. nz (sym wait_here ∙ eqb-true (wait_of b' v n) 0 (both_right (is_unfinished T d v n) _ (both_right (is_on T c v) _ e))))

  -- and no other becomes ready
  ready_was : (x j : ℕ) → InV x → InN j → ready_on T c b' d x j ≡ true → ready_on T c b d x j ≡ true
  ready_was x j i l e =
      ⊎_elim
      (λ z. let r = seat_one x j v n i l q.v_in q.n_in z in absurd (clash (subst (λ y. ready_on T c b' d v y ≡ true) r.1 (subst (λ y. ready_on T c b' d y j ≡ true) r.0 e)) not_ready))
      (λ ne. sym (ap (λ w. is_on T c x && (is_unfinished T d x j && eqb w 0)) (wait_there x j i l ne)) ∙ e) (same_or_not (seat x j) (seat v n))

  -- so no task counts more than before
  each_le : (x j : ℕ) → InV x → InN j → when (ready_on T c b' d x j) 1 ≤ when (ready_on T c b d x j) 1
  each_le x j i l = one_le (ready_on T c b' d x j) (ready_on T c b d x j) (ready_was x j i l)

  -- and the one that waits counts less
  here_less : when (ready_on T c b' d v n) 1 < when (ready_on T c b d v n) 1
  here_less = one_less_law (ready_on T c b' d v n) (ready_on T c b d v n) not_ready (both (is_on T c v) _ q.on_core q.ready)

  -- one ready task less
  pub wait_less : ready_tasks T c b' d < ready_tasks T c b d
  unfolding ready_tasks ready_of
  wait_less =
      sum_to_less max_v v (ready_of T c b' d) (ready_of T c b d) q.v_in
      (sum_to_less most_n n (λ j. when (ready_on T c b' d v j) 1) (λ j. when (ready_on T c b d v j) 1) q.n_in here_less (λ j l. each_le v j q.v_in l))
      (λ x i. sum_to_le most_n (λ j. when (ready_on T c b' d x j) 1) (λ j. when (ready_on T c b d x j) 1) (λ j l. each_le x j i l))

-- MORE PICKS CHANGE NOTHING

module _ (T : Timing) (c : ℕ) (d : List ℕ) where
  -- the asks go on alike where the picks after a wait do
  again_same : {b : Board} (f g : Board → Asks) → {x : Next} → Picked T c b d x →
      ((v n m : ℕ) → Chosen T c b d v n → (m ≡ 0 → ⊥) → is_wait (step T.facts b (Ask v n m)).answer ≡ true → f (step T.facts b (Ask v n m)).board ≡ g (step T.facts b (Ask v n m)).board) →
      asks_of T b d f x ≡ asks_of T b d g x
  again_same f g nobody h = refl
  again_same {b} f g (somebody v n q) h = at (eqb (due_of T b d v n) 0) refl (is_wait (step T.facts b (Ask v n (due_of T b d v n))).answer) refl
    where
      go_on : (Board → Asks) → Bool → Bool → Asks
      go_on k x y =
          if x then no_ask (To v n)
          else (if y then after (Ask v n (due_of T b d v n)) (k (step T.facts b (Ask v n (due_of T b d v n))).board) else after (Ask v n (due_of T b d v n)) (no_ask (To v n)))

      at : (x : Bool) → eqb (due_of T b d v n) 0 ≡ x → (y : Bool) → is_wait (step T.facts b (Ask v n (due_of T b d v n))).answer ≡ y → go_on f x y ≡ go_on g x y
      at true e y w = refl
      at false e true w = ap (after (Ask v n (due_of T b d v n))) (h v n (due_of T b d v n) q (eqb-false (due_of T b d v n) 0 e) w)
      at false e false w = refl

  -- two bounds on the picks, each above the number of ready tasks
  pub asks_enough : (k j : ℕ) {b : Board} → Shaped b → ready_tasks T c b d < k → ready_tasks T c b d < j → asks T k c b d ≡ asks T j c b d
  unfolding asks
  asks_enough zero j s l r = absurd (omega arith)
  asks_enough (suc k) zero s l r = absurd (omega arith)
  asks_enough (suc k) (suc j) {b} s l r =
      again_same (λ x. asks T k c x d) (λ x. asks T j c x d) (picks T c b d)
      (λ v n m q nz w.
      let less = wait_less T c d s v n m q nz (waits_board T.facts b v n m w) in
      asks_enough k j (step_shaped T.facts (Ask v n m) s) (omega arith) (omega arith))

  -- the picks of a turn are enough
  pub asks_most : (k : ℕ) {b : Board} → Shaped b → most_picks ≤ k → asks T k c b d ≡ asks T most_picks c b d
  asks_most k {b} s l = let h = ready_bound T c b d in asks_enough k most_picks s (omega arith) h

  -- with so many picks nobody uses the tick only where nobody is picked on the last board
  unspent : {k : ℕ} {b : Board} {a : Asks} → Shaped b → ready_tasks T c b d < k → Asking T c d k b a → a.pick ≡ Nobody → picked T c (board_after T.facts b a.events) d ≡ Nobody
  unfolding board_by
  unspent s l spent e = absurd (omega arith)
  unspent s l (none_picked h) e = h
  unspent s l (none_due v n h q z) e = absurd (nobody_picks (sym e))
  unspent s l (has_asked v n m h q z nz w) e = absurd (nobody_picks (sym e))
  unspent {b} s l (has_waited v n m h q z nz w rest) e =
      let less = wait_less T c d s v n m q nz (waits_board T.facts b v n m w) in
      unspent (step_shaped T.facts (Ask v n m) s) (omega arith) rest e

  -- and so with the picks of a turn
  pub nobody_picked : {b : Board} → Shaped b → (asks T most_picks c b d).pick ≡ Nobody → picked T c (board_after T.facts b (asks T most_picks c b d).events) d ≡ Nobody
  nobody_picked {b} s e = unspent s (ready_bound T c b d) (asking T c d most_picks b) e
