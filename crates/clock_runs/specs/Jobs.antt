-- What a turn and a tick do to the ticks that a task's job has done: at most one more, in the turn of its VCPU's core.
use Prim.Native.Nat.{ℕ, zero, suc, ◌+◌, ◌-◌, ◌*◌, ◌≤◌}
use Rattle.std.specs.Prelude.{◌≡◌, Bool, ◌⊎◌, length}
use Rattle.std.proofs.Math.Path.{refl, ap, subst}
use Rattle.std.proofs.Common.{sym, ◌∙◌, inl, inr, eqb-true, ltb-true, length-set}
use Rattle.std.proofs.Math.Bool.{true, false}
use mathlib.Core.List.{List, [], ◌∷◌}
use Rattle.std.proofs.Math.Logic.{⊎_elim}
use native.Mathlib.Omega.{arith}
use Rattle.std.specs.Prelude.{if◌then◌else◌}
use Rattle.laws.specs.Sums.{Each, Pairs}
use Rattle.laws.specs.SumLaws.{each_map}
use Rattle.laws.specs.BoolLaws.{both_left, both_right, same_or_not}
use Rattle.plan.specs.Limits.{max_v, most_n}
use Rattle.board_rules.specs.declared.Next.{Next}
use Rattle.board_rules.specs.declared.Next.TheVariants.{Nobody, To}
use Rattle.board_rules.specs.Board.{seat}
use Rattle.board_keeps.specs.Fair.{InV, InN}
use Rattle.board_rules.specs.Names.{seat_one}
use Rattle.clock_rules.specs.Clock.{Timing, Run, done_of, at_first, is_unfinished, is_released, released, asks_at, work_done, after_turn, cores, after_turns, opened, tick}
use Rattle.clock_steps.specs.Picked.{nobody_picks}
use Rattle.clock_steps.specs.Done.{by_seat_law, seats_long, done_new, done_else}
use Rattle.clock_steps.specs.OneTick.{OneMore}
use Rattle.clock_runs.specs.Runs.{state_at}
use Rattle.clock_runs.specs.Cores.{turn_chosen}

-- A TURN

module _ (v n : ℕ) (i : InV v) (j : InN n) where
  -- the work of another task leaves this one's ticks
  work_other : (d : List ℕ) (w k : ℕ) → InV w → InN k → (To w k ≡ To v n → ⊥) → done_of (work_done d (To w k)) v n ≡ done_of d v n
  work_other d w k a b ne =
      done_else d w k (done_of d w k + 1) a b v n i j (λ e. let q = seat_one v n w k i j a b e in ne (ap (λ x. To x k) (sym q.0) ∙ ap (To v) (sym q.1)))

  module _ (T : Timing) (c : ℕ) (r : Run) where
    -- a turn leaves the ticks of whoever is not picked
    pub turn_same : ((asks_at T c r).pick ≡ To v n → ⊥) → done_of (after_turn T c r).done v n ≡ done_of r.done v n
    unfolding after_turn
    turn_same ne = go (asks_at T c r).pick refl
      where
        go : (x : Next) → (asks_at T c r).pick ≡ x → done_of (work_done r.done x) v n ≡ done_of r.done v n
        go Nobody e = refl
        go (To w k) e = let p = turn_chosen T c r w k e in work_other r.done w k p.v_in p.n_in (λ q. ne (e ∙ q))

    -- and adds one to those of the one that is
    pub turn_grows : length r.done ≡ max_v * most_n → (asks_at T c r).pick ≡ To v n → done_of (after_turn T c r).done v n ≡ done_of r.done v n + 1
    unfolding after_turn
    turn_grows l e = ap (λ x. done_of (work_done r.done x) v n) e ∙ done_new r.done v n (done_of r.done v n + 1) i j l

    -- so a turn of another core leaves them
    pub turn_off_core : (T.core v ≡ c → ⊥) → done_of (after_turn T c r).done v n ≡ done_of r.done v n
    turn_off_core ne =
        turn_same (λ e. ne (eqb-true (T.core v) c (both_right (T.facts.has_vcpu v) _ (turn_chosen T c r v n e).on_core)))

    -- a turn leaves a task's ticks, or the task is picked and has one tick more
    pub turn_cases : length r.done ≡ max_v * most_n → (done_of (after_turn T c r).done v n ≡ done_of r.done v n)
        ⊎ (((asks_at T c r).pick ≡ To v n) × (done_of (after_turn T c r).done v n ≡ done_of r.done v n + 1))
    turn_cases l = go (asks_at T c r).pick refl
      where
        go : (x : Next) → (asks_at T c r).pick ≡ x → (done_of (after_turn T c r).done v n ≡ done_of r.done v n)
            ⊎ (((asks_at T c r).pick ≡ To v n) × (done_of (after_turn T c r).done v n ≡ done_of r.done v n + 1))
        go Nobody e = inl (turn_same (λ q. nobody_picks (sym e ∙ q)))
        go (To w k) e =
            ⊎_elim
            (λ a. ⊎_elim
            (λ b. let q : (asks_at T c r).pick ≡ To v n = e ∙ ap (λ x. To x k) a ∙ ap (To v) b in inr (q, turn_grows l q))
            (λ b. inl (turn_same (λ q. b (let z : To w k ≡ To v n = sym e ∙ q in let y : k ≡ n = cc in y)))) (same_or_not k n))
            (λ a. inl (turn_same (λ q. a (let z : To w k ≡ To v n = sym e ∙ q in let y : w ≡ v = cc in y)))) (same_or_not w v)

    -- within its length a job stays so
    turn_within : length r.done ≡ max_v * most_n → done_of r.done v n ≤ T.lengths v n → done_of (after_turn T c r).done v n ≤ T.lengths v n
    turn_within l h =
        ⊎_elim (λ e. omega arith)
        (λ e. let q = e.1 in
        let u = both_left (is_unfinished T r.done v n) _ (turn_chosen T c r v n e.0).ready in
        let z = ltb-true (done_of r.done v n) (T.lengths v n) (both_right (T.facts.has_task v n) _ u) in omega arith) (turn_cases l)

-- a turn leaves the number of seats
turn_long : (T : Timing) (c : ℕ) (r : Run) → length r.done ≡ max_v * most_n → length (after_turn T c r).done ≡ max_v * most_n
unfolding after_turn
turn_long T c r l = go (asks_at T c r).pick
  where
    go : (x : Next) → length (work_done r.done x) ≡ max_v * most_n
    go Nobody = l
    go (To w k) = length-set r.done (seat w k - 1) (done_of r.done w k + 1) ∙ l

-- TURNS

-- no core twice
abbrev pub Apart : List ℕ → Type 0
Apart cs = Pairs (λ a c. a ≡ c → ⊥) cs

-- the cores of a tick are such
pub cores_apart : Apart cores
cores_apart = omega arith

-- a tick begins with a number for each seat
opened_long : (T : Timing) (t : ℕ) (r : Run) → length (opened T t r).done ≡ max_v * most_n
unfolding opened released
opened_long T t r = seats_long (λ v n. if is_released T t v n then 0 else done_of r.done v n)

module _ (T : Timing) where
  -- turns leave the number of seats
  turns_long : (cs : List ℕ) (r : Run) → length r.done ≡ max_v * most_n → length (after_turns T cs r).done ≡ max_v * most_n
  unfolding after_turns
  turns_long [] r l = l
  turns_long (c ∷ cs) r l = turns_long cs (after_turn T c r) (turn_long T c r l)

  -- every state of a run has a number for each seat
  pub state_long : (k : ℕ) → length (state_at T k).done ≡ max_v * most_n
  unfolding state_at at_first tick
  state_long zero = seats_long T.lengths
  state_long (suc k) = turns_long cores (opened T k (state_at T k)) (opened_long T k (state_at T k))

  module _ (v n : ℕ) (i : InV v) (j : InN n) where
    -- the turns of other cores leave a task's ticks
    pub turns_off_core : (cs : List ℕ) (r : Run) → Each (λ c. T.core v ≡ c → ⊥) cs → done_of (after_turns T cs r).done v n ≡ done_of r.done v n
    unfolding after_turns
    turns_off_core [] r h = refl
    turns_off_core (c ∷ cs) r h = turns_off_core cs (after_turn T c r) h.1 ∙ turn_off_core v n i j T c r h.0

    -- the turns of different cores add one at most: a VCPU is on one core
    pub turns_grow : (cs : List ℕ) (r : Run) → length r.done ≡ max_v * most_n → Apart cs → OneMore (done_of r.done v n) (done_of (after_turns T cs r).done v n)
    unfolding after_turns
    turns_grow [] r l p = record { no_less = omega arith; one_most = omega arith }
    turns_grow (c ∷ cs) r l p =
        let ih = turns_grow cs (after_turn T c r) (turn_long T c r l) p.1 in
        ⊎_elim
        (λ e. let z = turns_off_core cs (after_turn T c r) (each_map cs (λ x ne q. ne (sym e ∙ q)) p.0) in
        ⊎_elim (λ q. record { no_less = omega arith; one_most = omega arith }) (λ q. let y = q.1 in record { no_less = omega arith; one_most = omega arith })
        (turn_cases v n i j T c r l))
        (λ ne. let z = turn_off_core v n i j T c r ne in record { no_less = omega (arith, ih.no_less); one_most = omega (arith, ih.one_most) })
        (same_or_not (T.core v) c)

    -- within its length a job stays so
    turns_within : (cs : List ℕ) (r : Run) → length r.done ≡ max_v * most_n → done_of r.done v n ≤ T.lengths v n → done_of (after_turns T cs r).done v n ≤ T.lengths v n
    unfolding after_turns
    turns_within [] r l h = h
    turns_within (c ∷ cs) r l h = turns_within cs (after_turn T c r) (turn_long T c r l) (turn_within v n i j T c r l h)

    -- A TICK

    -- a job that is released begins anew
    pub opened_done : (t : ℕ) (r : Run) → done_of (opened T t r).done v n ≡ (if is_released T t v n then 0 else done_of r.done v n)
    unfolding opened released
    opened_done t r = by_seat_law (λ v n. if is_released T t v n then 0 else done_of r.done v n) v n i j

    -- a tick adds one at most to what the job has done when it is opened
    pub tick_grows : (t : ℕ) (r : Run) → OneMore (if is_released T t v n then 0 else done_of r.done v n) (done_of (tick T t r).done v n)
    unfolding tick
    tick_grows t r = subst (λ x. OneMore x (done_of (after_turns T cores (opened T t r)).done v n)) (opened_done t r) (turns_grow cores (opened T t r) (opened_long T t r) cores_apart)

    -- at every state of a run a job has done no more than its length
    pub state_within : (k : ℕ) → done_of (state_at T k).done v n ≤ T.lengths v n
    unfolding state_at at_first tick
    state_within zero = let e = by_seat_law T.lengths v n i j in omega arith
    state_within (suc k) =
        let ih = state_within k in turns_within cores (opened T k (state_at T k)) (opened_long T k (state_at T k)) (rw (opened_done k (state_at T k)) (least (is_released T k v n) ih))
      where
        least : (t : Bool) → done_of (state_at T k).done v n ≤ T.lengths v n → (if t then 0 else done_of (state_at T k).done v n) ≤ T.lengths v n
        least true h = omega arith
        least false h = h
