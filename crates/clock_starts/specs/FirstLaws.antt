-- What the parts of the start write is the first state of a run, mirrored.
use Rattle.std.specs.Prelude.{ℕ, ◌+◌, ◌-◌, ◌*◌, ◌<◌, ◌≤◌, ◌≡◌, List, Bool, true, false, ◌&&◌, length}
use Rattle.std.proofs.Math.Path.{sym, ap, ap₂, subst}
use Rattle.std.proofs.Common.{subst₂, ◌∙◌, eqb-true, eq-eqb, ltb-true, lt-ltb}
use native.Mathlib.Omega.{arith}
use Rattle.std.proofs.Math.Dec.{eqb, ltb}
use Rattle.std.proofs.Math.ListN.{get_or}
use Rattle.laws.specs.Choice.{when}
use Rattle.laws.specs.Range.{list_to}
use Rattle.laws.specs.BoolLaws.{both, both_left, both_right, both_ways}
use Rattle.plan.specs.Limits.{max_v, max_m, most_n, max_core}
use Rattle.plan.specs.declared.Policy.{Policy}
use Rattle.plan.specs.declared.OverrunChoice.{OverrunChoice}
use Rattle.board_seats.specs.Seats.{is_v, is_n, seat, budget_of, overrun_of}
use Rattle.board_rules.specs.View.{facts_in}
use Rattle.board_rules.specs.declared.Board.{Board}
use Rattle.board_rules.specs.Board.{left_of, over_of, is_stopped, fresh}
use Rattle.board_keeps.specs.Fair.{InV, InN}
use Rattle.board_viewcells.proofs.ViewLaws.{name_in}
use Rattle.clock_rules.specs.Clock.{at_first, is_on}
use Rattle.clock_sets.specs.Sets.{in_set}
use Rattle.clock_times.specs.Times.{core_cell, lengths_cell, timing_in, Paired, Ordered}
use Rattle.clock_marks.specs.Marks.{at_budget, at_spare, at_ready, at_holding, at_tasks, at_holders, at_held, at_done, at_cores, done_cell, board_of, done_in, spares, Mirrors}
use Rattle.clock_nexts.specs.Nexts.{places, nexts_length, Wrote}
use Rattle.clock_puts.specs.Puts.{Cleared}
use Rattle.clock_paced.specs.Paced.{Paced}
use Rattle.clock_steps.specs.Running.{Running, first_running}
use Rattle.clock_mirrors.specs.Firsts.{First, first_mirrors, first_done}
use Rattle.clock_going.specs.Going.{timing_by, Going}
use Rattle.clock_firsts.specs.Firsts.{first_nexts, DoneTo, SuppliedTo}
use Rattle.clock_firsts.specs.NextLaws.{first_nexts_law}
use Rattle.clock_starts.specs.Starts.{Started}

-- a number under a test that holds
when_in : (r : Bool) (y : ℕ) → r ≡ true → when r y ≡ y
unfolding when
when_in r y e = rw e

-- the cell of a core, which has one more than it, or 0 for none
core_test : (a c : ℕ) → eqb a (c + 1) ≡ (ltb 0 a && eqb (a - 1) c)
core_test a c =
    both_ways (eqb a (c + 1)) (ltb 0 a && eqb (a - 1) c)
    (λ e. let q = eqb-true a (c + 1) e in both (ltb 0 a) (eqb (a - 1) c) (lt-ltb 0 a (omega arith)) (eq-eqb (a - 1) c (omega arith)))
    (λ e. let q = ltb-true 0 a (both_left (ltb 0 a) (eqb (a - 1) c) e) in let s = eqb-true (a - 1) c (both_right (ltb 0 a) (eqb (a - 1) c) e) in eq-eqb a (c + 1) (omega arith))

-- five lists that are those of the fresh board
pub fresh_is : (p : Policy) (o : OverrunChoice) (t : List ℕ) {ls os : List ℕ} {ss : List Bool} {hs ws : List ℕ} → ls ≡ list_to max_v (λ v. budget_of t v) →
    os ≡ list_to max_v (λ v. overrun_of t v) → ss ≡ list_to max_v (λ v. false) → hs ≡ list_to max_m (λ m. 0) → ws ≡ list_to (max_v * most_n) (λ s. 0) →
    board_of ls os ss hs ws ≡ fresh (facts_in p o t)
unfolding fresh facts_in
fresh_is p o t a b c d e = rw (a, b, c, d, e)

module _ {o : OverrunChoice} {t x ls os : List ℕ} {ss : List Bool} {k₀ k₁ k : List ℕ}
    (pair : Paired t x) (c : Cleared x k₀) (d : DoneTo x k₀ k₁ (max_v * most_n)) (s : SuppliedTo o ls os ss k₁ k (max_v + 1)) where
  -- a place that neither loop writes
  empty_at : (j : ℕ) → 1 < j → j < at_cores → (at_done + 1 ≤ j → j < at_done + 1 + max_v * most_n → ⊥) → get_or k j 0 ≡ 0
  empty_at j l h out = s.else_same j (λ e. omega arith) (λ e. omega arith) ∙ d.else_same j out ∙ c.empty j h

  module _ {hs ws : List ℕ} (p : Policy) (b : board_of ls os ss hs ws ≡ fresh (facts_in p o t)) where
    -- whose core is which
    first_core : (y v : ℕ) → y ≤ max_core → InV v → in_set (get_or k (at_cores + y) 0) v ≡ is_on (timing_by p o t x) y v
    unfolding timing_in facts_in
    first_core y v l i =
        ap (λ z. in_set z v) (s.else_same (at_cores + y) (λ e. omega arith) (λ e. omega arith) ∙ d.else_same (at_cores + y) (λ a h. omega arith))
        ∙ c.cores y v l i ∙ core_test (core_cell x v) y
        ∙ ap₂ (λ (q : Bool) z. q && eqb z y) (sym (pair.same_vcpu v i)) (sym (when_in (is_v v) (core_cell x v - 1) (name_in v max_v i)))

    -- every job is done
    first_lengths : (v n : ℕ) → InV v → InN n → done_cell k v n ≡ (timing_by p o t x).lengths v n
    unfolding timing_in
    first_lengths v n i j =
        s.else_same (at_done + seat v n) (λ e. omega arith) (λ e. omega arith)
        ∙ ap (λ z. get_or k₁ z 0) (let e : at_done + seat v n ≡ at_done + 1 + (seat v n - 1) = omega arith in e)
        ∙ d.new (seat v n - 1) (omega arith)
        ∙ sym (when_in (is_v v && is_n n) (lengths_cell x v n) (both (is_v v) (is_n n) (name_in v max_v i) (name_in n most_n j)))

    -- the list is a first one
    first_list : First (timing_by p o t x) k
    unfolding timing_in facts_in
    first_list = record {
      sized = s.sized;
      cores = first_core;
      budgets = λ v i. subst (λ (y : Board). in_set (get_or k at_budget 0) v ≡ ltb 0 (left_of y v)) b (s.budgets v i.from (omega arith));
      spared = λ v i. subst (λ (y : Board). in_set (get_or k at_spare 0) v ≡ spares o (is_stopped y v) (over_of y v)) b (s.spared v i.from (omega arith));
      no_ready = empty_at at_ready (omega arith) (omega arith) (λ a h. omega arith);
      no_holding = empty_at at_holding (omega arith) (omega arith) (λ a h. omega arith);
      no_tasks_law = λ v i. empty_at (at_tasks + v) (omega arith) (omega arith) (λ a h. omega arith);
      no_holders = λ v i. empty_at (at_holders + v) (omega arith) (omega arith) (λ a h. omega arith);
      no_held = λ v n i j. empty_at (at_held + seat v n) (omega arith) (omega arith) (λ a h. omega arith);
      all_done = first_lengths;
    }

    -- the board is fresh
    start_fresh : board_of ls os ss hs ws ≡ fresh (timing_by p o t x).facts
    unfolding timing_in
    start_fresh = b

    -- and the first
    start_board : board_of ls os ss hs ws ≡ (at_first (timing_by p o t x)).board
    unfolding at_first timing_in
    start_board = b

    -- so are the ticks done
    start_done : done_in k ≡ (at_first (timing_by p o t x)).done
    start_done = first_done first_list

    -- and what holds between the parts of a tick holds
    start_going : Ordered x → Paced (timing_by p o t x) → Going p o t x ls os ss hs ws k
    start_going ord pace = record {
      paired = pair;
      ordered = ord;
      paced = pace;
      running = subst₂ (Running (timing_by p o t x)) (sym start_board) (sym start_done) (first_running pace);
      mirrors = subst (λ (y : Board). Mirrors (timing_by p o t x) x y k) (sym start_fresh) (first_mirrors first_list x);
    }

  -- THE LISTS ARE THOSE OF A RUN BEFORE TICK 0
  pub started : {hs ws : List ℕ} → Ordered x → ((p : Policy) → Paced (timing_by p o t x)) → ((p : Policy) → board_of ls os ss hs ws ≡ fresh (facts_in p o t)) → {y₀ y₁ y : List ℕ} → length y₀ ≡ nexts_length → Wrote (first_nexts x) y₀ y₁ 0 places → Wrote (λ j. 0) y₁ y places nexts_length → Started o t x ls os ss hs ws k y
  started ord pace b l n m = record {
    going = λ p. start_going p (b p) ord (pace p);
    board_first = λ p. start_board p (b p);
    done_first = λ p. start_done p (b p);
    nexts = first_nexts_law l n m;
  }
