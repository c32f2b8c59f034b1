-- Before the first tick: a fresh board, and no job left over.
use Rattle.std.specs.Prelude.{ℕ, ◌+◌, ◌≤◌, ◌≡◌, refl, List, false, ◌&&◌, eqb, ltb, get_or}
use Rattle.std.proofs.Common.{sym, ap, ◌∙◌, arith, le-ltb}
use Rattle.laws.specs.RangeLaws.{none_of}
use Rattle.laws.specs.BoolLaws.{miss_left, miss_right, is_false}
use Rattle.plan.specs.Limits.{most_n, max_core}
use Rattle.board_rules.specs.Board.{left_of, over_of, is_stopped, wait_of, holds_global, fresh}
use Rattle.board_rules.specs.Names.{seat_some}
use Rattle.board_rules.specs.Settle.{global_hold}
use Rattle.board_keeps.specs.Fair.{InV, InN}
use Rattle.board_keeps.proofs.Runs.{fresh_holder}
use Rattle.clock_rules.specs.Clock.{Timing, at_first, is_on}
use Rattle.clock_sets.specs.Sets.{in_set}
use Rattle.clock_sets.specs.SetLaws.{in_none}
use Rattle.clock_marks.specs.Marks.{at_budget, at_spare, at_ready, at_holding, at_cores, tasks_cell, holders_cell, held_cell, done_cell, place_cell, done_in, spares, Sized, Mirrors}
use Rattle.clock_steps.specs.Done.{by_seat_law, seats_long}
use Rattle.clock_mirrors.specs.Tells.{Reading, Tells, Says, tells_mirror}
use Rattle.clock_mirrors.specs.Writes.{seat_list}
use Rattle.clock_mirrors.specs.Holds.{held_none}

-- the first list: cores, budgets and overruns of the plan, every job done, and nothing else
pub record First (T : Timing) (k : List ℕ) : Type 0 where
  pub sized : Sized k
  pub cores : (c v : ℕ) → c ≤ max_core → InV v → in_set (get_or k (at_cores + c) 0) v ≡ is_on T c v
  pub budgets : (v : ℕ) → InV v → in_set (get_or k at_budget 0) v ≡ ltb 0 (left_of (fresh T.facts) v)
  pub spared : (v : ℕ) → InV v → in_set (get_or k at_spare 0) v ≡ spares T.facts.choice (is_stopped (fresh T.facts) v) (over_of (fresh T.facts) v)
  pub no_ready : get_or k at_ready 0 ≡ 0
  pub no_holding : get_or k at_holding 0 ≡ 0
  pub no_tasks_law : (v : ℕ) → InV v → tasks_cell k v ≡ 0
  pub no_holders : (v : ℕ) → InV v → holders_cell k v ≡ 0
  pub no_held : (v n : ℕ) → InV v → InN n → held_cell k v n ≡ 0
  pub all_done : (v n : ℕ) → InV v → InN n → done_cell k v n ≡ T.lengths v n

module _ {T : Timing} {k : List ℕ} (f : First T k) where
  -- what it tells
  abbrev first_read : Reading
  first_read = record {
    core = λ c v. is_on T c v;
    budget = λ v. ltb 0 (left_of (fresh T.facts) v);
    spare = λ v. spares T.facts.choice (is_stopped (fresh T.facts) v) (over_of (fresh T.facts) v);
    holding = λ v. false;
    ready = λ v n. false;
    held = λ v n. 0;
    done = λ v n. T.lengths v n;
    place = λ v n. place_cell k v n;
  }

  -- it does
  first_tells : Tells k first_read
  first_tells = record {
    sized = f.sized;
    cores = f.cores;
    budgets = f.budgets;
    spared = f.spared;
    some_ready = λ v i. ap (λ s. in_set s v) f.no_ready ∙ in_none v ∙ sym (none_of most_n (λ n. false) (λ n a c. refl));
    holdings = λ v i. ap (λ s. in_set s v) f.no_holding ∙ in_none v;
    tasks = λ v n i j. ap (λ s. in_set s n) (f.no_tasks_law v i) ∙ in_none n;
    holders = λ v n i j. ap (λ s. in_set s n) (f.no_holders v i) ∙ in_none n;
    helds = f.no_held;
    dones = f.all_done;
    places = λ v n i j. refl;
  }

  -- what the fresh board says
  first_says : (x : List ℕ) → Says T x (fresh T.facts) first_read
  first_says x = record {
    core = λ c v a i. refl;
    budget = λ v i. refl;
    spare = λ v i. refl;
    holding = λ v i.
        sym (is_false (holds_global T.facts (fresh T.facts) v) (λ t.
        let r = global_hold T.facts (fresh T.facts) v t in seat_some v r.n r.n_in (sym r.held ∙ fresh_holder T.facts r.m r.m_in)));
    ready = λ v n i j.
        sym (miss_left (T.facts.has_task v n && ltb (T.lengths v n) (T.lengths v n)) (eqb (wait_of (fresh T.facts) v n) 0) (miss_right (T.facts.has_task v n) _ (le-ltb (T.lengths v n) (T.lengths v n) (omega arith))));
    held = λ v n i j. sym (held_none T.facts (fresh T.facts) v n (λ m a h. seat_some v n j (sym h ∙ fresh_holder T.facts m a)));
    placed = λ v n i j h. absurd (omega arith);
  }

  -- the first list mirrors the fresh board
  pub first_mirrors : (x : List ℕ) → Mirrors T x (fresh T.facts) k
  first_mirrors x = tells_mirror first_tells (first_says x)

  -- and every job is done
  pub first_done : done_in k ≡ (at_first T).done
  unfolding at_first
  first_done = seat_list (done_in k) T.lengths (seats_long (λ v n. done_cell k v n)) (λ v n i j. by_seat_law (λ v n. done_cell k v n) v n i j ∙ f.all_done v n i j)
