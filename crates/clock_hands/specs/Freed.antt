-- A finished section is freed: what is written then of the task that held the mutex, and of the next one that has it.
use Rattle.std.specs.Prelude.{ℕ, ◌+◌, ◌-◌, ◌≤◌, ◌≡◌, Bool, true, false, ◌&&◌, leb, Ok, Err}
use Rattle.std.proofs.Math.Path.{refl, ap, sym, subst, subst₂}
use Rattle.std.proofs.Common.{◌∙◌, true≢false, arith, le-leb, eq-eqb, ne_eqb}
use mathlib.Core.List.{List, [], ◌∷◌}
use Rattle.std.proofs.Math.Logic.{⊎_elim}
use Rattle.std.proofs.Math.Dec.{ltb}
use Rattle.std.proofs.Math.ListN.{get_or}
use Rattle.std.specs.Prelude.{if◌then◌else◌}
use Rattle.laws.specs.Choice.{when}
use Rattle.laws.specs.Range.{any_to}
use Rattle.laws.specs.RangeLaws.{any_at, any_hit, highest_le}
use Rattle.laws.specs.BoolLaws.{both, both_left, both_right, is_true, is_false, same_or_not}
use Rattle.plan.specs.Limits.{max_v, max_m, most_n}
use Rattle.plan.specs.declared.Policy.{Policy}
use Rattle.plan.specs.declared.OverrunChoice.{OverrunChoice}
use Rattle.plan.specs.Refusals.{Fault}
use Rattle.board_seats.specs.Seats.{is_v, is_n, seat, is_global, is_local, holds_it}
use Rattle.board_walks.specs.Walks as walks
use Rattle.board_reserves.specs.Supplies.{free_fault_at}
use Rattle.board_rules.specs.Facts.{Facts}
use Rattle.board_rules.specs.View.{facts_in}
use Rattle.board_rules.specs.declared.Board.{Board}
use Rattle.board_rules.specs.declared.Event.TheVariants.{Free}
use Rattle.board_rules.specs.declared.Next.{Next}
use Rattle.board_rules.specs.declared.Next.TheVariants.{Nobody, To}
use Rattle.board_rules.specs.declared.BoardAnswer.{BoardAnswer}
use Rattle.board_rules.specs.declared.BoardAnswer.TheVariants.{Granted, Waits, Freed, Left, Shows, Refused}
use Rattle.board_rules.specs.declared.Outcome.{Outcome}
use Rattle.board_rules.specs.Board.{left_of, is_stopped, wait_of, holds_global, held_global, held_local, freed, freed_global, freed_local, free_fault, answered, step}
use Rattle.board_keeps.specs.Fair.{InV, InN}
use Rattle.board_keeps.specs.Good.{good_sound}
use Rattle.board_keeps.proofs.Keeps.{step_keeps}
use Rattle.clock_rules.specs.Clock.{is_unfinished, free_of}
use Rattle.clock_rules.specs.Trace.{event_line, lines_at}
use Rattle.clock_times.specs.Times.{timing_in, lengths_cell}
use Rattle.clock_sets.specs.Sets.{in_set}
use Rattle.clock_marks.specs.Marks.{at_budget, at_spare, at_holding, at_held, at_done, board_of, run_in, done_in, done_cell, global_mark, held_by, Sized, Mirrors}
use Rattle.clock_marks.specs.Changes.{PutIn, PutReady, PutHeld}
use Rattle.clock_supplies.specs.SizedLaws.{sized_put_held, sized_put_in, sized_put_ready}
use Rattle.clock_steps.specs.Accepted.{is_refusal}
use Rattle.clock_paced.specs.Paced.{Paced}
use Rattle.clock_mirrors.specs.Tells.{mirrors_tell, put_is}
use Rattle.clock_mirrors.specs.Supplies.{PutSupply, PutSupplyOf, spared_alike}
use Rattle.clock_mirrors.specs.Writes.{done_kept, tells_holding, tells_ready, tells_held}
use Rattle.clock_mirrors.specs.Frees.{PutNext, free_mirrors, free_nobody_cells, free_to_cells, next_held, waiter_unfinished, next_waited}
use Rattle.clock_steps.specs.Running.{Running}
use Rattle.clock_lines.specs.Told.{told_at, told_to, RoomAt}
use Rattle.clock_going.specs.Going.{timing_by, Going, Made}
use Rattle.clock_uses.specs.Making.{no_fault, made_none, made_one, room_one}
use Rattle.clock_uses.specs.Using.{AfterUse, put_supply_of, use_done}
use Rattle.clock_hands.specs.Holding.{holds_in, holds_told}

-- WHO IS NEXT, by the answer to a `free`
abbrev pub next_in : BoardAnswer → Next
next_in Granted = Nobody
next_in Waits = Nobody
next_in (Freed w) = w
next_in (Left b o) = Nobody
next_in (Shows t v) = Nobody
next_in (Refused r) = Nobody

-- that is not refused
pub freed_answer : (F : Facts) (b : Board) (v n m : ℕ) → is_refusal (step F b (Free v n m)).answer ≡ false →
    (step F b (Free v n m)).answer ≡ Freed (next_in (step F b (Free v n m)).answer)
unfolding step freed freed_global freed_local
freed_answer F b v n m h = at_fault (free_fault F b v n m) h
  where
    at_global : (t : Bool) → (if t then freed_global F b m else freed_local F b v m).answer ≡ Freed (next_in (if t then freed_global F b m else freed_local F b v m).answer)
    at_global true = refl
    at_global false = refl

    at_fault : (x : Fault) → is_refusal (answered b x (freed F b v m)).answer ≡ false → (answered b x (freed F b v m)).answer ≡ Freed (next_in (answered b x (freed F b v m)).answer)
    at_fault (Ok tt) h = at_global (F.global m)
    at_fault (Err r) h = absurd (true≢false h)

-- its names are in range
abbrev pub NextIn : Next → Type 0
NextIn Nobody = Unit {0}
NextIn (To w y) = InV w × InN y

-- WHAT IS WRITTEN: t is the view of the plan, and ls, os, ss, hs are the budgets, the overruns, the marks and the holders when the mutex is freed

-- what task (w, y) holds
abbrev pub held_at : List ℕ → List ℕ → ℕ → ℕ → ℕ
held_at t hs w y = if walks.held_global t hs w y then global_mark else walks.held_local t hs w y

-- of the next one, who waited: that it holds m, that it is ready, whether its VCPU's tasks hold a global mutex
pub record Handed (m : ℕ) (global : Bool) (w y : ℕ) (k k' : List ℕ) : Type 0 where
  pub with_held_law : List ℕ
  pub with_ready_law : List ℕ
  pub held : PutHeld k with_held_law w y m
  pub ready : PutReady with_held_law with_ready_law w y true
  pub holding : PutIn with_ready_law k' at_holding w global

-- whoever is next
abbrev pub Passed : List ℕ → List ℕ → Next → List ℕ → List ℕ → Type 0
Passed t hs Nobody k k' = k' ≡ k
Passed t hs (To w y) k k' = Handed (held_at t hs w y) (walks.holds_global t hs w) w y k k'

-- of the task (v, n) that held it too: it holds none, whether its VCPU's tasks hold a global mutex, and the supply of its VCPU, which stays while budget is left
pub record PutFreed (o : OverrunChoice) (t ls os : List ℕ) (ss : List Bool) (hs : List ℕ) (v n : ℕ) (next : Next) (k k' : List ℕ) : Type 0 where
  pub with_held_law : List ℕ
  pub with_next : List ℕ
  pub with_holding_law : List ℕ
  pub held : PutHeld k with_held_law v n 0
  pub passed : Passed t hs next with_held_law with_next
  pub holding : PutIn with_next with_holding_law at_holding v (holds_in with_next v)
  pub supply : AfterUse o ls os ss with_holding_law k' v

-- what task (w, y) holds: a global mutex, else what a walk of the local ones finds
pub held_global_law : (t hs : List ℕ) (w y : ℕ) {a : Bool} → a ≡ walks.held_global t hs w y → a ≡ true → global_mark ≡ held_at t hs w y
held_global_law t hs w y e q = sym (ap (λ (s : Bool). if s then global_mark else walks.held_local t hs w y) (sym e ∙ q))

-- or a local one
pub held_local_law : (t hs : List ℕ) (w y : ℕ) {a : Bool} {m : ℕ} → a ≡ walks.held_global t hs w y → a ≡ false → m ≡ walks.held_local t hs w y → m ≡ held_at t hs w y
held_local_law t hs w y e q r = r ∙ sym (ap (λ (s : Bool). if s then global_mark else walks.held_local t hs w y) (sym e ∙ q))

-- WHERE THE FREED MUTEX IS GLOBAL the next one holds a global mutex
abbrev pub GotGlobal : List ℕ → List ℕ → Bool → Next → Type 0
GotGlobal t hs global Nobody = Unit {0}
GotGlobal t hs global (To w y) = global ≡ true → walks.held_global t hs w y ≡ true

-- so that its VCPU's tasks do
holds_some : (t hs : List ℕ) (w y : ℕ) → InN y → walks.held_global t hs w y ≡ true → walks.holds_global t hs w ≡ true
holds_some t hs w y j e =
    let r = any_at max_m (λ m. is_global t m && holds_it hs w y m) e in
    any_hit max_m r.at (λ m. walks.global_by t hs w m) r.within.from r.within.to
    (both (is_global t r.at) (any_to most_n (λ n. holds_it hs w n r.at)) (both_left (is_global t r.at) (holds_it hs w y r.at) r.is)
    (any_hit most_n y (λ n. holds_it hs w n r.at) j.from j.to (both_right (is_global t r.at) (holds_it hs w y r.at) r.is)))

-- and what is written of it is that
pub handed_global : (t hs : List ℕ) {w y : ℕ} {k k' : List ℕ} → InN y → walks.held_global t hs w y ≡ true → Handed 33 true w y k k' → Handed (held_at t hs w y) (walks.holds_global t hs w) w y k k'
handed_global t hs {w} {y} {k} {k'} j e h = subst₂ (λ m g. Handed m g w y k k') (held_global_law t hs w y (sym e) refl) (sym (holds_some t hs w y j e)) h

-- else it is walked for
pub handed_walked : (t hs : List ℕ) {w y : ℕ} {k k' : List ℕ} {m : ℕ} {g : Bool} → m ≡ held_at t hs w y → g ≡ walks.holds_global t hs w → Handed m g w y k k' →
    Handed (held_at t hs w y) (walks.holds_global t hs w) w y k k'
handed_walked t hs {w} {y} {k} {k'} e f h = subst₂ (λ m g. Handed m g w y k k') e f h

-- THE LIST STAYS SIZED
handed_sized : {m : ℕ} {global : Bool} {w y : ℕ} {k k' : List ℕ} → Sized k → InV w → InN y → Handed m global w y k k' → Sized k'
handed_sized z i j h = sized_put_in (sized_put_ready (sized_put_held z i j h.held) i h.ready) (omega arith) h.holding

-- whoever is next
pub passed_sized : (t hs : List ℕ) (next : Next) {k : List ℕ} (k' : List ℕ) → Sized k → NextIn next → Passed t hs next k k' → Sized k'
passed_sized t hs Nobody k' z q h = subst Sized (sym h) z
passed_sized t hs (To w y) k' z q h = handed_sized z q.0 q.1 h

-- THE TICKS DONE stay
handed_cell : {m : ℕ} {global : Bool} {w y : ℕ} {k k' : List ℕ} → InV w → InN y → Handed m global w y k k' → (u z : ℕ) → InV u → InN z → done_cell k' u z ≡ done_cell k u z
handed_cell {w = w} {y = y} i j h u z a c =
    h.holding.else_same (at_done + seat u z) (λ e. omega arith) ∙ h.ready.else_same (at_done + seat u z) (λ e. omega arith) (λ e. omega arith)
    ∙ h.held.else_same (at_done + seat u z) (λ e. omega arith) (λ e. omega arith)

-- whoever is next
passed_cell : (t hs : List ℕ) (next : Next) (k k' : List ℕ) → NextIn next → Passed t hs next k k' → (u z : ℕ) → InV u → InN z → done_cell k' u z ≡ done_cell k u z
passed_cell t hs Nobody k k' q h u z a c = ap (λ l. done_cell l u z) h
passed_cell t hs (To w y) k k' q h u z a c = handed_cell q.0 q.1 h u z a c

-- all of them
pub freed_done : {o : OverrunChoice} {t ls os : List ℕ} {ss : List Bool} {hs : List ℕ} {v n : ℕ} {next : Next} {k k' : List ℕ} → InV v → InN n → NextIn next →
    PutFreed o t ls os ss hs v n next k k' → done_in k' ≡ done_in k
freed_done {t = t} {hs = hs} {next = next} {k = k} {k' = k'} i j q h =
    use_done h.supply
    ∙ done_kept k h.with_holding_law
    (λ u z a c.
    h.holding.else_same (at_done + seat u z) (λ e. omega arith)
    ∙ passed_cell t hs next h.with_held_law h.with_next q h.passed u z a c ∙ h.held.else_same (at_done + seat u z) (λ e. omega arith) (λ e. omega arith))

-- THE SETS OF SUPPLIES stay while the mutex goes on
handed_sets : {m : ℕ} {global : Bool} {w y : ℕ} {k k' : List ℕ} → Handed m global w y k k' → (j : ℕ) → j ≤ at_spare → get_or k' j 0 ≡ get_or k j 0
handed_sets {w = w} {y = y} h j c =
    h.holding.else_same j (λ e. omega arith) ∙ h.ready.else_same j (λ e. omega arith) (λ e. omega arith) ∙ h.held.else_same j (λ e. omega arith) (λ e. omega arith)

-- whoever is next
passed_sets : (t hs : List ℕ) (next : Next) (k k' : List ℕ) → Passed t hs next k k' → (j : ℕ) → j ≤ at_spare → get_or k' j 0 ≡ get_or k j 0
passed_sets t hs Nobody k k' h j c = ap (λ l. get_or l j 0) h
passed_sets t hs (To w y) k k' h j c = handed_sets h j c

-- all of it
freed_sets : {o : OverrunChoice} {t ls os : List ℕ} {ss : List Bool} {hs : List ℕ} {v n : ℕ} {next : Next} {k k' : List ℕ} (h : PutFreed o t ls os ss hs v n next k k') →
    (j : ℕ) → j ≤ at_spare → get_or h.with_holding_law j 0 ≡ get_or k j 0
freed_sets {t = t} {hs = hs} {v = v} {n = n} {next = next} h j c =
    h.holding.else_same j (λ e. omega arith) ∙ passed_sets t hs next h.with_held_law h.with_next h.passed j c ∙ h.held.else_same j (λ e. omega arith) (λ e. omega arith)

-- where they say already what is to be said of v they need no writing
supply_said : {k : List ℕ} {v : ℕ} {has spare : Bool} → Sized k → in_set (get_or k at_budget 0) v ≡ has → in_set (get_or k at_spare 0) v ≡ spare → PutSupply k k v has spare
supply_said {k} {v} {has} {spare} z e f = record {
  length_same = refl;
  else_same = λ j a c. refl;
  budgets_set = z.sets at_budget (omega arith);
  budgets = λ w i. sym (put_is (in_set (get_or k at_budget 0)) (in_set (get_or k at_budget 0)) v has (sym e) (λ u a ne. refl) w i);
  spares_set = z.sets at_spare (omega arith);
  spared = λ w i. sym (put_is (in_set (get_or k at_spare 0)) (in_set (get_or k at_spare 0)) v spare (sym f) (λ u a ne. refl) w i);
}

-- THE LENGTHS of a task, by the times
pub lengths_in : (p : Policy) (o : OverrunChoice) (t x : List ℕ) (w y : ℕ) → InV w → InN y → (timing_by p o t x).lengths w y ≡ lengths_cell x w y
unfolding timing_in when
lengths_in p o t x w y i j = ap (λ (s : Bool). when s (lengths_cell x w y)) named
  where
    named : (is_v w && is_n y) ≡ true
    named = both (is_v w) (is_n y) (both (leb 1 w) (leb w max_v) (le-leb 1 w i.from) (le-leb w max_v i.to)) (both (leb 1 y) (leb y most_n) (le-leb 1 y j.from) (le-leb y most_n j.to))

-- A GLOBAL MUTEX, by the view
global_in : (p : Policy) (o : OverrunChoice) (t : List ℕ) (m : ℕ) → (facts_in p o t).global m ≡ is_global t m
unfolding facts_in
global_in p o t m = refl

-- who has its mark holds one
held_by_global : (p : Policy) (o : OverrunChoice) (t : List ℕ) (b : Board) (w y : ℕ) → held_by (facts_in p o t) b w y ≡ global_mark → walks.held_global t b.holder w y ≡ true
unfolding facts_in held_global held_local
held_by_global p o t b w y e =
    is_true (walks.held_global t b.holder w y)
    (λ z.
    let q : walks.held_local t b.holder w y ≡ global_mark = ap (λ (s : Bool). if s then global_mark else walks.held_local t b.holder w y) (sym z) ∙ e in
    let l = highest_le max_m (λ m. is_local t w m && holds_it b.holder w y m) in absurd (omega arith))

-- WHAT IS KEPT mirrors the board after it
module _ (p : Policy) (o : OverrunChoice) (t x : List ℕ) (pace : Paced (timing_by p o t x)) where
  -- the next one is in range, and its job is unfinished
  record Waiter (d : List ℕ) (w y : ℕ) : Type 0 where
    v_in : InV w
    n_in : InN y
    unfinished : is_unfinished (timing_by p o t x) d w y ≡ true

  -- whoever is next
  abbrev WaiterIn : List ℕ → Next → Type 0
  WaiterIn d Nobody = Unit {0}
  WaiterIn d (To w y) = Waiter d w y

  -- what is written of it
  next_put : (d k k' : List ℕ) (b : Board) (next : Next) → WaiterIn d next → Passed t b.holder next k k' → PutNext (timing_by p o t x) b d next k k'
  unfolding timing_in facts_in held_global held_local holds_global
  next_put d k k' b Nobody q h = h
  next_put d k k' b (To w y) q h = record {
    with_held_law = h.with_held_law;
    with_ready_law = h.with_ready_law;
    held = h.held;
    ready = subst (PutReady h.with_held_law h.with_ready_law w y) (sym q.unfinished) h.ready;
    holding = h.holding;
  }

  module _ {b : Board} {k : List ℕ} (m : Mirrors (timing_by p o t x) x b k) (r : Running (timing_by p o t x) b (done_in k)) (v n l : ℕ) (next : Next)
      (a : (step (facts_in p o t) b (Free v n l)).answer ≡ Freed next) where
    -- who is next waited
    next_waiter : WaiterIn (done_in k) next
    unfolding timing_in
    next_waiter = at next a
      where
        at : (y : Next) → (step (facts_in p o t) b (Free v n l)).answer ≡ Freed y → WaiterIn (done_in k) y
        at Nobody a = tt
        at (To w y) a =
            let q = next_waited pace.fair r.shaped r.is_good v n l w y a in
            record { v_in = q.0; n_in = q.1; unfinished = waiter_unfinished pace r w y q.0 q.1 q.2 }

    -- and is in range
    pub next_named : NextIn next
    next_named = at next next_waiter
      where
        at : (y : Next) → WaiterIn (done_in k) y → NextIn y
        at Nobody q = tt
        at (To w y) q = (q.v_in, q.n_in)

    -- the board after it, as its own VCPU's holders say whether they hold a global mutex
    module _ (i : InV v) (j : InN n) where
      next_holds : (k₁ k₂ : List ℕ) → PutHeld k k₁ v n 0 → PutNext (timing_by p o t x) (step (facts_in p o t) b (Free v n l)).board (done_in k) next k₁ k₂ →
          holds_in k₂ v ≡ holds_global (facts_in p o t) (step (facts_in p o t) b (Free v n l)).board v
      unfolding timing_in
      next_holds k₁ k₂ h q = at next a q
        where
          F : Facts
          F = facts_in p o t

          b' : Board
          b' = (step F b (Free v n l)).board

          at : (y : Next) → (step F b (Free v n l)).answer ≡ Freed y → PutNext (timing_by p o t x) b' (done_in k) y k₁ k₂ → holds_in k₂ v ≡ holds_global F b' v
          at Nobody a e =
              ap (λ (c : List ℕ). holds_in c v) e
              ∙ holds_told F b' v (tells_held (mirrors_tell m) i j h) i (λ z c. free_nobody_cells m pace.fair r.shaped r.is_good v n l a h v z i c)
          at (To w y) a u =
              let d = next_waited pace.fair r.shaped r.is_good v n l w y a in
              let c = d.0 in
              holds_told F b' v (tells_holding (tells_ready (tells_held (tells_held (mirrors_tell m) i j h) d.0 d.1 u.held) d.0 u.ready) u.holding) i
              (λ z e. u.holding.else_same (at_held + seat v z) (λ s. omega arith) ∙ u.ready.else_same (at_held + seat v z) (λ s. omega arith) (λ s. omega arith)
              ∙ free_to_cells m pace.fair r.shaped r.is_good v n l w y a h u.held v z i e)

      -- the supply of v is as it was while budget is left, for no mark stands then
      module _ (el : (step (facts_in p o t) b (Free v n l)).board.left ≡ b.left) (eo : (step (facts_in p o t) b (Free v n l)).board.over ≡ b.over) where
        mark_same : (left_of (step (facts_in p o t) b (Free v n l)).board v ≡ 0 → ⊥) → is_stopped (step (facts_in p o t) b (Free v n l)).board v ≡ is_stopped b v
        unfolding timing_in
        mark_same nz =
            let F = facts_in p o t in
            let b' = (step F b (Free v n l)).board in
            is_false (is_stopped b' v) (λ s. nz (((good_sound F b' (step_keeps pace.fair r.shaped r.is_good (Free v n l))).budgets v i).mark_left s))
            ∙ sym (is_false (is_stopped b v) (λ s. nz (ap (λ (y : List ℕ). get_or y (v - 1) 0) el ∙ ((good_sound F b r.is_good).budgets v i).mark_left s)))

        -- what is kept of it is right then
        supply_kept : {k' : List ℕ} (h : let b' = (step (facts_in p o t) b (Free v n l)).board in PutFreed o t b'.left b'.over b'.stopped b'.holder v n next k k') →
            (left_of (step (facts_in p o t) b (Free v n l)).board v ≡ 0 → ⊥) → PutSupplyOf (timing_by p o t x) (step (facts_in p o t) b (Free v n l)).board v h.with_holding_law h.with_holding_law
        unfolding timing_in
        supply_kept h nz =
            let b' = (step (facts_in p o t) b (Free v n l)).board in
            let z = sized_put_in (passed_sized t b'.holder next h.with_next (sized_put_held m.sized i j h.held) next_named h.passed) (omega arith) h.holding in
            supply_said z
            (ap (λ y. in_set y v) (freed_sets h at_budget (omega arith)) ∙ m.budget v i ∙ ap (λ (y : List ℕ). ltb 0 (get_or y (v - 1) 0)) (sym el))
            (ap (λ y. in_set y v) (freed_sets h at_spare (omega arith)) ∙ m.spare v i ∙ spared_alike (timing_by p o t x) b b' v (mark_same nz) (ap (λ (y : List ℕ). get_or y (v - 1) 0) eo))

        -- and either way
        supply_is : {k' : List ℕ} (h : let b' = (step (facts_in p o t) b (Free v n l)).board in PutFreed o t b'.left b'.over b'.stopped b'.holder v n next k k') →
            PutSupplyOf (timing_by p o t x) (step (facts_in p o t) b (Free v n l)).board v h.with_holding_law k'
        unfolding timing_in facts_in
        supply_is h =
            let b' = (step (facts_in p o t) b (Free v n l)).board in
            ⊎_elim
            (λ z. put_supply_of (h.supply.put z))
            (λ nz. subst (PutSupplyOf (timing_by p o t x) b' v h.with_holding_law) (sym (h.supply.kept nz)) (supply_kept h nz))
            (same_or_not (left_of b' v) 0)

        -- so it is mirrored
        freed_mirrors : {k' : List ℕ} → (let b' = (step (facts_in p o t) b (Free v n l)).board in PutFreed o t b'.left b'.over b'.stopped b'.holder v n next k k') →
            Mirrors (timing_by p o t x) x (step (facts_in p o t) b (Free v n l)).board k'
        unfolding timing_in facts_in
        freed_mirrors h =
            let q = next_put (done_in k) h.with_held_law h.with_next (step (facts_in p o t) b (Free v n l)).board next next_waiter h.passed in
            free_mirrors m pace.fair r.shaped r.is_good v n l next a h.held q
            (subst (PutIn h.with_next h.with_holding_law at_holding v) (next_holds h.with_held_law h.with_next h.held q) h.holding) (supply_is h)

      -- and b', which is that board, with the budgets and overruns of b
      pub freed_kept : (b' : Board) → b' ≡ (step (facts_in p o t) b (Free v n l)).board → b'.left ≡ b.left → b'.over ≡ b.over → {k' : List ℕ} →
          PutFreed o t b'.left b'.over b'.stopped b'.holder v n next k k' → Mirrors (timing_by p o t x) x b' k'
      freed_kept b' e el eo {k'} h =
          subst (λ c. Mirrors (timing_by p o t x) x c k') (sym e)
          (freed_mirrors (ap (λ (c : Board). c.left) (sym e) ∙ el) (ap (λ (c : Board). c.over) (sym e) ∙ eo)
          (subst (λ c. PutFreed o t c.left c.over c.stopped c.holder v n next k k') e h))

    -- where l is global the next one holds a global mutex
    pub next_global_law : GotGlobal t (step (facts_in p o t) b (Free v n l)).board.holder (is_global t l) next
    unfolding timing_in
    next_global_law = at next a
      where
        F : Facts
        F = facts_in p o t

        b' : Board
        b' = (step F b (Free v n l)).board

        at : (y : Next) → (step F b (Free v n l)).answer ≡ Freed y → GotGlobal t b'.holder (is_global t l) y
        at Nobody a = tt
        at (To w y) a = λ e. held_by_global p o t b' w y (next_held m pace.fair r.shaped r.is_good v n l w y a ∙ ap (λ (g : Bool). if g then global_mark else wait_of b w y) (global_in p o t l ∙ e))

-- `freeing` OF m, 0 FOR NOTHING TO FREE: no refusal
abbrev pub Frees : Facts → Board → ℕ → ℕ → ℕ → Type 0
Frees F b v n m = (m ≡ 0 → ⊥) → is_refusal (step F b (Free v n m)).answer ≡ false

module _ {p : Policy} {o : OverrunChoice} {t x ls os : List ℕ} {ss : List Bool} {hs ws k : List ℕ} (g : Going p o t x ls os ss hs ws k) (v n m : ℕ) (i : InV v) (j : InN n)
    (f : Frees (facts_in p o t) (board_of ls os ss hs ws) v n m) (on : Bool) (e : ℕ) (a : List ℕ) (at : ℕ) where
  -- no event where there is nothing to free
  none_free : m ≡ 0 → free_of v n m ≡ []
  none_free z = ap (λ (y : Bool). if y then [] else Free v n m ∷ []) (eq-eqb m 0 z)

  -- one where there is
  one_free : (m ≡ 0 → ⊥) → free_of v n m ≡ Free v n m ∷ []
  one_free nz = ap (λ (y : Bool). if y then [] else Free v n m ∷ []) (ne_eqb m 0 nz)

  -- it has no fault
  pub free_clear : (m ≡ 0 → ⊥) → free_fault_at t hs v n m ≡ Ok tt
  unfolding step free_fault facts_in
  free_clear nz = let b = board_of ls os ss hs ws in no_fault b (freed (facts_in p o t) b v m) (free_fault (facts_in p o t) b v n m) (f nz)

  -- nothing is freed
  pub free_none : m ≡ 0 → Mirrors (timing_by p o t x) x (board_of ls os ss hs ws) k
      × (Made (facts_in p o t) on e (run_in ls os ss hs ws k) (run_in ls os ss hs ws k) (free_of v n m) a at a at × (done_in k ≡ done_in k))
  free_none z = (
    g.mirrors,
    (subst (λ es. Made (facts_in p o t) on e (run_in ls os ss hs ws k) (run_in ls os ss hs ws k) es a at a at) (sym (none_free z)) (made_none (facts_in p o t) on e (run_in ls os ss hs ws k) (run_in ls os ss hs ws k) a at refl), refl),
  )

  -- m is freed, and y is the answer
  module _ (nz : m ≡ 0 → ⊥) {ss' : List Bool} {hs' ws' : List ℕ} {y : BoardAnswer}
      (q : record { answer = y; board = board_of ls os ss' hs' ws' } ≡ step (facts_in p o t) (board_of ls os ss hs ws) (Free v n m)) where
    -- the answer names who is next
    answer_is : (step (facts_in p o t) (board_of ls os ss hs ws) (Free v n m)).answer ≡ Freed (next_in y)
    answer_is =
        freed_answer (facts_in p o t) (board_of ls os ss hs ws) v n m (f nz)
        ∙ ap (λ (r : Outcome). Freed (next_in r.answer)) (sym q)

    -- who is in range
    pub free_named : NextIn (next_in y)
    unfolding timing_in
    free_named = next_named p o t x g.paced g.mirrors g.running v n m (next_in y) answer_is

    -- and holds a global mutex where m is one
    pub free_got : {global : Bool} → global ≡ is_global t m → {next : Next} → next ≡ next_in y → GotGlobal t hs' global next
    unfolding timing_in
    free_got c d =
        subst₂ (GotGlobal t hs') (sym c) (sym d)
        (subst (λ (h : List ℕ). GotGlobal t h (is_global t m) (next_in y)) (sym (ap (λ (r : Outcome). r.board.holder) q)) (next_global_law p o t x g.paced g.mirrors g.running v n m (next_in y) answer_is))

    -- there is room for its line
    pub free_room : RoomAt on (lines_at (facts_in p o t) e (board_of ls os ss hs ws) (free_of v n m)) a at → RoomAt on (event_line e (Free v n m) y) a at
    free_room h =
        room_one (facts_in p o t) on e (run_in ls os ss hs ws k) (run_in ls os ss' hs' ws' k) (Free v n m) q a at
        (subst (λ es. RoomAt on (lines_at (facts_in p o t) e (board_of ls os ss hs ws) es) a at) (one_free nz) h)

    -- all that holds then
    pub free_one : {next : Next} {k' : List ℕ} → next ≡ next_in y → PutFreed o t ls os ss' hs' v n next k k' → {c : List ℕ} {w : ℕ} →
        w ≡ told_to on (event_line e (Free v n m) y) at → c ≡ told_at on (event_line e (Free v n m) y) a at →
        Mirrors (timing_by p o t x) x (board_of ls os ss' hs' ws') k'
        × (Made (facts_in p o t) on e (run_in ls os ss hs ws k) (run_in ls os ss' hs' ws' k') (free_of v n m) a at c w × (done_in k' ≡ done_in k))
    unfolding timing_in
    free_one {next} {k'} d h' {c} {w} r z =
        let h = subst (λ u. PutFreed o t ls os ss' hs' v n u k k') d h' in (
          freed_kept p o t x g.paced g.mirrors g.running v n m (next_in y) answer_is i j (board_of ls os ss' hs' ws') (ap (λ (s : Outcome). s.board) q) refl refl h,
          (
            subst (λ es. Made (facts_in p o t) on e (run_in ls os ss hs ws k) (run_in ls os ss' hs' ws' k') es a at c w) (sym (one_free nz))
                (made_one (facts_in p o t) on e (run_in ls os ss hs ws k) (run_in ls os ss' hs' ws' k') (Free v n m) q refl z r),
            freed_done i j free_named h,
          ),
        )
