-- Laws of the code that writes the view: the cells by their places.
use Rattle.std.specs.Prelude.{ℕ, ◌+◌, ◌-◌, ◌*◌, ◌/◌, ◌%◌, ◌<◌, ◌≤◌, ◌≡◌, refl, Bool, true, false, ◌&&◌, List, ltb, length, get_or, set, take}
use Rattle.std.proofs.Math.Path.{ap}
use Rattle.std.proofs.Common.{sym, ◌∙◌, arith, below_more, length-set, get_or-set_same, get_or-set_other, get_or-take}
use Rattle.std.proofs.Math.Dec.{eqb}
use Rattle.board_keeps.specs.Fair.{InV, InN}
use Rattle.laws.specs.BoolLaws.{both_left, both_right, both}
use Rattle.laws.specs.Choice.{when}
use Rattle.plan.specs.Limits.{max_v, max_m, most_n}
use Rattle.plan.specs.declared.Policy.{Policy}
use Rattle.plan.specs.declared.OverrunChoice.{OverrunChoice}
use Rattle.plan.specs.Plan.{Plan}
use Rattle.plan.specs.Valid.{Valid}
use Rattle.figures.specs.System.{System, system}
use Rattle.figures.specs.Figures.{vcpu_at, ght, overrun_by, overrun_of, ceiling}
use Rattle.figures.specs.Named.{has_task}
use Rattle.board_rules.specs.Facts.{lists, facts_of}
use Rattle.board_rules.specs.View.{at_overrun, at_owner, at_ceiling, at_task, at_lists, view_length, global_owner, is_v, is_n, is_m, facts_in}
use Rattle.board_rules.specs.Board.{seat}
use Rattle.board_viewcells.specs.ViewOf.{bit, owner_of, view_of}
use Rattle.board_viewcells.proofs.ViewLaws.{name_in, in_name, facts_in_law, budget_cell, overrun_cell, owner_cell_law, ceiling_cell, task_cell_law, sheet_cell}

-- the overrun of a VCPU, by its ght
pub overrun_is : {x g : ℕ} (s : System) (v : ℕ) → x ≡ overrun_by s.overrun g → g ≡ ght s v → x ≡ overrun_of s v
unfolding overrun_of
overrun_is s v e h = e ∙ ap (overrun_by s.overrun) h

-- THE CELLS BY THEIR PLACES
module _ (s : System) where
  -- the cell at j is the cell at k
  at_place_law : {x : ℕ} (j k : ℕ) → j ≡ k → get_or (view_of s) j 0 ≡ x → x ≡ get_or (view_of s) k 0
  at_place_law j k e h = rw e at (sym h)

  pub budget_place : (k : ℕ) → k < 16 → (vcpu_at s (k + 1)).budget ≡ get_or (view_of s) k 0
  budget_place k l = at_place_law (k + 1 - 1) k (omega arith) (budget_cell s (k + 1) (name_in (k + 1) max_v (omega arith)))

  pub overrun_place : (k : ℕ) → 16 ≤ k → k < 32 → overrun_of s (k - 15) ≡ get_or (view_of s) k 0
  overrun_place k h l = at_place_law (16 + (k - 15 - 1)) k (omega arith) (overrun_cell s (k - 15) (name_in (k - 15) max_v (omega arith)))

  pub owner_place : (k : ℕ) → 32 ≤ k → k < 64 → owner_of s (k - 31) ≡ get_or (view_of s) k 0
  owner_place k h l = at_place_law (32 + (k - 31 - 1)) k (omega arith) (owner_cell_law s (k - 31) (name_in (k - 31) max_m (omega arith)))

  pub ceiling_place : (k : ℕ) → 64 ≤ k → k < 96 → ceiling s (k - 63) ≡ get_or (view_of s) k 0
  ceiling_place k h l = at_place_law (64 + (k - 63 - 1)) k (omega arith) (ceiling_cell s (k - 63) (name_in (k - 63) max_m (omega arith)))

  pub task_place : (k : ℕ) → 96 ≤ k → k < 224 → bit (has_task s ((k - 96) / 8 + 1) ((k - 96) % 8 + 1)) ≡ get_or (view_of s) k 0
  task_place k h l =
      let v = (k - 96) / 8 + 1 in
      let n = (k - 96) % 8 + 1 in
      at_place_law (96 + (seat v n - 1)) k (omega arith)
      (task_cell_law s v n (both (is_v v) (is_n n) (name_in v max_v (omega arith)) (name_in n most_n (omega arith))))

  -- number j of the sheets
  pub sheet_place : (j : ℕ) → j < 4096 → bit (lists s (j / 256 + 1) (j / 32 % 8 + 1) (j % 32 + 1)) ≡ get_or (view_of s) (224 + j) 0
  sheet_place j l =
      let v = j / 256 + 1 in
      let n = j / 32 % 8 + 1 in
      let m = j % 32 + 1 in
      at_place_law (224 + ((seat v n - 1) * 32 + (m - 1))) (224 + j) (omega arith)
      (sheet_cell s v n m
      (both (is_v v && is_n n) (is_m m)
      (both (is_v v) (is_n n) (name_in v max_v (omega arith)) (name_in n most_n (omega arith))) (name_in m max_m (omega arith))))

-- the first i numbers are those of f
pub record Written (f : ℕ → ℕ) (n : ℕ) (view : List ℕ) (i k : ℕ) : Type 0 where
  pub same : i ≡ k
  pub within : k ≤ view_length
  pub room : length view ≡ n
  pub at : (j : ℕ) → j < k → get_or view j 0 ≡ f j

module _ {f : ℕ → ℕ} {n : ℕ} where
  pub written_none : {view : List ℕ} → length view ≡ n → Written f n view 0 0
  written_none e = record { same = refl; within = omega arith; room = e; at = λ j l. absurd (omega arith) }

  pub written_more :
      {view : List ℕ} {i k x : ℕ} → view_length ≤ n → Written f n view i k → k < view_length → x ≡ f k → Written f n (set view i x) (i + 1) (k + 1)
  written_more {view} {i} {k} {x} r h l e = record {
    same = omega (arith, h.same);
    within = omega arith;
    room = length-set view i x ∙ h.room;
    at =
        let z : k ≡ i = sym h.same in
        below_more _ _ (λ j m. rw (get_or-set_other view i j x 0 (λ q. omega arith)) (h.at j m))
        (rw z (get_or-set_same view i x 0 (omega (arith, h.room)) ∙ (rw z at e)));
  }

-- A LONGER VIEW

-- tests, and numbers, that are the same where c holds
on : (c : Bool) {t u : Bool} → (c ≡ true → t ≡ u) → (c && t) ≡ (c && u)
on true h = h refl
on false h = refl

number_on : (c : Bool) {x y : ℕ} → (c ≡ true → x ≡ y) → when c x ≡ when c y
unfolding when
number_on true h = h refl
number_on false h = refl

in_seat : (v n : ℕ) → (is_v v && is_n n) ≡ true → InV v × InN n
in_seat v n e = (in_name v max_v (both_left (is_v v) _ e), in_name n most_n (both_right (is_v v) _ e))

module _ (p : Policy) (o : OverrunChoice) (t : List ℕ) where
  -- the cell i of the first numbers
  kept : (i : ℕ) → i < view_length → get_or (take view_length t) i 0 ≡ get_or t i 0
  kept i l = get_or-take view_length t i 0 l

  -- what stands past the view's length says nothing
  pub facts_take : facts_in p o (take view_length t) ≡ facts_in p o t
  unfolding facts_in
  facts_take = λ i. record {
    policy = p;
    choice = o;
    has_vcpu = λ v. on (is_v v) (λ e. ap (ltb 0) (kept (v - 1) (let h = in_name v max_v e in omega arith))) i;
    budget = λ v. number_on (is_v v) (λ e. kept (v - 1) (let h = in_name v max_v e in omega arith)) i;
    overrun = λ v. number_on (is_v v) (λ e. kept (at_overrun + (v - 1)) (let h = in_name v max_v e in omega arith)) i;
    has_task = λ v n. on (is_v v && is_n n) (λ e. ap (ltb 0) (kept (at_task + (seat v n - 1)) (let h = in_seat v n e in omega arith))) i;
    lists = λ v n m. on ((is_v v && is_n n) && is_m m) (λ e.
        ap (ltb 0) (kept (at_lists + ((seat v n - 1) * max_m + (m - 1))) (let h = in_seat v n (both_left (is_v v && is_n n) _ e) in let g = in_name m max_m (both_right (is_v v && is_n n) _ e) in omega arith))) i;
    has_mutex = λ m. on (is_m m) (λ e. ap (ltb 0) (kept (at_owner + (m - 1)) (let h = in_name m max_m e in omega arith))) i;
    global = λ m. on (is_m m) (λ e. ap (λ x. eqb x global_owner) (kept (at_owner + (m - 1)) (let h = in_name m max_m e in omega arith))) i;
    local_to = λ v m. on (is_v v && is_m m) (λ e. ap (λ x. eqb x v) (kept (at_owner + (m - 1)) (let h = in_name m max_m (both_right (is_v v) _ e) in omega arith))) i;
    ceiling = λ m. number_on (is_m m) (λ e. kept (at_ceiling + (m - 1)) (let h = in_name m max_m e in omega arith)) i;
  }

-- a slice that begins with the view of a valid plan says the plan's facts
pub filled_facts : (p : Plan) (t : List ℕ) → Valid p → take view_length t ≡ view_of (system p) → facts_in p.policy p.overrun t ≡ facts_of (system p)
filled_facts p t h e = sym (facts_take p.policy p.overrun t) ∙ ap (facts_in p.policy p.overrun) e ∙ facts_in_law p h
