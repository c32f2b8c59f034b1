-- What a step of the run leaves: view and x are the plan's, ls, os, ss, hs, ws the board's arrays, k what is kept beside them, and y when each recurs next.
use Rattle.std.specs.Prelude.{ℕ, ◌+◌, ◌-◌, ◌<◌, ◌≤◌, ◌≡◌, List, Bool, true, false, ◌⊎◌, get_or}
use Rattle.plan.specs.declared.Policy.{Policy}
use Rattle.plan.specs.declared.OverrunChoice.{OverrunChoice}
use Rattle.board_rules.specs.declared.Next.TheVariants.{Nobody}
use Rattle.board_rules.specs.Board.{next_of}
use Rattle.clock_rules.specs.Clock.{Run, missed, cores, after_turns, opened, tick, run_from}
use Rattle.clock_marks.specs.Marks.{board_of, run_in, done_in}
use Rattle.clock_nexts.specs.Nexts.{Nexts, at_tops, at_jobs, sooner}
use Rattle.clock_going.specs.Going.{timing_by, Going}
use Rattle.clock_spends.specs.Spends.{Counted}

-- of one or the other the list y says when each recurs next
abbrev pub Coming : List ℕ → List ℕ → ℕ → Type 0
Coming x y t = Nexts x y t ⊎ Nexts x y (t + 1)

-- the sooner of the bounds of y
abbrev pub soonest : List ℕ → ℕ
soonest y = sooner (get_or y at_tops 0) (get_or y at_jobs 0)

-- A STEP OF THE RUN at tick t, from the state r and the list y: the tick is opened, and no job is missed
pub record Opened (p : Policy) (o : OverrunChoice) (view x : List ℕ) (t : ℕ) (r : Run) (ls os : List ℕ) (ss : List Bool) (hs ws k y' pl : List ℕ) (to : ℕ) (turns : Bool) : Type 0 where
  pub none_missed : missed (timing_by p o view x) t r.done ≡ Nobody
  pub going : Going p o view x ls os ss hs ws k
  pub after : run_in ls os ss hs ws k ≡ opened (timing_by p o view x) t r
  pub nexts : Nexts x y' (t + 1)
  pub counted : Counted (timing_by p o view x) (board_of ls os ss hs ws) (done_in k) pl
  pub there : to ≡ t
  pub turned : turns ≡ true

-- some core's turn is not known, and nothing is done
pub record Still (p : Policy) (o : OverrunChoice) (view x : List ℕ) (t : ℕ) (r : Run) (y : List ℕ) (ls os : List ℕ) (ss : List Bool) (hs ws k y' pl : List ℕ) (to : ℕ) : Type 0 where
  pub going : Going p o view x ls os ss hs ws k
  pub after : run_in ls os ss hs ws k ≡ r
  pub nexts : y' ≡ y
  pub counted : Counted (timing_by p o view x) (board_of ls os ss hs ws) (done_in k) pl
  pub there : to ≡ t + 1

-- the ticks from t to before `to` are spent
pub record Strode (p : Policy) (o : OverrunChoice) (view x : List ℕ) (h t : ℕ) (r : Run) (y : List ℕ) (ls os : List ℕ) (ss : List Bool) (hs ws k y' pl : List ℕ) (to : ℕ) : Type 0 where
  pub going : Going p o view x ls os ss hs ws k
  pub nexts : y' ≡ y
  pub counted : Counted (timing_by p o view x) (board_of ls os ss hs ws) (done_in k) pl
  pub more : t < to
  pub within : to ≤ h
  pub near : to ≤ soonest y
  pub ahead : run_from (timing_by p o view x) (h - to) to (run_in ls os ss hs ws k) ≡ run_from (timing_by p o view x) (h - (t + 1)) (t + 1) (after_turns (timing_by p o view x) cores r)

-- (v, n) is the task whose job is missed, 0 and 0 for none; `look` says whether the tick was opened, `turns` whether the cores' turns are still to be made, or looked at
pub record Stepping (p : Policy) (o : OverrunChoice) (view x : List ℕ) (h t : ℕ) (r : Run) (y : List ℕ) (ls os : List ℕ) (ss : List Bool) (hs ws k y' pl : List ℕ) (v n to : ℕ) (turns look : Bool) : Type 0 where
  pub due : look ≡ true → soonest y ≤ t
  pub not_due : look ≡ false → t < soonest y
  pub missed_first : (n ≡ 0 → ⊥) → (look ≡ true) × (missed (timing_by p o view x) t r.done ≡ next_of v n)
  pub opens : n ≡ 0 → look ≡ true → Opened p o view x t r ls os ss hs ws k y' pl to turns
  pub still : n ≡ 0 → look ≡ false → turns ≡ true → Still p o view x t r y ls os ss hs ws k y' pl to
  pub strode : n ≡ 0 → turns ≡ false → Strode p o view x h t r y ls os ss hs ws k y' pl to
