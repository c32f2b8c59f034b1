-- What the functions here say of what they do: t is the view of the plan and x its times, ls, os, ss, hs, ws the board's arrays, k what is kept beside them,
-- and o a buffer that is written to behind its first `at` bytes; hs', ws', k' and o' are these lists afterwards.
use Rattle.std.specs.Prelude.{ℕ, ◌<◌, ◌≤◌, ◌≡◌, List, Bool, true, false, Ok}
use Rattle.plan.specs.declared.Policy.{Policy}
use Rattle.plan.specs.declared.OverrunChoice.{OverrunChoice}
use Rattle.board_seats.specs.Seats.{is_global}
use Rattle.board_rules.specs.View.{facts_in}
use Rattle.board_rules.specs.declared.Board.{Board}
use Rattle.board_rules.specs.declared.Event.TheVariants.{Ask}
use Rattle.board_rules.specs.declared.Next.TheVariants.{To}
use Rattle.board_rules.specs.Board.{next_of, ask_fault, may_have, step}
use Rattle.board_rules.specs.Settle.{Marked}
use Rattle.board_keeps.specs.Fair.{InV, InN}
use Rattle.board_keeps.specs.Shaped.{Shaped}
use Rattle.clock_rules.specs.Clock.{Timing, picked, due_of, is_wait, asks_at}
use Rattle.clock_rules.specs.Trace.{event_line}
use Rattle.clock_marks.specs.Marks.{board_of, run_in, done_in, at_holding, global_mark, Sized}
use Rattle.clock_marks.specs.Changes.{PutIn, PutReady, PutHeld}
use Rattle.clock_steps.specs.Picked.{Chosen}
use Rattle.clock_lines.specs.Told.{told_at, told_to}
use Rattle.clock_going.specs.Going.{timing_by, Going, Made}
use Rattle.clock_takes.specs.AskCases.{due_to}
use Rattle.clock_passes.specs.Passing.{may_by}

-- A PICK: core c picks (v, n), nobody where v is 0, and (v, n) is to ask for m, for nothing where m is 0
pub record PickIs (T : Timing) (c : ℕ) (b : Board) (d : List ℕ) (v n m : ℕ) : Type 0 where
  pub is_pick : picked T c b d ≡ next_of v n
  pub is_due_law : m ≡ due_to T b d (next_of v n)
  pub v_to : v ≤ 16
  pub n_to : n ≤ 8
  pub nobody : v ≡ 0 → n ≡ 0
  pub somebody : 0 < v → 0 < n

-- (v, n), where v is not 0, is whom core q picks
abbrev pub KnownPick : Timing → ℕ → Board → List ℕ → ℕ → ℕ → Type 0
KnownPick T q b d v n = 0 < v → picked T q b d ≡ To v n

-- a task that some core picks, and that is to ask for m
pub record Asker (T : Timing) (b : Board) (d : List ℕ) (v n m : ℕ) : Type 0 where
  pub core : ℕ
  pub is_picked : picked T core b d ≡ To v n
  pub chosen : Chosen T core b d v n
  pub is_due_law : due_of T b d v n ≡ m
  pub some : m ≡ 0 → ⊥

-- WHAT IS KEPT of (v, n) from now on, where it has got m, which is global or not
pub data Took (k k' : List ℕ) (v n m : ℕ) : Bool → Type 0 where
  took_global : {k₁ : List ℕ} → PutHeld k k₁ v n global_mark → PutIn k₁ k' at_holding v true → Took k k' v n m true
  took_local : PutHeld k k' v n m → Took k k' v n m false

-- and where it has asked for m, and waits or not
pub data Kept (k k' : List ℕ) (v n m : ℕ) (g : Bool) : Bool → Type 0 where
  kept_waits : PutReady k k' v n false → Kept k k' v n m g true
  kept_took : Took k k' v n m g → Kept k k' v n m g false

-- A TASK ASKS for m on a board that has its places and its marks: the ask has no fault, and what is kept says whether it may have m
pub record MayAsk (p : Policy) (c : OverrunChoice) (t ls os : List ℕ) (ss : List Bool) (hs ws k : List ℕ) (v n m : ℕ) : Type 0 where
  pub shaped : Shaped (board_of ls os ss hs ws)
  pub marked : Marked (facts_in p c t) (board_of ls os ss hs ws)
  pub sized : Sized k
  pub v_in : InV v
  pub n_in : InN n
  pub no_fault : ask_fault (facts_in p c t) (board_of ls os ss hs ws) v n m ≡ Ok tt
  pub may : may_by t hs k v n m ≡ may_have (facts_in p c t) (board_of ls os ss hs ws) v n m

-- the ask is made, told at tick i, and kept
pub record AskKept (p : Policy) (c : OverrunChoice) (t ls os : List ℕ) (ss : List Bool) (on : Bool) (i v n m : ℕ) (hs ws k o : List ℕ) (at : ℕ) (hs' ws' k' o' : List ℕ) (waits : Bool) (at' : ℕ) : Type 0 where
  pub board : board_of ls os ss hs' ws' ≡ (step (facts_in p c t) (board_of ls os ss hs ws) (Ask v n m)).board
  pub is_wait_law : waits ≡ is_wait (step (facts_in p c t) (board_of ls os ss hs ws) (Ask v n m)).answer
  pub kept : Kept k k' v n m (is_global t m) waits
  pub text : o' ≡ told_at on (event_line i (Ask v n m) (step (facts_in p c t) (board_of ls os ss hs ws) (Ask v n m)).answer) o at
  pub size : at' ≡ told_to on (event_line i (Ask v n m) (step (facts_in p c t) (board_of ls os ss hs ws) (Ask v n m)).answer) at

-- AN ASK that is made and told at tick i
pub record AskMade (p : Policy) (c : OverrunChoice) (t x ls os : List ℕ) (ss : List Bool) (on : Bool) (i v n m : ℕ) (hs ws k o : List ℕ) (at : ℕ) (hs' ws' k' o' : List ℕ) (waits : Bool) (at' : ℕ) : Type 0 where
  pub going : Going p c t x ls os ss hs' ws' k'
  pub done_same : done_in k' ≡ done_in k
  pub board : board_of ls os ss hs' ws' ≡ (step (facts_in p c t) (board_of ls os ss hs ws) (Ask v n m)).board
  pub is_wait_law : waits ≡ is_wait (step (facts_in p c t) (board_of ls os ss hs ws) (Ask v n m)).answer
  pub text : o' ≡ told_at on (event_line i (Ask v n m) (step (facts_in p c t) (board_of ls os ss hs ws) (Ask v n m)).answer) o at
  pub size : at' ≡ told_to on (event_line i (Ask v n m) (step (facts_in p c t) (board_of ls os ss hs ws) (Ask v n m)).answer) at

-- THE ASKS of core q's turn are made and told at tick i, and then (v, n) uses the tick, nobody where v is 0
pub record Asked (p : Policy) (c : OverrunChoice) (t x ls os : List ℕ) (ss : List Bool) (on : Bool) (q i : ℕ) (hs ws k o : List ℕ) (at : ℕ) (hs' ws' k' o' : List ℕ) (v n at' : ℕ) : Type 0 where
  pub going : Going p c t x ls os ss hs' ws' k'
  pub done_same : done_in k' ≡ done_in k
  pub made : Made (facts_in p c t) on i (run_in ls os ss hs ws k) (run_in ls os ss hs' ws' k') (asks_at (timing_by p c t x) q (run_in ls os ss hs ws k)).events o at o' at'
  pub pick : next_of v n ≡ (asks_at (timing_by p c t x) q (run_in ls os ss hs ws k)).pick
  pub v_to : v ≤ 16
  pub n_to : n ≤ 8
  pub nobody : v ≡ 0 → n ≡ 0
  pub somebody : 0 < v → 0 < n
