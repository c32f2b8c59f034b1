-- The states that the cores' turns lead to, with what is known of them.
use Rattle.std.specs.Prelude.{ℕ, ◌≤◌, ◌≡◌, Bool, List, length}
use Rattle.std.specs.Prelude.{if◌then◌else◌}
use Rattle.plan.specs.declared.Policy.{Policy}
use Rattle.plan.specs.declared.OverrunChoice.{OverrunChoice}
use Rattle.clock_rules.specs.Clock.{Timing, Run, after_turn, after_turns}
use Rattle.clock_marks.specs.Marks.{board_of, run_in, done_in}
use Rattle.clock_going.specs.Going.{timing_by, Going}
use Rattle.clock_reaches.specs.Stretches.{plain_length}
use Rattle.clock_spends.specs.Spends.{CountedAt, PickedAt, Counted}

-- core c's turn from the state r on, and the turns of some cores: none is made where it is only looked at them
abbrev pub turn_or : Bool → Timing → ℕ → Run → Run
turn_or look T c r = if look then r else after_turn T c r

abbrev pub turns_or : Bool → Timing → List ℕ → Run → Run
turns_or look T cs r = if look then r else after_turns T cs r

-- the lists say the state r', and what is known of it is right
pub record Strided (p : Policy) (o : OverrunChoice) (t x : List ℕ) (r' : Run) (ls os : List ℕ) (ss : List Bool) (hs ws k pl : List ℕ) : Type 0 where
  pub going : Going p o t x ls os ss hs ws k
  pub after : run_in ls os ss hs ws k ≡ r'
  pub counted : Counted (timing_by p o t x) (board_of ls os ss hs ws) (done_in k) pl

-- the same, but for core c, of which nothing need be known
pub record Others (p : Policy) (o : OverrunChoice) (t x : List ℕ) (c : ℕ) (r' : Run) (ls os : List ℕ) (ss : List Bool) (hs ws k pl : List ℕ) : Type 0 where
  pub going : Going p o t x ls os ss hs ws k
  pub after : run_in ls os ss hs ws k ≡ r'
  pub long : length pl ≡ plain_length
  pub core : (i : ℕ) → i ≤ 3 → (i ≡ c → ⊥) → CountedAt (timing_by p o t x) (board_of ls os ss hs ws) (done_in k) pl i
  pub pick : (i : ℕ) → i ≤ 3 → (i ≡ c → ⊥) → PickedAt (timing_by p o t x) (board_of ls os ss hs ws) (done_in k) pl i
