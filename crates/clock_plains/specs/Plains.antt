-- A core's turn that stays the same for some ticks: the same task uses each of them and nothing else happens to it, and the same VCPUs idle. What k such ticks
-- come to is one subtraction for each of these VCPUs and one addition to the ticks done.
use Rattle.std.specs.Prelude.{ℕ, ◌+◌, ◌-◌, ◌<◌, ◌≡◌, Bool, true, ◌||◌, List, eqb, length, set}
use Rattle.std.specs.Prelude.{if◌then◌else◌}
use Rattle.board_rules.specs.declared.Board.{Board}
use Rattle.board_rules.specs.Board.{seat, left_of, holds, next_of}
use Rattle.board_events.specs.Events.{answers}
use Rattle.board_keeps.specs.Fair.{InV, InN}
use Rattle.clock_rules.specs.Clock.{Timing, Run, done_of, picked, idles, turn}
use Rattle.clock_steps.specs.Hands.{any_hands_on}

-- the mutex for which (v, n) is to ask when it is picked with d ticks done, 0 for none
abbrev pub due_at : Timing → Board → ℕ → ℕ → ℕ → ℕ
due_at T b v n d = let m = T.begins v n d in if holds b v n m then 0 else m

-- (v, n) may use k ticks one after the other: it stays short of its budget's and of its job's end, and neither asks nor frees
pub record Goes (T : Timing) (b : Board) (d : List ℕ) (v n k : ℕ) : Type 0 where
  pub v_in : InV v
  pub n_in : InN n
  pub budget : k < left_of b v
  pub unfinished : done_of d v n + k < T.lengths v n
  pub no_ask_law : (j : ℕ) → j < k → due_at T b v n (done_of d v n + j) ≡ 0
  pub no_end : (j : ℕ) → j < k → T.ends v n (done_of d v n + j + 1) ≡ 0

-- core c's turn stays the same for k ticks, and (v, n) uses them; nobody does where v and n are 0
pub record Plain (T : Timing) (c : ℕ) (b : Board) (d : List ℕ) (v n k : ℕ) : Type 0 where
  pub who : picked T c b d ≡ next_of v n
  pub nobody : v ≡ 0 → n ≡ 0
  pub somebody : 0 < v → 0 < n
  pub goes : 0 < v → Goes T b d v n k
  pub idling : (w : ℕ) → InV w → idles T c b d w ≡ true → k < left_of b w

-- w loses a tick in that turn
abbrev pub loses : Timing → ℕ → Board → List ℕ → ℕ → ℕ → Bool
loses T c b d v w = eqb w v || idles T c b d w

-- what k such turns of core c come to
pub record Spent (T : Timing) (c : ℕ) (b : Board) (d : List ℕ) (v n k : ℕ) (b' : Board) (d' : List ℕ) : Type 0 where
  pub left_long : length b'.left ≡ length b.left
  pub left : (w : ℕ) → InV w → left_of b' w ≡ (if loses T c b d v w then left_of b w - k else left_of b w)
  pub over_same : b'.over ≡ b.over
  pub stopped_same : b'.stopped ≡ b.stopped
  pub holder_same : b'.holder ≡ b.holder
  pub waits_same : b'.waits ≡ b.waits
  pub done : d' ≡ (if eqb v 0 then d else set d (seat v n - 1) (done_of d v n + k))

-- in core c's turn a mutex is handed on
abbrev pub turn_hands_on : Timing → ℕ → Run → Bool
turn_hands_on T c r = any_hands_on (answers T.facts r.board (turn T c r))
