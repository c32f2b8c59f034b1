-- The ledger of a run: what a VCPU has used since its last `top` is what its budget and overrun lack.
use Rattle.std.specs.Prelude.{ℕ, ◌+◌, ◌-◌, ◌≤◌, ◌≡◌, true}
use Rattle.std.proofs.Common.{sym, subst, arith}
use Rattle.board_rules.specs.declared.Board.{Board}
use Rattle.board_rules.specs.Board.{left_of, over_of}
use Rattle.board_keeps.specs.Fair.{Fair}
use Rattle.board_keeps.specs.Ledger.{ledger}
use Rattle.board_keeps.proofs.LedgerLaws.{ledger_balance}
use Rattle.clock_rules.specs.Clock.{Timing, trace_of, trace_answers}
use Rattle.clock_runs.specs.Runs.{state_at, Unmissed, state_board}

-- the ticks accepted for v since its last `top`, in the trace of k ticks
abbrev pub used_since_top : Timing → ℕ → ℕ → ℕ
used_since_top T k v = ledger v 0 (trace_of T k) (trace_answers T k)

module _ (T : Timing) (f : Fair T.facts) (v : ℕ) (e : T.facts.has_vcpu v ≡ true) (k : ℕ) (q : Unmissed T k) where
  -- at every state of a run they and what is left make up budget and overrun
  pub run_balance : used_since_top T k v + left_of (state_at T k).board v + over_of (state_at T k).board v ≡ T.facts.budget v + T.facts.overrun v
  run_balance =
      subst (λ (b : Board). used_since_top T k v + left_of b v + over_of b v ≡ T.facts.budget v + T.facts.overrun v) (sym (state_board T k q))
      (ledger_balance f v e (trace_of T k))

  -- so they are what is lacking
  pub run_used : used_since_top T k v ≡ T.facts.budget v + T.facts.overrun v - left_of (state_at T k).board v - over_of (state_at T k).board v
  run_used = let b = run_balance in omega arith

  -- and never more than budget and overrun
  pub run_used_le : used_since_top T k v ≤ T.facts.budget v + T.facts.overrun v
  run_used_le = let b = run_balance in omega arith
