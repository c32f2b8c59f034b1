-- Two plans run on a clock, computed from the definitions: one table, one equation. By hand they stand in docs/CLOCK-BY-HAND.md.
-- Each run stands in it twice: as events with their ticks and answers, and as the bytes that `clock` prints.
use Rattle.std.specs.Prelude.{ℕ, ◌≡◌, refl, List, [], ◌∷◌}
use Rattle.laws.specs.Choice.{when}
use Rattle.laws.specs.Sums.{sum, greatest, any, first, flat}
use Rattle.laws.specs.Range.{any_to, all_to, highest, flat_to, list_to}
use Rattle.laws.specs.Bytes.{pieces, joined, same}
use Rattle.laws.specs.Decimal.{digit_of, scan, starts, value, digits, decimal}
use Rattle.laws_picks.specs.Picks.{lowest, top_of}
use Rattle.plan.specs.declared.Policy.TheVariants.{Periodic, Deferrable}
use Rattle.plan.specs.declared.OverrunChoice.TheVariants.{WithOverrun}
use Rattle.plan.specs.declared.Lock.{Lock}
use Rattle.plan.specs.Refusals.{unless}
use Rattle.plan.specs.Plan.{Vcpu, Task, Plan, Global, tasks_of}
use Rattle.plan.specs.Lookup.{has_vcpu, is_vcpu_of, has_guest, has_mutex, global, local_to, opened}
use Rattle.plan.specs.Line.{shape, has_shape, number_at, numbers, kind_in, item_of, written}
use Rattle.plan.specs.Rules.{phase, follows, vcpu_fits, rule, tests_of, learn}
use Rattle.plan.specs.Reading.{Reading, Accepts, reading, reading_by, fault, judge}
use Rattle.plan.specs.Gathered.{line_above, rest_of, plan_of, items_in}
use Rattle.figures.specs.System.{system}
use Rattle.figures.specs.Figures.{vcpu_at, longest_global, ght, overrun_of, lengths}
use Rattle.figures.specs.Named.{has_task, task_at}
use Rattle.listing.specs.Listing.{line}
use Rattle.board_rules.specs.declared.Event.{Event}
use Rattle.board_rules.specs.declared.Event.TheVariants.{Ask, Free, Use, Top}
use Rattle.board_rules.specs.declared.Next.TheVariants.{Nobody, To}
use Rattle.board_rules.specs.declared.BoardAnswer.{BoardAnswer}
use Rattle.board_rules.specs.declared.BoardAnswer.TheVariants.{Granted, Waits, Freed, Left}
use Rattle.board_rules.specs.Facts.{facts_of, lists}
use Rattle.board_rules.specs.Board.{fresh, holds_global, is_busy, supply, must_stop, settled, ask_fault, may_have, asked, free_fault, waiter_v, waiter_n, next_global, freed_global, freed, use_fault, used, top_fault, topped, held_global, held_local, task_priority, vcpu_priority, step}
use Rattle.board_events.specs.Events.{answers_by, board_by}
use Rattle.clock_rules.specs.declared.RunAnswer.{RunAnswer}
use Rattle.clock_rules.specs.declared.RunAnswer.TheVariants.{Ended, Missed}
use Rattle.clock_rules.specs.Clock.{Timing, begins_in, ends_in, timing_of, at_first, tops, missed, released, pick_v, pick_n, picked, asks, idle_uses, turn, after_turn, turns, after_turns, opened as opened_at, tick, run_from, run_of, events_at, trace_from, trace_of, trace_answers}
use Rattle.clock_rules.specs.Trace.{lines_at, tick_text, text_from, horizon_from, clock_text}
use Rattle.clock_runs.specs.Runs.{state_at}
use Rattle.clock_runs.specs.Texts.{over_ticks}
use Rattle.clock_runs.specs.Lines.{Told, besides, trace_ticks}

-- the rows of plans
abbrev pub host : ℕ → ℕ → ℕ → ℕ → ℕ → Vcpu
host v g c b p = record { v = v; guest = g; core = c; budget = b; period = p }

abbrev pub lock : ℕ → ℕ → ℕ → Lock
lock m t a = record { m = m; ticks = t; after = a }

abbrev pub task : ℕ → ℕ → ℕ → ℕ → List Lock → Task
task v n p f ls = record { v = v; n = n; period = p; first = f; locks = ls }

-- the plan that document 01 works through, as a record and in bytes
abbrev worked : Plan
worked =
    record {
      policy = Deferrable;
      overrun = WithOverrun;
      vcpus = host 1 1 0 3 20 ∷ host 2 2 0 2 10 ∷ [];
      mutexes = record { m = 1; owner = Global } ∷ [];
      opens = record { m = 1; guest = 1 } ∷ record { m = 1; guest = 2 } ∷ [];
      sections =
          record { guest = 1; tasks = task 1 1 100 2 (lock 1 1 2 ∷ []) ∷ [] }
          ∷ record { guest = 2; tasks = task 2 1 50 1 (lock 1 2 1 ∷ []) ∷ [] }
          ∷ [];
    }

abbrev worked_bytes : List ℕ
worked_bytes =
    112 ∷ 108 ∷ 97 ∷ 110 ∷ 9 ∷ 49 ∷ 10
    ∷ 112 ∷ 111 ∷ 108 ∷ 105 ∷ 99 ∷ 121 ∷ 9 ∷ 68 ∷ 9 ∷ 79 ∷ 10
    ∷ 118 ∷ 99 ∷ 112 ∷ 117 ∷ 9 ∷ 49 ∷ 9 ∷ 49 ∷ 9 ∷ 48 ∷ 9 ∷ 51 ∷ 9 ∷ 50 ∷ 48 ∷ 10
    ∷ 118 ∷ 99 ∷ 112 ∷ 117 ∷ 9 ∷ 50 ∷ 9 ∷ 50 ∷ 9 ∷ 48 ∷ 9 ∷ 50 ∷ 9 ∷ 49 ∷ 48 ∷ 10
    ∷ 109 ∷ 117 ∷ 116 ∷ 101 ∷ 120 ∷ 9 ∷ 49 ∷ 9 ∷ 71 ∷ 10
    ∷ 111 ∷ 112 ∷ 101 ∷ 110 ∷ 9 ∷ 49 ∷ 9 ∷ 49 ∷ 10
    ∷ 111 ∷ 112 ∷ 101 ∷ 110 ∷ 9 ∷ 49 ∷ 9 ∷ 50 ∷ 10
    ∷ 103 ∷ 117 ∷ 101 ∷ 115 ∷ 116 ∷ 9 ∷ 49 ∷ 10
    ∷ 116 ∷ 97 ∷ 115 ∷ 107 ∷ 9 ∷ 49 ∷ 9 ∷ 49 ∷ 9 ∷ 49 ∷ 48 ∷ 48 ∷ 10
    ∷ 114 ∷ 117 ∷ 110 ∷ 9 ∷ 50 ∷ 10
    ∷ 108 ∷ 111 ∷ 99 ∷ 107 ∷ 9 ∷ 49 ∷ 9 ∷ 49 ∷ 10
    ∷ 114 ∷ 117 ∷ 110 ∷ 9 ∷ 50 ∷ 10
    ∷ 103 ∷ 117 ∷ 101 ∷ 115 ∷ 116 ∷ 9 ∷ 50 ∷ 10
    ∷ 116 ∷ 97 ∷ 115 ∷ 107 ∷ 9 ∷ 50 ∷ 9 ∷ 49 ∷ 9 ∷ 53 ∷ 48 ∷ 10
    ∷ 114 ∷ 117 ∷ 110 ∷ 9 ∷ 49 ∷ 10
    ∷ 108 ∷ 111 ∷ 99 ∷ 107 ∷ 9 ∷ 49 ∷ 9 ∷ 50 ∷ 10
    ∷ 114 ∷ 117 ∷ 110 ∷ 9 ∷ 49 ∷ 10
    ∷ 101 ∷ 110 ∷ 100 ∷ 10
    ∷ []

-- a plan with a wait, a hand-on, idle losses and a miss (examples/clock-by-hand.tsv)
abbrev by_hand : Plan
by_hand =
    record {
      policy = Periodic;
      overrun = WithOverrun;
      vcpus = host 1 1 0 2 2 ∷ host 2 1 1 3 3 ∷ host 3 1 1 2 3 ∷ [];
      mutexes = record { m = 1; owner = Global } ∷ [];
      opens = record { m = 1; guest = 1 } ∷ [];
      sections = record { guest = 1; tasks = task 1 1 4 0 (lock 1 2 0 ∷ []) ∷ task 2 1 3 3 [] ∷ task 3 1 3 0 (lock 1 1 1 ∷ []) ∷ [] } ∷ [];
    }

abbrev by_hand_bytes : List ℕ
by_hand_bytes =
    112 ∷ 108 ∷ 97 ∷ 110 ∷ 9 ∷ 49 ∷ 10
    ∷ 112 ∷ 111 ∷ 108 ∷ 105 ∷ 99 ∷ 121 ∷ 9 ∷ 80 ∷ 9 ∷ 79 ∷ 10
    ∷ 118 ∷ 99 ∷ 112 ∷ 117 ∷ 9 ∷ 49 ∷ 9 ∷ 49 ∷ 9 ∷ 48 ∷ 9 ∷ 50 ∷ 9 ∷ 50 ∷ 10
    ∷ 118 ∷ 99 ∷ 112 ∷ 117 ∷ 9 ∷ 50 ∷ 9 ∷ 49 ∷ 9 ∷ 49 ∷ 9 ∷ 51 ∷ 9 ∷ 51 ∷ 10
    ∷ 118 ∷ 99 ∷ 112 ∷ 117 ∷ 9 ∷ 51 ∷ 9 ∷ 49 ∷ 9 ∷ 49 ∷ 9 ∷ 50 ∷ 9 ∷ 51 ∷ 10
    ∷ 109 ∷ 117 ∷ 116 ∷ 101 ∷ 120 ∷ 9 ∷ 49 ∷ 9 ∷ 71 ∷ 10
    ∷ 111 ∷ 112 ∷ 101 ∷ 110 ∷ 9 ∷ 49 ∷ 9 ∷ 49 ∷ 10
    ∷ 103 ∷ 117 ∷ 101 ∷ 115 ∷ 116 ∷ 9 ∷ 49 ∷ 10
    ∷ 116 ∷ 97 ∷ 115 ∷ 107 ∷ 9 ∷ 49 ∷ 9 ∷ 49 ∷ 9 ∷ 52 ∷ 10
    ∷ 114 ∷ 117 ∷ 110 ∷ 9 ∷ 48 ∷ 10
    ∷ 108 ∷ 111 ∷ 99 ∷ 107 ∷ 9 ∷ 49 ∷ 9 ∷ 50 ∷ 10
    ∷ 114 ∷ 117 ∷ 110 ∷ 9 ∷ 48 ∷ 10
    ∷ 116 ∷ 97 ∷ 115 ∷ 107 ∷ 9 ∷ 50 ∷ 9 ∷ 49 ∷ 9 ∷ 51 ∷ 10
    ∷ 114 ∷ 117 ∷ 110 ∷ 9 ∷ 51 ∷ 10
    ∷ 116 ∷ 97 ∷ 115 ∷ 107 ∷ 9 ∷ 51 ∷ 9 ∷ 49 ∷ 9 ∷ 51 ∷ 10
    ∷ 114 ∷ 117 ∷ 110 ∷ 9 ∷ 48 ∷ 10
    ∷ 108 ∷ 111 ∷ 99 ∷ 107 ∷ 9 ∷ 49 ∷ 9 ∷ 49 ∷ 10
    ∷ 114 ∷ 117 ∷ 110 ∷ 9 ∷ 49 ∷ 10
    ∷ 101 ∷ 110 ∷ 100 ∷ 10
    ∷ []

-- horizon 25
abbrev horizon25 : List ℕ
horizon25 = 104 ∷ 111 ∷ 114 ∷ 105 ∷ 122 ∷ 111 ∷ 110 ∷ 9 ∷ 50 ∷ 53 ∷ 10 ∷ []

-- horizon 10
abbrev horizon10 : List ℕ
horizon10 = 104 ∷ 111 ∷ 114 ∷ 105 ∷ 122 ∷ 111 ∷ 110 ∷ 9 ∷ 49 ∷ 48 ∷ 10 ∷ []

-- one run
pub record Row : Type 0 where
  -- what the bytes are read as
  pub read : Reading
  -- the run's events, each with its tick and its answer
  pub told : List Told
  -- how it ends
  pub ends : RunAnswer
  -- what `clock` prints
  pub printed : List ℕ

-- its events up to a horizon
abbrev told_of : Timing → ℕ → List Told
told_of T h = besides (trace_ticks T h) (trace_of T h) (trace_answers T h)

abbrev at : ℕ → Event → BoardAnswer → Told
at t e a = record { tick = t; event = e; answer = a }

-- one table
pub record Table : Type 0 where
  pub worked : Row
  pub by_hand_law : Row

pub runs_worked :
    ◌≡◌ {A = Table}
    (record {
      worked = record {
        read = reading worked_bytes;
        told = told_of (timing_of (system worked)) 25;
        ends = run_of (timing_of (system worked)) 25;
        printed = clock_text worked_bytes horizon25;
      };
      by_hand_law = record {
        read = reading by_hand_bytes;
        told = told_of (timing_of (system by_hand)) 10;
        ends = run_of (timing_of (system by_hand)) 10;
        printed = clock_text by_hand_bytes horizon10;
      };
    })
    (record {
      worked = record {
        read = Accepts worked;
        told =
            at 0 (Top 1) (Left 3 1)
            ∷ at 0 (Top 2) (Left 2 2)
            ∷ at 0 (Use 2 1) (Left 1 2)
            ∷ at 1 (Ask 2 1 1) Granted
            ∷ at 1 (Use 2 1) (Left 0 2)
            ∷ at 2 (Use 2 1) (Left 0 1)
            ∷ at 2 (Free 2 1 1) (Freed Nobody)
            ∷ at 3 (Use 1 1) (Left 2 1)
            ∷ at 4 (Use 1 1) (Left 1 1)
            ∷ at 5 (Ask 1 1 1) Granted
            ∷ at 5 (Use 1 1) (Left 0 1)
            ∷ at 5 (Free 1 1 1) (Freed Nobody)
            ∷ at 10 (Top 2) (Left 2 2)
            ∷ at 10 (Use 2 1) (Left 1 2)
            ∷ at 20 (Top 1) (Left 3 1)
            ∷ at 20 (Top 2) (Left 2 2)
            ∷ at 20 (Use 1 1) (Left 2 1)
            ∷ at 21 (Use 1 1) (Left 1 1)
            ∷ [];
        ends = Ended;
        printed =
            48 ∷ 9 ∷ 116 ∷ 111 ∷ 112 ∷ 9 ∷ 49 ∷ 9 ∷ 108 ∷ 101 ∷ 102 ∷ 116 ∷ 9 ∷ 51 ∷ 9 ∷ 49 ∷ 10
            ∷ 48 ∷ 9 ∷ 116 ∷ 111 ∷ 112 ∷ 9 ∷ 50 ∷ 9 ∷ 108 ∷ 101 ∷ 102 ∷ 116 ∷ 9 ∷ 50 ∷ 9 ∷ 50 ∷ 10
            ∷ 48 ∷ 9 ∷ 117 ∷ 115 ∷ 101 ∷ 9 ∷ 50 ∷ 9 ∷ 49 ∷ 9 ∷ 108 ∷ 101 ∷ 102 ∷ 116 ∷ 9 ∷ 49 ∷ 9 ∷ 50 ∷ 10
            ∷ 49 ∷ 9 ∷ 97 ∷ 115 ∷ 107 ∷ 9 ∷ 50 ∷ 9 ∷ 49 ∷ 9 ∷ 49 ∷ 9 ∷ 103 ∷ 114 ∷ 97 ∷ 110 ∷ 116 ∷ 101 ∷ 100 ∷ 10
            ∷ 49 ∷ 9 ∷ 117 ∷ 115 ∷ 101 ∷ 9 ∷ 50 ∷ 9 ∷ 49 ∷ 9 ∷ 108 ∷ 101 ∷ 102 ∷ 116 ∷ 9 ∷ 48 ∷ 9 ∷ 50 ∷ 10
            ∷ 50 ∷ 9 ∷ 117 ∷ 115 ∷ 101 ∷ 9 ∷ 50 ∷ 9 ∷ 49 ∷ 9 ∷ 108 ∷ 101 ∷ 102 ∷ 116 ∷ 9 ∷ 48 ∷ 9 ∷ 49 ∷ 10
            ∷ 50 ∷ 9 ∷ 102 ∷ 114 ∷ 101 ∷ 101 ∷ 9 ∷ 50 ∷ 9 ∷ 49 ∷ 9 ∷ 49 ∷ 9 ∷ 102 ∷ 114 ∷ 101 ∷ 101 ∷ 100 ∷ 9 ∷ 45 ∷ 9 ∷ 45 ∷ 10
            ∷ 51 ∷ 9 ∷ 117 ∷ 115 ∷ 101 ∷ 9 ∷ 49 ∷ 9 ∷ 49 ∷ 9 ∷ 108 ∷ 101 ∷ 102 ∷ 116 ∷ 9 ∷ 50 ∷ 9 ∷ 49 ∷ 10
            ∷ 52 ∷ 9 ∷ 117 ∷ 115 ∷ 101 ∷ 9 ∷ 49 ∷ 9 ∷ 49 ∷ 9 ∷ 108 ∷ 101 ∷ 102 ∷ 116 ∷ 9 ∷ 49 ∷ 9 ∷ 49 ∷ 10
            ∷ 53 ∷ 9 ∷ 97 ∷ 115 ∷ 107 ∷ 9 ∷ 49 ∷ 9 ∷ 49 ∷ 9 ∷ 49 ∷ 9 ∷ 103 ∷ 114 ∷ 97 ∷ 110 ∷ 116 ∷ 101 ∷ 100 ∷ 10
            ∷ 53 ∷ 9 ∷ 117 ∷ 115 ∷ 101 ∷ 9 ∷ 49 ∷ 9 ∷ 49 ∷ 9 ∷ 108 ∷ 101 ∷ 102 ∷ 116 ∷ 9 ∷ 48 ∷ 9 ∷ 49 ∷ 10
            ∷ 53 ∷ 9 ∷ 102 ∷ 114 ∷ 101 ∷ 101 ∷ 9 ∷ 49 ∷ 9 ∷ 49 ∷ 9 ∷ 49 ∷ 9 ∷ 102 ∷ 114 ∷ 101 ∷ 101 ∷ 100 ∷ 9 ∷ 45 ∷ 9 ∷ 45 ∷ 10
            ∷ 49 ∷ 48 ∷ 9 ∷ 116 ∷ 111 ∷ 112 ∷ 9 ∷ 50 ∷ 9 ∷ 108 ∷ 101 ∷ 102 ∷ 116 ∷ 9 ∷ 50 ∷ 9 ∷ 50 ∷ 10
            ∷ 49 ∷ 48 ∷ 9 ∷ 117 ∷ 115 ∷ 101 ∷ 9 ∷ 50 ∷ 9 ∷ 49 ∷ 9 ∷ 108 ∷ 101 ∷ 102 ∷ 116 ∷ 9 ∷ 49 ∷ 9 ∷ 50 ∷ 10
            ∷ 50 ∷ 48 ∷ 9 ∷ 116 ∷ 111 ∷ 112 ∷ 9 ∷ 49 ∷ 9 ∷ 108 ∷ 101 ∷ 102 ∷ 116 ∷ 9 ∷ 51 ∷ 9 ∷ 49 ∷ 10
            ∷ 50 ∷ 48 ∷ 9 ∷ 116 ∷ 111 ∷ 112 ∷ 9 ∷ 50 ∷ 9 ∷ 108 ∷ 101 ∷ 102 ∷ 116 ∷ 9 ∷ 50 ∷ 9 ∷ 50 ∷ 10
            ∷ 50 ∷ 48 ∷ 9 ∷ 117 ∷ 115 ∷ 101 ∷ 9 ∷ 49 ∷ 9 ∷ 49 ∷ 9 ∷ 108 ∷ 101 ∷ 102 ∷ 116 ∷ 9 ∷ 50 ∷ 9 ∷ 49 ∷ 10
            ∷ 50 ∷ 49 ∷ 9 ∷ 117 ∷ 115 ∷ 101 ∷ 9 ∷ 49 ∷ 9 ∷ 49 ∷ 9 ∷ 108 ∷ 101 ∷ 102 ∷ 116 ∷ 9 ∷ 49 ∷ 9 ∷ 49 ∷ 10
            ∷ 101 ∷ 110 ∷ 100 ∷ 9 ∷ 50 ∷ 53 ∷ 10
            ∷ [];
      };
      by_hand_law = record {
        read = Accepts by_hand;
        told =
            at 0 (Top 1) (Left 2 2)
            ∷ at 0 (Top 2) (Left 3 0)
            ∷ at 0 (Top 3) (Left 2 1)
            ∷ at 0 (Ask 1 1 1) Granted
            ∷ at 0 (Use 1 1) (Left 1 2)
            ∷ at 0 (Ask 3 1 1) Waits
            ∷ at 0 (Use 3 1) (Left 1 1)
            ∷ at 0 (Use 2 1) (Left 2 0)
            ∷ at 1 (Use 1 1) (Left 0 2)
            ∷ at 1 (Free 1 1 1) (Freed (To 3 1))
            ∷ at 1 (Use 3 1) (Left 0 1)
            ∷ at 1 (Free 3 1 1) (Freed Nobody)
            ∷ at 2 (Top 1) (Left 2 2)
            ∷ at 2 (Use 1 1) (Left 1 2)
            ∷ at 2 (Use 2 1) (Left 1 0)
            ∷ at 3 (Top 2) (Left 3 0)
            ∷ at 3 (Top 3) (Left 2 1)
            ∷ [];
        ends = Missed 3 2 1;
        printed =
            48 ∷ 9 ∷ 116 ∷ 111 ∷ 112 ∷ 9 ∷ 49 ∷ 9 ∷ 108 ∷ 101 ∷ 102 ∷ 116 ∷ 9 ∷ 50 ∷ 9 ∷ 50 ∷ 10
            ∷ 48 ∷ 9 ∷ 116 ∷ 111 ∷ 112 ∷ 9 ∷ 50 ∷ 9 ∷ 108 ∷ 101 ∷ 102 ∷ 116 ∷ 9 ∷ 51 ∷ 9 ∷ 48 ∷ 10
            ∷ 48 ∷ 9 ∷ 116 ∷ 111 ∷ 112 ∷ 9 ∷ 51 ∷ 9 ∷ 108 ∷ 101 ∷ 102 ∷ 116 ∷ 9 ∷ 50 ∷ 9 ∷ 49 ∷ 10
            ∷ 48 ∷ 9 ∷ 97 ∷ 115 ∷ 107 ∷ 9 ∷ 49 ∷ 9 ∷ 49 ∷ 9 ∷ 49 ∷ 9 ∷ 103 ∷ 114 ∷ 97 ∷ 110 ∷ 116 ∷ 101 ∷ 100 ∷ 10
            ∷ 48 ∷ 9 ∷ 117 ∷ 115 ∷ 101 ∷ 9 ∷ 49 ∷ 9 ∷ 49 ∷ 9 ∷ 108 ∷ 101 ∷ 102 ∷ 116 ∷ 9 ∷ 49 ∷ 9 ∷ 50 ∷ 10
            ∷ 48 ∷ 9 ∷ 97 ∷ 115 ∷ 107 ∷ 9 ∷ 51 ∷ 9 ∷ 49 ∷ 9 ∷ 49 ∷ 9 ∷ 119 ∷ 97 ∷ 105 ∷ 116 ∷ 115 ∷ 10
            ∷ 48 ∷ 9 ∷ 117 ∷ 115 ∷ 101 ∷ 9 ∷ 51 ∷ 9 ∷ 49 ∷ 9 ∷ 108 ∷ 101 ∷ 102 ∷ 116 ∷ 9 ∷ 49 ∷ 9 ∷ 49 ∷ 10
            ∷ 48 ∷ 9 ∷ 117 ∷ 115 ∷ 101 ∷ 9 ∷ 50 ∷ 9 ∷ 49 ∷ 9 ∷ 108 ∷ 101 ∷ 102 ∷ 116 ∷ 9 ∷ 50 ∷ 9 ∷ 48 ∷ 10
            ∷ 49 ∷ 9 ∷ 117 ∷ 115 ∷ 101 ∷ 9 ∷ 49 ∷ 9 ∷ 49 ∷ 9 ∷ 108 ∷ 101 ∷ 102 ∷ 116 ∷ 9 ∷ 48 ∷ 9 ∷ 50 ∷ 10
            ∷ 49 ∷ 9 ∷ 102 ∷ 114 ∷ 101 ∷ 101 ∷ 9 ∷ 49 ∷ 9 ∷ 49 ∷ 9 ∷ 49 ∷ 9 ∷ 102 ∷ 114 ∷ 101 ∷ 101 ∷ 100 ∷ 9 ∷ 51 ∷ 9 ∷ 49 ∷ 10
            ∷ 49 ∷ 9 ∷ 117 ∷ 115 ∷ 101 ∷ 9 ∷ 51 ∷ 9 ∷ 49 ∷ 9 ∷ 108 ∷ 101 ∷ 102 ∷ 116 ∷ 9 ∷ 48 ∷ 9 ∷ 49 ∷ 10
            ∷ 49 ∷ 9 ∷ 102 ∷ 114 ∷ 101 ∷ 101 ∷ 9 ∷ 51 ∷ 9 ∷ 49 ∷ 9 ∷ 49 ∷ 9 ∷ 102 ∷ 114 ∷ 101 ∷ 101 ∷ 100 ∷ 9 ∷ 45 ∷ 9 ∷ 45 ∷ 10
            ∷ 50 ∷ 9 ∷ 116 ∷ 111 ∷ 112 ∷ 9 ∷ 49 ∷ 9 ∷ 108 ∷ 101 ∷ 102 ∷ 116 ∷ 9 ∷ 50 ∷ 9 ∷ 50 ∷ 10
            ∷ 50 ∷ 9 ∷ 117 ∷ 115 ∷ 101 ∷ 9 ∷ 49 ∷ 9 ∷ 49 ∷ 9 ∷ 108 ∷ 101 ∷ 102 ∷ 116 ∷ 9 ∷ 49 ∷ 9 ∷ 50 ∷ 10
            ∷ 50 ∷ 9 ∷ 117 ∷ 115 ∷ 101 ∷ 9 ∷ 50 ∷ 9 ∷ 49 ∷ 9 ∷ 108 ∷ 101 ∷ 102 ∷ 116 ∷ 9 ∷ 49 ∷ 9 ∷ 48 ∷ 10
            ∷ 51 ∷ 9 ∷ 116 ∷ 111 ∷ 112 ∷ 9 ∷ 50 ∷ 9 ∷ 108 ∷ 101 ∷ 102 ∷ 116 ∷ 9 ∷ 51 ∷ 9 ∷ 48 ∷ 10
            ∷ 51 ∷ 9 ∷ 116 ∷ 111 ∷ 112 ∷ 9 ∷ 51 ∷ 9 ∷ 108 ∷ 101 ∷ 102 ∷ 116 ∷ 9 ∷ 50 ∷ 9 ∷ 49 ∷ 10
            ∷ 109 ∷ 105 ∷ 115 ∷ 115 ∷ 101 ∷ 100 ∷ 9 ∷ 51 ∷ 9 ∷ 50 ∷ 9 ∷ 49 ∷ 10
            ∷ [];
      };
    })
unfolding when sum greatest any first flat any_to all_to highest flat_to list_to pieces joined same digit_of scan starts value digits decimal lowest top_of unless tasks_of has_vcpu is_vcpu_of has_guest has_mutex global local_to opened shape has_shape number_at numbers kind_in item_of written phase follows vcpu_fits rule tests_of learn reading_by fault judge line_above rest_of plan_of items_in vcpu_at longest_global ght overrun_of lengths has_task task_at line facts_of lists fresh holds_global is_busy supply must_stop settled ask_fault may_have asked free_fault waiter_v waiter_n next_global freed_global freed use_fault used top_fault topped held_global held_local task_priority vcpu_priority step answers_by board_by begins_in ends_in timing_of at_first tops missed released pick_v pick_n picked asks idle_uses turn after_turn turns after_turns opened_at tick run_from events_at trace_from lines_at tick_text text_from horizon_from clock_text state_at over_ticks besides
runs_worked = refl
