-- A plan whose listing ends in `all fits`, and whose run on a clock misses, computed from its bytes: `all fits` is what the equations give, and no promise about a run.
use Rattle.std.specs.Prelude.{ℕ, ◌≡◌, refl, List, [], ◌∷◌}
use Rattle.laws.specs.Choice.{when}
use Rattle.laws.specs.Sums.{up, sum, greatest, any, all, first, flat, only}
use Rattle.laws.specs.Range.{any_to, all_to, highest, flat_to, list_to}
use Rattle.laws.specs.Bytes.{pieces, joined, same}
use Rattle.laws.specs.Decimal.{digit_of, scan, starts, value, digits, decimal}
use Rattle.laws_picks.specs.Picks.{lowest, top_of}
use Rattle.search.specs.Search.{solve, recur}
use Rattle.plan.specs.declared.Policy.TheVariants.{Deferrable}
use Rattle.plan.specs.declared.OverrunChoice.TheVariants.{WithoutOverrun}
use Rattle.plan.specs.Refusals.{unless}
use Rattle.plan.specs.Plan.{Plan, Global, tasks_of}
use Rattle.plan.specs.Lookup.{has_vcpu, is_vcpu_of, has_guest, has_mutex, global, local_to, opened}
use Rattle.plan.specs.Line.{shape, has_shape, number_at, numbers, kind_in, item_of, written}
use Rattle.plan.specs.Rules.{phase, follows, vcpu_fits, rule, tests_of, learn}
use Rattle.plan.specs.Reading.{Reading, Accepts, reading, reading_by, fault, judge}
use Rattle.plan.specs.Gathered.{line_above, rest_of, plan_of, items_in}
use Rattle.figures.specs.System.{system}
use Rattle.figures.specs.Figures.{vcpu_at, longest_global, global_sum, global_count, ght, overrun_of, blocking_by, blocking, vcpu_start, vcpu_demand, load, preemption, response, wait_start, wait_demand, longest_local, local_blocking, lengths, task_demand}
use Rattle.figures.specs.Answers.{vcpu_answer, wait_answer, remote_waits, lacks_wait, is_held, task_answer, all_fit}
use Rattle.figures.specs.Named.{has_task, task_at}
use Rattle.listing.specs.Listing.{line, vcpu_line, wait_line, wait_lines, task_line, task_lines, rising, all_line, listing, verdict_text}
use Rattle.board_rules.specs.Facts.{facts_of, lists}
use Rattle.board_rules.specs.Board.{fresh, holds_global, is_busy, supply, settled, ask_fault, may_have, asked, free_fault, waiter_v, waiter_n, next_global, freed_global, freed, use_fault, used, top_fault, topped, held_global, held_local, task_priority, vcpu_priority, step}
use Rattle.board_events.specs.Events.{board_by}
use Rattle.clock_rules.specs.declared.RunAnswer.{RunAnswer}
use Rattle.clock_rules.specs.declared.RunAnswer.TheVariants.{Missed}
use Rattle.clock_rules.specs.Clock.{begins_in, ends_in, timing_of, at_first, tops, missed, released, pick_v, pick_n, picked, asks, idle_uses, turn, after_turn, after_turns, opened as opened_at, tick, run_from, run_of}
use Rattle.clock_worked.specs.Worked.{host, lock, task}

-- two VCPUs, each alone on its core with its whole period as budget, and one global mutex: as a record and in bytes
abbrev watched : Plan
watched =
    record {
      policy = Deferrable;
      overrun = WithoutOverrun;
      vcpus = host 1 1 0 1 1 ∷ host 2 1 1 1 1 ∷ [];
      mutexes = record { m = 1; owner = Global } ∷ [];
      opens = record { m = 1; guest = 1 } ∷ [];
      sections =
          record { guest = 1; tasks = task 1 1 27 0 (lock 1 1 0 ∷ []) ∷ task 1 2 92 0 (lock 1 6 0 ∷ lock 1 6 0 ∷ lock 1 6 0 ∷ []) ∷ task 2 1 11 0 (lock 1 4 0 ∷ []) ∷ [] } ∷ [];
    }

abbrev bytes : List ℕ
bytes =
    112 ∷ 108 ∷ 97 ∷ 110 ∷ 9 ∷ 49 ∷ 10
    ∷ 112 ∷ 111 ∷ 108 ∷ 105 ∷ 99 ∷ 121 ∷ 9 ∷ 68 ∷ 9 ∷ 78 ∷ 10
    ∷ 118 ∷ 99 ∷ 112 ∷ 117 ∷ 9 ∷ 49 ∷ 9 ∷ 49 ∷ 9 ∷ 48 ∷ 9 ∷ 49 ∷ 9 ∷ 49 ∷ 10
    ∷ 118 ∷ 99 ∷ 112 ∷ 117 ∷ 9 ∷ 50 ∷ 9 ∷ 49 ∷ 9 ∷ 49 ∷ 9 ∷ 49 ∷ 9 ∷ 49 ∷ 10
    ∷ 109 ∷ 117 ∷ 116 ∷ 101 ∷ 120 ∷ 9 ∷ 49 ∷ 9 ∷ 71 ∷ 10
    ∷ 111 ∷ 112 ∷ 101 ∷ 110 ∷ 9 ∷ 49 ∷ 9 ∷ 49 ∷ 10
    ∷ 103 ∷ 117 ∷ 101 ∷ 115 ∷ 116 ∷ 9 ∷ 49 ∷ 10
    ∷ 116 ∷ 97 ∷ 115 ∷ 107 ∷ 9 ∷ 49 ∷ 9 ∷ 49 ∷ 9 ∷ 50 ∷ 55 ∷ 10
    ∷ 114 ∷ 117 ∷ 110 ∷ 9 ∷ 48 ∷ 10
    ∷ 108 ∷ 111 ∷ 99 ∷ 107 ∷ 9 ∷ 49 ∷ 9 ∷ 49 ∷ 10
    ∷ 114 ∷ 117 ∷ 110 ∷ 9 ∷ 48 ∷ 10
    ∷ 116 ∷ 97 ∷ 115 ∷ 107 ∷ 9 ∷ 49 ∷ 9 ∷ 50 ∷ 9 ∷ 57 ∷ 50 ∷ 10
    ∷ 114 ∷ 117 ∷ 110 ∷ 9 ∷ 48 ∷ 10
    ∷ 108 ∷ 111 ∷ 99 ∷ 107 ∷ 9 ∷ 49 ∷ 9 ∷ 54 ∷ 10
    ∷ 114 ∷ 117 ∷ 110 ∷ 9 ∷ 48 ∷ 10
    ∷ 108 ∷ 111 ∷ 99 ∷ 107 ∷ 9 ∷ 49 ∷ 9 ∷ 54 ∷ 10
    ∷ 114 ∷ 117 ∷ 110 ∷ 9 ∷ 48 ∷ 10
    ∷ 108 ∷ 111 ∷ 99 ∷ 107 ∷ 9 ∷ 49 ∷ 9 ∷ 54 ∷ 10
    ∷ 114 ∷ 117 ∷ 110 ∷ 9 ∷ 48 ∷ 10
    ∷ 116 ∷ 97 ∷ 115 ∷ 107 ∷ 9 ∷ 50 ∷ 9 ∷ 49 ∷ 9 ∷ 49 ∷ 49 ∷ 10
    ∷ 114 ∷ 117 ∷ 110 ∷ 9 ∷ 48 ∷ 10
    ∷ 108 ∷ 111 ∷ 99 ∷ 107 ∷ 9 ∷ 49 ∷ 9 ∷ 52 ∷ 10
    ∷ 114 ∷ 117 ∷ 110 ∷ 9 ∷ 48 ∷ 10
    ∷ 101 ∷ 110 ∷ 100 ∷ 10
    ∷ []

pub record Table : Type 0 where
  -- what the bytes are read as
  pub read : Reading
  -- what `verdict` prints
  pub listed : List ℕ
  -- how its run up to horizon 28 ends
  pub ends : RunAnswer

pub fits_and_misses :
    ◌≡◌ {A = Table}
    (record {
      read = reading bytes;
      listed = verdict_text bytes;
      ends = run_of (timing_of (system watched)) 28;
    })
    (record {
      read = Accepts watched;
      listed =
          118 ∷ 101 ∷ 114 ∷ 100 ∷ 105 ∷ 99 ∷ 116 ∷ 9 ∷ 49 ∷ 10
          ∷ 118 ∷ 99 ∷ 112 ∷ 117 ∷ 9 ∷ 49 ∷ 9 ∷ 102 ∷ 105 ∷ 116 ∷ 115 ∷ 9 ∷ 49 ∷ 9 ∷ 49 ∷ 10
          ∷ 118 ∷ 99 ∷ 112 ∷ 117 ∷ 9 ∷ 50 ∷ 9 ∷ 102 ∷ 105 ∷ 116 ∷ 115 ∷ 9 ∷ 49 ∷ 9 ∷ 49 ∷ 10
          ∷ 119 ∷ 97 ∷ 105 ∷ 116 ∷ 9 ∷ 49 ∷ 9 ∷ 49 ∷ 9 ∷ 49 ∷ 9 ∷ 56 ∷ 9 ∷ 51 ∷ 10
          ∷ 116 ∷ 97 ∷ 115 ∷ 107 ∷ 9 ∷ 49 ∷ 9 ∷ 49 ∷ 9 ∷ 102 ∷ 105 ∷ 116 ∷ 115 ∷ 9 ∷ 50 ∷ 55 ∷ 9 ∷ 50 ∷ 10
          ∷ 119 ∷ 97 ∷ 105 ∷ 116 ∷ 9 ∷ 49 ∷ 9 ∷ 50 ∷ 9 ∷ 49 ∷ 9 ∷ 56 ∷ 9 ∷ 51 ∷ 10
          ∷ 119 ∷ 97 ∷ 105 ∷ 116 ∷ 9 ∷ 49 ∷ 9 ∷ 50 ∷ 9 ∷ 50 ∷ 9 ∷ 56 ∷ 9 ∷ 51 ∷ 10
          ∷ 119 ∷ 97 ∷ 105 ∷ 116 ∷ 9 ∷ 49 ∷ 9 ∷ 50 ∷ 9 ∷ 51 ∷ 9 ∷ 56 ∷ 9 ∷ 51 ∷ 10
          ∷ 116 ∷ 97 ∷ 115 ∷ 107 ∷ 9 ∷ 49 ∷ 9 ∷ 50 ∷ 9 ∷ 102 ∷ 105 ∷ 116 ∷ 115 ∷ 9 ∷ 52 ∷ 54 ∷ 9 ∷ 50 ∷ 10
          ∷ 119 ∷ 97 ∷ 105 ∷ 116 ∷ 9 ∷ 50 ∷ 9 ∷ 49 ∷ 9 ∷ 49 ∷ 9 ∷ 55 ∷ 9 ∷ 49 ∷ 10
          ∷ 116 ∷ 97 ∷ 115 ∷ 107 ∷ 9 ∷ 50 ∷ 9 ∷ 49 ∷ 9 ∷ 102 ∷ 105 ∷ 116 ∷ 115 ∷ 9 ∷ 49 ∷ 49 ∷ 9 ∷ 50 ∷ 10
          ∷ 97 ∷ 108 ∷ 108 ∷ 9 ∷ 102 ∷ 105 ∷ 116 ∷ 115 ∷ 10
          ∷ [];
      ends = Missed 27 1 1;
    })
unfolding when up sum greatest any all first flat only any_to all_to highest flat_to list_to pieces joined same digit_of scan starts value digits decimal lowest top_of solve recur unless tasks_of has_vcpu is_vcpu_of has_guest has_mutex global local_to opened shape has_shape number_at numbers kind_in item_of written phase follows vcpu_fits rule tests_of learn reading_by fault judge line_above rest_of plan_of items_in vcpu_at longest_global global_sum global_count ght overrun_of blocking_by blocking vcpu_start vcpu_demand load preemption response wait_start wait_demand longest_local local_blocking lengths task_demand vcpu_answer wait_answer remote_waits lacks_wait is_held task_answer all_fit has_task task_at line vcpu_line wait_line wait_lines task_line task_lines rising all_line listing verdict_text facts_of lists fresh holds_global is_busy supply settled ask_fault may_have asked free_fault waiter_v waiter_n next_global freed_global freed use_fault used top_fault topped held_global held_local task_priority vcpu_priority step board_by begins_in ends_in timing_of at_first tops missed released pick_v pick_n picked asks idle_uses turn after_turn after_turns opened_at tick run_from
fits_and_misses = refl
