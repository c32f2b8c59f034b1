-- A plan that missed and was said to fit while a ceiling equal to the task did not count, computed from its bytes: examples/ceiling.tsv. What is printed now, what was printed, and how its run ends.
use Rattle.std.specs.Prelude.{ℕ, ◌≡◌, refl, List, [], ◌∷◌}
use Rattle.laws.specs.Choice.{when}
use Rattle.laws.specs.Sums.{up, sum, greatest, any, all, first, flat, only}
use Rattle.laws.specs.Range.{any_to, all_to, highest, flat_to, list_to}
use Rattle.laws.specs.Bytes.{pieces, joined, same}
use Rattle.laws.specs.Decimal.{digit_of, scan, starts, value, digits, decimal}
use Rattle.laws_picks.specs.Picks.{lowest, top_of}
use Rattle.search.specs.Search.{solve, recur}
use Rattle.plan.specs.declared.Policy.TheVariants.{Periodic}
use Rattle.plan.specs.declared.OverrunChoice.TheVariants.{WithOverrun}
use Rattle.plan.specs.Refusals.{unless}
use Rattle.plan.specs.Plan.{Plan, Local, tasks_of}
use Rattle.plan.specs.Lookup.{has_vcpu, is_vcpu_of, has_guest, has_mutex, global, local_to, opened}
use Rattle.plan.specs.Line.{shape, has_shape, number_at, numbers, kind_in, item_of, written}
use Rattle.plan.specs.Rules.{phase, follows, vcpu_fits, rule, tests_of, learn}
use Rattle.plan.specs.Reading.{Reading, Accepts, reading, reading_by, fault, judge}
use Rattle.plan.specs.Gathered.{line_above, rest_of, plan_of, items_in}
use Rattle.figures.specs.System.{system}
use Rattle.figures.specs.Figures.{vcpu_at, longest_global, global_sum, global_count, ght, overrun_of, blocking_by, blocking, vcpu_start, vcpu_demand, load, preemption, response, wait_start, wait_demand, ceiling, longest_local, local_blocking, lengths, task_demand}
use Rattle.figures.specs.Answers.{vcpu_answer, wait_answer, remote_waits, lacks_wait, is_held, task_answer, all_fit}
use Rattle.figures.specs.Named.{has_task, task_at}
use Rattle.listing.specs.Listing.{line, vcpu_line, wait_line, wait_lines, task_line, task_lines, rising, all_line, listing, verdict_text}
use Rattle.listing_before.specs.Former.{longest_local_by, local_blocking_by, task_demand_by, task_answer_by, former_answer, former_fit, frame, former_task_line, former_all_line, former_listing}
use Rattle.board_rules.specs.Facts.{facts_of, lists}
use Rattle.board_rules.specs.Board.{fresh, holds_global, local_waiter, is_busy, supply, must_stop, settled, passes, ask_fault, may_have, asked, free_fault, waiter_v, waiter_n, next_global, freed_global, local_n, next_local, freed_local, freed, use_fault, used, top_fault, topped, held_global, held_local, raised_by, task_priority, vcpu_priority, step}
use Rattle.board_events.specs.Events.{board_by}
use Rattle.clock_rules.specs.declared.RunAnswer.{RunAnswer}
use Rattle.clock_rules.specs.declared.RunAnswer.TheVariants.{Missed}
use Rattle.clock_rules.specs.Clock.{begins_in, ends_in, timing_of, at_first, tops, missed, released, pick_v, pick_n, picked, asks, idle_uses, turn, after_turn, after_turns, opened as opened_at, tick, run_from, run_of}
use Rattle.clock_worked.specs.Worked.{host, lock, task}

-- one VCPU with every tick of its core, and two tasks that lock its one local mutex: as a record and in bytes
abbrev equal : Plan
equal =
    record {
      policy = Periodic;
      overrun = WithOverrun;
      vcpus = host 1 1 1 1 1 ∷ [];
      mutexes = record { m = 3; owner = Local 1 } ∷ [];
      opens = [];
      sections = record { guest = 1; tasks = task 1 1 60 0 (lock 3 3 3 ∷ []) ∷ task 1 2 6 1 (lock 3 3 1 ∷ []) ∷ [] } ∷ [];
    }

abbrev bytes : List ℕ
bytes =
    112 ∷ 108 ∷ 97 ∷ 110 ∷ 9 ∷ 49 ∷ 10
    ∷ 112 ∷ 111 ∷ 108 ∷ 105 ∷ 99 ∷ 121 ∷ 9 ∷ 80 ∷ 9 ∷ 79 ∷ 10
    ∷ 118 ∷ 99 ∷ 112 ∷ 117 ∷ 9 ∷ 49 ∷ 9 ∷ 49 ∷ 9 ∷ 49 ∷ 9 ∷ 49 ∷ 9 ∷ 49 ∷ 10
    ∷ 109 ∷ 117 ∷ 116 ∷ 101 ∷ 120 ∷ 9 ∷ 51 ∷ 9 ∷ 76 ∷ 9 ∷ 49 ∷ 10
    ∷ 103 ∷ 117 ∷ 101 ∷ 115 ∷ 116 ∷ 9 ∷ 49 ∷ 10
    ∷ 116 ∷ 97 ∷ 115 ∷ 107 ∷ 9 ∷ 49 ∷ 9 ∷ 49 ∷ 9 ∷ 54 ∷ 48 ∷ 10
    ∷ 114 ∷ 117 ∷ 110 ∷ 9 ∷ 48 ∷ 10
    ∷ 108 ∷ 111 ∷ 99 ∷ 107 ∷ 9 ∷ 51 ∷ 9 ∷ 51 ∷ 10
    ∷ 114 ∷ 117 ∷ 110 ∷ 9 ∷ 51 ∷ 10
    ∷ 116 ∷ 97 ∷ 115 ∷ 107 ∷ 9 ∷ 49 ∷ 9 ∷ 50 ∷ 9 ∷ 54 ∷ 10
    ∷ 114 ∷ 117 ∷ 110 ∷ 9 ∷ 49 ∷ 10
    ∷ 108 ∷ 111 ∷ 99 ∷ 107 ∷ 9 ∷ 51 ∷ 9 ∷ 51 ∷ 10
    ∷ 114 ∷ 117 ∷ 110 ∷ 9 ∷ 49 ∷ 10
    ∷ 101 ∷ 110 ∷ 100 ∷ 10
    ∷ []

pub record Table : Type 0 where
  -- what the bytes are read as
  pub read : Reading
  -- what `verdict` prints: (1, 2) is late
  pub listed : List ℕ
  -- what it printed: all fitted
  pub listed_before : List ℕ
  -- how its run up to horizon 13 ends
  pub ends : RunAnswer

pub fitted_and_misses :
    ◌≡◌ {A = Table}
    (record {
      read = reading bytes;
      listed = verdict_text bytes;
      listed_before = former_listing (system equal);
      ends = run_of (timing_of (system equal)) 13;
    })
    (record {
      read = Accepts equal;
      listed =
          118 ∷ 101 ∷ 114 ∷ 100 ∷ 105 ∷ 99 ∷ 116 ∷ 9 ∷ 49 ∷ 10
          ∷ 118 ∷ 99 ∷ 112 ∷ 117 ∷ 9 ∷ 49 ∷ 9 ∷ 102 ∷ 105 ∷ 116 ∷ 115 ∷ 9 ∷ 49 ∷ 9 ∷ 49 ∷ 10
          ∷ 116 ∷ 97 ∷ 115 ∷ 107 ∷ 9 ∷ 49 ∷ 9 ∷ 49 ∷ 9 ∷ 102 ∷ 105 ∷ 116 ∷ 115 ∷ 9 ∷ 51 ∷ 54 ∷ 9 ∷ 55 ∷ 10
          ∷ 116 ∷ 97 ∷ 115 ∷ 107 ∷ 9 ∷ 49 ∷ 9 ∷ 50 ∷ 9 ∷ 108 ∷ 97 ∷ 116 ∷ 101 ∷ 9 ∷ 45 ∷ 9 ∷ 49 ∷ 10
          ∷ 97 ∷ 108 ∷ 108 ∷ 9 ∷ 108 ∷ 97 ∷ 116 ∷ 101 ∷ 10
          ∷ [];
      listed_before =
          118 ∷ 101 ∷ 114 ∷ 100 ∷ 105 ∷ 99 ∷ 116 ∷ 9 ∷ 49 ∷ 10
          ∷ 118 ∷ 99 ∷ 112 ∷ 117 ∷ 9 ∷ 49 ∷ 9 ∷ 102 ∷ 105 ∷ 116 ∷ 115 ∷ 9 ∷ 49 ∷ 9 ∷ 49 ∷ 10
          ∷ 116 ∷ 97 ∷ 115 ∷ 107 ∷ 9 ∷ 49 ∷ 9 ∷ 49 ∷ 9 ∷ 102 ∷ 105 ∷ 116 ∷ 115 ∷ 9 ∷ 51 ∷ 54 ∷ 9 ∷ 55 ∷ 10
          ∷ 116 ∷ 97 ∷ 115 ∷ 107 ∷ 9 ∷ 49 ∷ 9 ∷ 50 ∷ 9 ∷ 102 ∷ 105 ∷ 116 ∷ 115 ∷ 9 ∷ 53 ∷ 9 ∷ 49 ∷ 10
          ∷ 97 ∷ 108 ∷ 108 ∷ 9 ∷ 102 ∷ 105 ∷ 116 ∷ 115 ∷ 10
          ∷ [];
      ends = Missed 12 1 2;
    })
unfolding when up sum greatest any all first flat only any_to all_to highest flat_to list_to pieces joined same digit_of scan starts value digits decimal lowest top_of solve recur unless tasks_of has_vcpu is_vcpu_of has_guest has_mutex global local_to opened shape has_shape number_at numbers kind_in item_of written phase follows vcpu_fits rule tests_of learn reading_by fault judge line_above rest_of plan_of items_in vcpu_at longest_global global_sum global_count ght overrun_of blocking_by blocking vcpu_start vcpu_demand load preemption response wait_start wait_demand ceiling longest_local local_blocking lengths task_demand vcpu_answer wait_answer remote_waits lacks_wait is_held task_answer all_fit has_task task_at line vcpu_line wait_line wait_lines task_line task_lines rising all_line listing verdict_text longest_local_by local_blocking_by task_demand_by task_answer_by former_answer former_fit frame former_task_line former_all_line former_listing facts_of lists fresh holds_global local_waiter is_busy supply must_stop settled passes ask_fault may_have asked free_fault waiter_v waiter_n next_global freed_global local_n next_local freed_local freed use_fault used top_fault topped held_global held_local raised_by task_priority vcpu_priority step board_by begins_in ends_in timing_of at_first tops missed released pick_v pick_n picked asks idle_uses turn after_turn after_turns opened_at tick run_from
fitted_and_misses = refl
