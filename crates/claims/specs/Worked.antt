-- K1 to K12 of document 01, computed from the definitions: one table, one equation.
-- K1 to K6 and K10 to K12 stand in it twice: as values, and as the bytes that the programs print.
use Rattle.std.specs.Prelude.{ℕ, ◌≡◌, refl, List, [], ◌∷◌}
use Rattle.std.proofs.Math.Option.{Option, some}
use Rattle.laws.specs.Choice.{when}
use Rattle.laws.specs.Sums.{up, sum, greatest, any, all, first, flat, only}
use Rattle.laws.specs.Range.{any_to, all_to, highest, flat_to, list_to}
use Rattle.laws.specs.Bytes.{pieces, joined, ended, same}
use Rattle.laws.specs.Decimal.{digit_of, scan, starts, value, digits, decimal}
use Rattle.search.specs.declared.Answer.{Answer}
use Rattle.search.specs.declared.Answer.TheVariants.{Fits, Late}
use Rattle.search.specs.Search.{window, solve, recur}
use Rattle.plan.specs.declared.Policy.{Policy}
use Rattle.plan.specs.declared.Policy.TheVariants.{Periodic, Deferrable}
use Rattle.plan.specs.declared.OverrunChoice.{OverrunChoice}
use Rattle.plan.specs.declared.OverrunChoice.TheVariants.{WithOverrun, WithoutOverrun}
use Rattle.plan.specs.declared.Refusal.TheVariants.{Supply, Asleep}
use Rattle.plan.specs.Refusals.{number_of, unless}
use Rattle.plan.specs.declared.Lock.{Lock}
use Rattle.plan.specs.Plan.{Vcpu, Task, Plan, Global, tasks_of}
use Rattle.plan.specs.Lookup.{has_vcpu, is_vcpu_of, has_guest, has_mutex, global, local_to, opened}
use Rattle.plan.specs.Line.{shape, has_shape, number_at, numbers, fields_of, kind_in, item_of, line_of, written}
use Rattle.plan.specs.Text.{text, vcpu_items, mutex_items, open_items, lock_items, task_items, section_items, items_of, lines_of, text_of}
use Rattle.plan.specs.Rules.{phase, follows, vcpu_fits, rule, tests_of, learn}
use Rattle.plan.specs.Reading.{Reading, Accepts, reading, reading_by, fault, judge}
use Rattle.plan.specs.Gathered.{line_above, rest_of, plan_of, items_in}
use Rattle.figures.specs.declared.TaskAnswer.{TaskAnswer}
use Rattle.figures.specs.declared.TaskAnswer.TheVariants.{Searched}
use Rattle.figures.specs.System.{System, system}
use Rattle.figures.specs.Figures.{vcpu_at, longest_global, global_sum, global_count, ght, overrun_of, blocking_by, blocking, vcpu_start, vcpu_demand, load, preemption, response, wait_start, wait_demand, ceiling, longest_local, local_blocking, lengths, task_demand}
use Rattle.figures.specs.Answers.{vcpu_answer, wait_answer, ticks_of, remote_waits, lacks_wait, is_held, task_answer, all_fit}
use Rattle.listing.specs.Listing.{line, vcpu_line, wait_line, wait_lines, task_line, task_lines, rising, all_line, listing, refused_line, verdict_text}
use Rattle.board_rules.specs.declared.Event.{Event}
use Rattle.board_rules.specs.declared.Event.TheVariants.{Ask, Free, Use}
use Rattle.board_rules.specs.declared.Next.TheVariants.{To}
use Rattle.board_rules.specs.declared.BoardAnswer.{BoardAnswer}
use Rattle.board_rules.specs.declared.BoardAnswer.TheVariants.{Granted, Waits, Freed, Left, Refused}
use Rattle.figures.specs.Named.{has_task}
use Rattle.board_rules.specs.Facts.{facts_of, lists}
use Rattle.board_rules.specs.Board.{fresh, holds_global, local_waiter, is_busy, supply, must_stop, settled, passes, ask_fault, may_have, asked, free_fault, waiter_v, waiter_n, next_global, freed_global, local_n, next_local, freed_local, freed, use_fault, used, top_fault, topped, show_fault, held_global, held_local, raised_by, task_priority, vcpu_priority, step}
use Rattle.board_events.specs.Events.{answers_by, answers, event_of, on_line, line_answers, answers_text, board_text}

-- the plan worked through, as a record
abbrev low_lock : Lock
low_lock = record { m = 1; ticks = 1; after = 2 }

abbrev high_lock : Lock
high_lock = record { m = 1; ticks = 2; after = 1 }

abbrev low_task : Task
low_task = record { v = 1; n = 1; period = 100; first = 2; locks = low_lock ∷ [] }

abbrev high_task : Task
high_task = record { v = 2; n = 1; period = 50; first = 1; locks = high_lock ∷ [] }

abbrev low_vcpu : Vcpu
low_vcpu = record { v = 1; guest = 1; core = 0; budget = 3; period = 20 }

abbrev high_vcpu : Vcpu
high_vcpu = record { v = 2; guest = 2; core = 0; budget = 2; period = 10 }

abbrev worked : Policy → OverrunChoice → Plan
worked p o =
    record {
      policy = p;
      overrun = o;
      vcpus = low_vcpu ∷ high_vcpu ∷ [];
      mutexes = record { m = 1; owner = Global } ∷ [];
      opens = record { m = 1; guest = 1 } ∷ record { m = 1; guest = 2 } ∷ [];
      sections = record { guest = 1; tasks = low_task ∷ [] } ∷ record { guest = 2; tasks = high_task ∷ [] } ∷ [];
    }

-- as the analysis and the board see it
abbrev seen : Policy → OverrunChoice → System
seen p o = system (worked p o)

-- the plan worked through, in the bytes of document 01
abbrev bytes : List ℕ
bytes =
    112 ∷ 108 ∷ 97 ∷ 110 ∷ 9 ∷ 49 ∷ 10
    ∷ 112 ∷ 111 ∷ 108 ∷ 105 ∷ 99 ∷ 121 ∷ 9 ∷ 68 ∷ 9 ∷ 79 ∷ 10
    ∷ 118 ∷ 99 ∷ 112 ∷ 117 ∷ 9 ∷ 49 ∷ 9 ∷ 49 ∷ 9 ∷ 48 ∷ 9 ∷ 51 ∷ 9 ∷ 50 ∷ 48 ∷ 10
    ∷ 118 ∷ 99 ∷ 112 ∷ 117 ∷ 9 ∷ 50 ∷ 9 ∷ 50 ∷ 9 ∷ 48 ∷ 9 ∷ 50 ∷ 9 ∷ 49 ∷ 48 ∷ 10
    ∷ 109 ∷ 117 ∷ 116 ∷ 101 ∷ 120 ∷ 9 ∷ 49 ∷ 9 ∷ 71 ∷ 10
    ∷ 111 ∷ 112 ∷ 101 ∷ 110 ∷ 9 ∷ 49 ∷ 9 ∷ 49 ∷ 10
    ∷ 111 ∷ 112 ∷ 101 ∷ 110 ∷ 9 ∷ 49 ∷ 9 ∷ 50 ∷ 10
    ∷ 103 ∷ 117 ∷ 101 ∷ 115 ∷ 116 ∷ 9 ∷ 49 ∷ 10
    ∷ 116 ∷ 97 ∷ 115 ∷ 107 ∷ 9 ∷ 49 ∷ 9 ∷ 49 ∷ 9 ∷ 49 ∷ 48 ∷ 48 ∷ 10
    ∷ 114 ∷ 117 ∷ 110 ∷ 9 ∷ 50 ∷ 10
    ∷ 108 ∷ 111 ∷ 99 ∷ 107 ∷ 9 ∷ 49 ∷ 9 ∷ 49 ∷ 10
    ∷ 114 ∷ 117 ∷ 110 ∷ 9 ∷ 50 ∷ 10
    ∷ 103 ∷ 117 ∷ 101 ∷ 115 ∷ 116 ∷ 9 ∷ 50 ∷ 10
    ∷ 116 ∷ 97 ∷ 115 ∷ 107 ∷ 9 ∷ 50 ∷ 9 ∷ 49 ∷ 9 ∷ 53 ∷ 48 ∷ 10
    ∷ 114 ∷ 117 ∷ 110 ∷ 9 ∷ 49 ∷ 10
    ∷ 108 ∷ 111 ∷ 99 ∷ 107 ∷ 9 ∷ 49 ∷ 9 ∷ 50 ∷ 10
    ∷ 114 ∷ 117 ∷ 110 ∷ 9 ∷ 49 ∷ 10
    ∷ 101 ∷ 110 ∷ 100 ∷ 10
    ∷ []

-- the events of K10 to K12, in sequence, as values and in bytes
abbrev events : List Event
events = Ask 1 1 1 ∷ Ask 2 1 1 ∷ Use 1 3 ∷ Use 1 2 ∷ Use 1 1 ∷ Ask 1 1 1 ∷ Free 1 1 1 ∷ []

abbrev event_bytes : List ℕ
event_bytes =
    97 ∷ 115 ∷ 107 ∷ 9 ∷ 49 ∷ 9 ∷ 49 ∷ 9 ∷ 49 ∷ 10
    ∷ 97 ∷ 115 ∷ 107 ∷ 9 ∷ 50 ∷ 9 ∷ 49 ∷ 9 ∷ 49 ∷ 10
    ∷ 117 ∷ 115 ∷ 101 ∷ 9 ∷ 49 ∷ 9 ∷ 51 ∷ 10
    ∷ 117 ∷ 115 ∷ 101 ∷ 9 ∷ 49 ∷ 9 ∷ 50 ∷ 10
    ∷ 117 ∷ 115 ∷ 101 ∷ 9 ∷ 49 ∷ 9 ∷ 49 ∷ 10
    ∷ 97 ∷ 115 ∷ 107 ∷ 9 ∷ 49 ∷ 9 ∷ 49 ∷ 9 ∷ 49 ∷ 10
    ∷ 102 ∷ 114 ∷ 101 ∷ 101 ∷ 9 ∷ 49 ∷ 9 ∷ 49 ∷ 9 ∷ 49 ∷ 10
    ∷ []

-- one table of values
pub record Table : Type 0 where
  -- the bytes are read as the plan, and the plan's text is those bytes
  pub read : Reading
  pub written : List ℕ
  -- K1 to K6: the six rows between first and last, with rounds
  pub k1 : Answer
  pub k2 : Answer
  pub k3 : Answer
  pub k4 : TaskAnswer
  pub k5 : Answer
  pub k6 : TaskAnswer
  -- the whole listing, in bytes
  pub listed : List ℕ
  -- K7: policy P O: task (1,1) late after 4 rounds, its wait 20
  pub k7_task : TaskAnswer
  pub k7_wait : ℕ
  -- K8: P O: VCPU 1 fits 8, VCPU 2 fits 5
  pub k8_first : Option ℕ
  pub k8_second : Option ℕ
  -- K9: D N: section responses 20 and 10
  pub k9_first : ℕ
  pub k9_second : ℕ
  -- K10 to K12: D O board, in sequence; and what `board` prints
  pub k10_to_k12 : List BoardAnswer
  pub boarded : List ℕ

pub k1_to_k12 :
    ◌≡◌ {A = Table}
    (record {
      read = reading bytes;
      written = text (worked Deferrable WithOverrun);
      k1 = vcpu_answer (seen Deferrable WithOverrun) low_vcpu;
      k2 = vcpu_answer (seen Deferrable WithOverrun) high_vcpu;
      k3 = wait_answer (seen Deferrable WithOverrun) low_task low_lock;
      k4 = task_answer (seen Deferrable WithOverrun) low_task;
      k5 = wait_answer (seen Deferrable WithOverrun) high_task high_lock;
      k6 = task_answer (seen Deferrable WithOverrun) high_task;
      listed = verdict_text bytes;
      k7_task = task_answer (seen Periodic WithOverrun) low_task;
      k7_wait = ticks_of (wait_answer (seen Periodic WithOverrun) low_task low_lock);
      k8_first = window (vcpu_answer (seen Periodic WithOverrun) low_vcpu);
      k8_second = window (vcpu_answer (seen Periodic WithOverrun) high_vcpu);
      k9_first = response (seen Deferrable WithoutOverrun) low_task low_lock;
      k9_second = response (seen Deferrable WithoutOverrun) high_task high_lock;
      k10_to_k12 = answers (facts_of (seen Deferrable WithOverrun)) (fresh (facts_of (seen Deferrable WithOverrun))) events;
      boarded = board_text bytes event_bytes;
    })
    (record {
      read = Accepts (worked Deferrable WithOverrun);
      written = bytes;
      k1 = Fits 12 2;
      k2 = Fits 6 2;
      k3 = Fits 4 3;
      k4 = Searched (Fits 77 5);
      k5 = Fits 3 1;
      k6 = Searched (Fits 47 6);
      listed =
          118 ∷ 101 ∷ 114 ∷ 100 ∷ 105 ∷ 99 ∷ 116 ∷ 9 ∷ 49 ∷ 10
          ∷ 118 ∷ 99 ∷ 112 ∷ 117 ∷ 9 ∷ 49 ∷ 9 ∷ 102 ∷ 105 ∷ 116 ∷ 115 ∷ 9 ∷ 49 ∷ 50 ∷ 9 ∷ 50 ∷ 10
          ∷ 118 ∷ 99 ∷ 112 ∷ 117 ∷ 9 ∷ 50 ∷ 9 ∷ 102 ∷ 105 ∷ 116 ∷ 115 ∷ 9 ∷ 54 ∷ 9 ∷ 50 ∷ 10
          ∷ 119 ∷ 97 ∷ 105 ∷ 116 ∷ 9 ∷ 49 ∷ 9 ∷ 49 ∷ 9 ∷ 49 ∷ 9 ∷ 52 ∷ 9 ∷ 51 ∷ 10
          ∷ 116 ∷ 97 ∷ 115 ∷ 107 ∷ 9 ∷ 49 ∷ 9 ∷ 49 ∷ 9 ∷ 102 ∷ 105 ∷ 116 ∷ 115 ∷ 9 ∷ 55 ∷ 55 ∷ 9 ∷ 53 ∷ 10
          ∷ 119 ∷ 97 ∷ 105 ∷ 116 ∷ 9 ∷ 50 ∷ 9 ∷ 49 ∷ 9 ∷ 49 ∷ 9 ∷ 51 ∷ 9 ∷ 49 ∷ 10
          ∷ 116 ∷ 97 ∷ 115 ∷ 107 ∷ 9 ∷ 50 ∷ 9 ∷ 49 ∷ 9 ∷ 102 ∷ 105 ∷ 116 ∷ 115 ∷ 9 ∷ 52 ∷ 55 ∷ 9 ∷ 54 ∷ 10
          ∷ 97 ∷ 108 ∷ 108 ∷ 9 ∷ 102 ∷ 105 ∷ 116 ∷ 115 ∷ 10
          ∷ [];
      k7_task = Searched (Late 4);
      k7_wait = 20;
      k8_first = some 8;
      k8_second = some 5;
      k9_first = 20;
      k9_second = 10;
      k10_to_k12 = Granted ∷ Waits ∷ Left 0 1 ∷ Refused Supply ∷ Left 0 0 ∷ Refused Asleep ∷ Freed (To 2 1) ∷ [];
      boarded =
          103 ∷ 114 ∷ 97 ∷ 110 ∷ 116 ∷ 101 ∷ 100 ∷ 10
          ∷ 119 ∷ 97 ∷ 105 ∷ 116 ∷ 115 ∷ 10
          ∷ 108 ∷ 101 ∷ 102 ∷ 116 ∷ 9 ∷ 48 ∷ 9 ∷ 49 ∷ 10
          ∷ 114 ∷ 101 ∷ 102 ∷ 117 ∷ 115 ∷ 101 ∷ 100 ∷ 9 ∷ 49 ∷ 53 ∷ 10
          ∷ 108 ∷ 101 ∷ 102 ∷ 116 ∷ 9 ∷ 48 ∷ 9 ∷ 48 ∷ 10
          ∷ 114 ∷ 101 ∷ 102 ∷ 117 ∷ 115 ∷ 101 ∷ 100 ∷ 9 ∷ 49 ∷ 50 ∷ 10
          ∷ 102 ∷ 114 ∷ 101 ∷ 101 ∷ 100 ∷ 9 ∷ 50 ∷ 9 ∷ 49 ∷ 10
          ∷ [];
    })
unfolding when up sum greatest any all first flat only any_to all_to highest flat_to list_to pieces joined ended same digit_of scan starts value digits decimal solve recur number_of unless tasks_of has_vcpu is_vcpu_of has_guest has_mutex global local_to opened shape has_shape number_at numbers fields_of kind_in item_of line_of written vcpu_items mutex_items open_items lock_items task_items section_items items_of lines_of text_of phase follows vcpu_fits rule tests_of learn reading_by fault judge line_above rest_of plan_of items_in vcpu_at longest_global global_sum global_count ght overrun_of blocking_by blocking vcpu_start vcpu_demand load preemption response wait_start wait_demand ceiling longest_local local_blocking lengths task_demand vcpu_answer wait_answer remote_waits lacks_wait is_held task_answer all_fit line vcpu_line wait_line wait_lines task_line task_lines rising all_line listing refused_line verdict_text facts_of fresh has_task lists holds_global local_waiter is_busy supply must_stop settled passes ask_fault may_have asked free_fault waiter_v waiter_n next_global freed_global local_n next_local freed_local freed use_fault used top_fault topped show_fault held_global held_local raised_by task_priority vcpu_priority step answers_by event_of on_line line_answers answers_text board_text
k1_to_k12 = refl
