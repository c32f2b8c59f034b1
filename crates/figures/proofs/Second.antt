-- A second plan worked through, by hand in docs/SECOND-PLAN.md: local mutexes, two cores, two global mutexes, several tasks of a VCPU, and all four policies.
-- Fourteen readings of the equations that the plan of document 01 cannot tell apart differ here; so do, in a window of 320 ticks, those of the periods, gaps and waits in equations 6 and 11.
-- And a third, for what is left: a load above its budget by higher tasks, several local sections below a task, a wait without a number, and the tasks that rest on it.
use Rattle.std.specs.Prelude.{ℕ, ◌≡◌, refl, List, [], ◌∷◌}
use Rattle.laws.specs.Choice.{when}
use Rattle.laws.specs.Sums.{up, sum, greatest, any, all, first, flat, only}
use Rattle.laws.specs.Bytes.{pieces, joined, ended, same}
use Rattle.laws.specs.Decimal.{digit_of, scan, starts, value, digits, decimal}
use Rattle.search.specs.declared.Answer.{Answer}
use Rattle.search.specs.declared.Answer.TheVariants.{Fits, Late}
use Rattle.search.specs.Search.{solve, recur}
use Rattle.plan.specs.declared.Policy.{Policy}
use Rattle.plan.specs.declared.Policy.TheVariants.{Periodic, Deferrable}
use Rattle.plan.specs.declared.OverrunChoice.{OverrunChoice}
use Rattle.plan.specs.declared.OverrunChoice.TheVariants.{WithOverrun, WithoutOverrun}
use Rattle.plan.specs.declared.Lock.{Lock}
use Rattle.plan.specs.Plan.{Vcpu, Task, Plan, Mutex, Open, Global, Local, tasks_of}
use Rattle.plan.specs.Refusals.{unless}
use Rattle.plan.specs.Line.{shape, has_shape, number_at, numbers, fields_of, kind_in, item_of, line_of, written}
use Rattle.plan.specs.Text.{text, vcpu_items, mutex_items, open_items, lock_items, task_items, section_items, items_of, lines_of, text_of}
use Rattle.plan.specs.Rules.{phase, follows, vcpu_fits, rule, tests_of, learn}
use Rattle.plan.specs.Reading.{Reading, Accepts, reading, reading_by, fault, judge}
use Rattle.plan.specs.Gathered.{line_above, rest_of, plan_of, items_in}
use Rattle.plan.specs.Lookup.{has_vcpu, is_vcpu_of, has_guest, has_mutex, global, local_to, opened}
use Rattle.figures.specs.System.{System, system}
use Rattle.figures.specs.Figures.{vcpu_at, longest_global, global_sum, global_count, ght, overrun_of, blocking_by, blocking, vcpu_start, vcpu_demand, load, preemption, response, wait_start, wait_demand, ceiling, longest_local, local_blocking, lengths, task_demand}
use Rattle.figures.specs.Answers.{TaskAnswer, Searched, NoWait, Held, vcpu_answer, wait_answer, remote_waits, lacks_wait, is_held, task_answer}

-- the plan's rows
abbrev host : ℕ → ℕ → ℕ → ℕ → ℕ → Vcpu
host v g c b p = record { v = v; guest = g; core = c; budget = b; period = p }

abbrev vcpus : List Vcpu
vcpus = host 1 1 0 4 20 ∷ host 2 1 0 8 25 ∷ host 3 2 1 10 30 ∷ host 4 2 0 3 30 ∷ []

abbrev mutexes : List Mutex
mutexes = record { m = 1; owner = Global } ∷ record { m = 2; owner = Global } ∷ record { m = 3; owner = Local 2 } ∷ record { m = 4; owner = Local 2 } ∷ []

abbrev opens : List Open
opens = record { m = 1; guest = 1 } ∷ record { m = 1; guest = 2 } ∷ record { m = 2; guest = 1 } ∷ []

abbrev lock : ℕ → ℕ → ℕ → Lock
lock m t a = record { m = m; ticks = t; after = a }

abbrev task11 : Task
task11 = record { v = 1; n = 1; period = 400; first = 1; locks = lock 1 2 0 ∷ lock 2 5 1 ∷ [] }

abbrev task21 : Task
task21 = record { v = 2; n = 1; period = 500; first = 1; locks = lock 3 4 0 ∷ lock 4 2 0 ∷ lock 1 1 1 ∷ [] }

abbrev task22 : Task
task22 = record { v = 2; n = 2; period = 450; first = 2; locks = lock 3 1 0 ∷ lock 1 2 0 ∷ lock 1 1 1 ∷ [] }

abbrev task23 : Task
task23 = record { v = 2; n = 3; period = 350; first = 1; locks = lock 4 1 0 ∷ lock 2 1 1 ∷ [] }

abbrev task31 : Task
task31 = record { v = 3; n = 1; period = 300; first = 2; locks = lock 1 2 1 ∷ [] }

abbrev task41 : Task
task41 = record { v = 4; n = 1; period = 320; first = 1; locks = lock 1 1 1 ∷ [] }

abbrev pub second : Policy → OverrunChoice → Plan
second p o =
    record {
      policy = p;
      overrun = o;
      vcpus = vcpus;
      mutexes = mutexes;
      opens = opens;
      sections = record { guest = 1; tasks = task11 ∷ task21 ∷ task22 ∷ task23 ∷ [] } ∷ record { guest = 2; tasks = task31 ∷ task41 ∷ [] } ∷ [];
    }

-- FIGURES that no policy changes, worked out under D O: by VCPU, by task, by global section in the order of the lines
pub record Plain : Type 0 where
  pub ght : List ℕ
  pub longest : List ℕ
  pub sums : List ℕ
  pub counts : List ℕ
  pub lengths : List ℕ
  pub ceilings : List ℕ
  pub preemptions : List ℕ
  pub loads : List ℕ
  pub local : List ℕ

-- FIGURES AND ANSWERS by policy and choice; blocking of VCPUs 1 to 4 in windows of 0, 20 and 401 ticks; the demands of waits and of tasks in one of 320
pub record ByPolicy : Type 0 where
  pub overruns : List ℕ
  pub blocked : List ℕ
  pub vcpus : List Answer
  pub responses : List ℕ
  pub waits : List Answer
  pub remote : List ℕ
  pub tasks : List TaskAnswer
  pub waits_at : List ℕ
  pub tasks_at_law : List ℕ

abbrev each_task : {A : Type 0} → (Task → A) → List A
each_task f = f task11 ∷ f task21 ∷ f task22 ∷ f task23 ∷ f task31 ∷ f task41 ∷ []

abbrev each_vcpu : {A : Type 0} → (ℕ → A) → List A
each_vcpu f = f 1 ∷ f 2 ∷ f 3 ∷ f 4 ∷ []

-- each global section with its task
abbrev each_section : {A : Type 0} → (Task → Lock → A) → List A
each_section f = f task11 (lock 1 2 0) ∷ f task11 (lock 2 5 1) ∷ f task21 (lock 1 1 1) ∷ f task22 (lock 1 2 0) ∷ f task22 (lock 1 1 1) ∷ f task23 (lock 2 1 1) ∷ f task31 (lock 1 2 1) ∷ f task41 (lock 1 1 1) ∷ []

abbrev plain : System → Plain
plain s = record {
  ght = each_vcpu (ght s);
  longest = each_task (longest_global s);
  sums = each_task (global_sum s);
  counts = each_task (global_count s);
  lengths = each_task lengths;
  ceilings = ceiling s 3 ∷ ceiling s 4 ∷ [];
  preemptions = each_vcpu (λ v. preemption s (vcpu_at s v));
  loads = each_section (load s);
  local = each_task (local_blocking s);
}

abbrev by_policy : System → ByPolicy
by_policy s = record {
  overruns = each_vcpu (overrun_of s);
  blocked =
      blocking s (vcpu_at s 1) 0 ∷ blocking s (vcpu_at s 2) 0 ∷ blocking s (vcpu_at s 3) 0 ∷ blocking s (vcpu_at s 4) 0
      ∷ blocking s (vcpu_at s 1) 20 ∷ blocking s (vcpu_at s 2) 20 ∷ blocking s (vcpu_at s 3) 20 ∷ blocking s (vcpu_at s 4) 20
      ∷ blocking s (vcpu_at s 1) 401 ∷ blocking s (vcpu_at s 2) 401 ∷ blocking s (vcpu_at s 3) 401 ∷ blocking s (vcpu_at s 4) 401
      ∷ [];
  vcpus = each_vcpu (λ v. vcpu_answer s (vcpu_at s v));
  responses = each_section (response s);
  waits = each_section (wait_answer s);
  remote = each_task (remote_waits s);
  tasks = each_task (task_answer s);
  waits_at = each_section (λ k l. wait_demand s k.v l.m 320);
  tasks_at_law = each_task (λ k. task_demand s (remote_waits s) k 320);
}

-- THE THIRD PLAN, under P N: guest 1 has the higher VCPU, so that its tasks stand first
abbrev third21 : Task
third21 = record { v = 2; n = 1; period = 700; first = 0; locks = lock 2 4 0 ∷ lock 2 3 0 ∷ lock 1 2 0 ∷ [] }

abbrev third22 : Task
third22 = record { v = 2; n = 2; period = 600; first = 0; locks = lock 2 5 0 ∷ [] }

abbrev third23 : Task
third23 = record { v = 2; n = 3; period = 100; first = 1; locks = lock 1 2 0 ∷ [] }

abbrev third24 : Task
third24 = record { v = 2; n = 4; period = 500; first = 0; locks = lock 2 1 0 ∷ lock 1 1 0 ∷ [] }

abbrev third11 : Task
third11 = record { v = 1; n = 1; period = 900; first = 0; locks = lock 1 5 0 ∷ [] }

abbrev pub third : Plan
third =
    record {
      policy = Periodic;
      overrun = WithoutOverrun;
      vcpus = host 1 2 0 2 50 ∷ host 2 1 0 3 20 ∷ [];
      mutexes = record { m = 1; owner = Global } ∷ record { m = 2; owner = Local 2 } ∷ [];
      opens = record { m = 1; guest = 1 } ∷ record { m = 1; guest = 2 } ∷ [];
      sections = record { guest = 1; tasks = third21 ∷ third22 ∷ third23 ∷ third24 ∷ [] } ∷ record { guest = 2; tasks = third11 ∷ [] } ∷ [];
    }

-- its figures and answers: by VCPU, by task, by global section in the order of the lines
pub record Third : Type 0 where
  pub loads : List ℕ
  pub responses : List ℕ
  pub local : List ℕ
  pub vcpus : List Answer
  pub waits : List Answer
  pub tasks : List TaskAnswer

abbrev each_of_third : {A : Type 0} → (Task → A) → List A
each_of_third f = f third21 ∷ f third22 ∷ f third23 ∷ f third24 ∷ f third11 ∷ []

abbrev sections_of_third : {A : Type 0} → (Task → Lock → A) → List A
sections_of_third f = f third21 (lock 1 2 0) ∷ f third23 (lock 1 2 0) ∷ f third24 (lock 1 1 0) ∷ f third11 (lock 1 5 0) ∷ []

abbrev third_of : System → Third
third_of s = record {
  loads = sections_of_third (load s);
  responses = sections_of_third (response s);
  local = each_of_third (local_blocking s);
  vcpus = vcpu_answer s (vcpu_at s 1) ∷ vcpu_answer s (vcpu_at s 2) ∷ [];
  waits = sections_of_third (wait_answer s);
  tasks = each_of_third (task_answer s);
}

-- one table
pub record Table : Type 0 where
  pub figures : Plain
  pub p_o : ByPolicy
  pub p_n : ByPolicy
  pub d_o : ByPolicy
  pub d_n : ByPolicy
  pub third : Third

pub second_plan :
    ◌≡◌ {A = Table}
    (record {
      figures = plain (system (second Deferrable WithOverrun));
      p_o = by_policy (system (second Periodic WithOverrun));
      p_n = by_policy (system (second Periodic WithoutOverrun));
      d_o = by_policy (system (second Deferrable WithOverrun));
      d_n = by_policy (system (second Deferrable WithoutOverrun));
      third = third_of (system third);
    })
    (record {
      figures = record {
        ght = 5 ∷ 4 ∷ 2 ∷ 1 ∷ [];
        longest = 5 ∷ 1 ∷ 2 ∷ 1 ∷ 2 ∷ 1 ∷ [];
        sums = 7 ∷ 1 ∷ 3 ∷ 1 ∷ 2 ∷ 1 ∷ [];
        counts = 2 ∷ 1 ∷ 2 ∷ 1 ∷ 1 ∷ 1 ∷ [];
        lengths = 9 ∷ 9 ∷ 7 ∷ 4 ∷ 5 ∷ 3 ∷ [];
        ceilings = 2 ∷ 3 ∷ [];
        preemptions = 5 ∷ 1 ∷ 0 ∷ 0 ∷ [];
        loads = 2 ∷ 5 ∷ 4 ∷ 3 ∷ 2 ∷ 1 ∷ 2 ∷ 1 ∷ [];
        local = 0 ∷ 0 ∷ 15 ∷ 10 ∷ 0 ∷ 0 ∷ [];
      };
      p_o = record {
        overruns = 5 ∷ 4 ∷ 2 ∷ 1 ∷ [];
        blocked = 0 ∷ 5 ∷ 0 ∷ 9 ∷ 0 ∷ 5 ∷ 0 ∷ 9 ∷ 0 ∷ 5 ∷ 0 ∷ 9 ∷ [];
        vcpus = Late 1 ∷ Fits 21 2 ∷ Fits 12 1 ∷ Fits 13 2 ∷ [];
        responses = 23 ∷ 26 ∷ 22 ∷ 21 ∷ 20 ∷ 19 ∷ 22 ∷ 28 ∷ [];
        waits = Fits 226 3 ∷ Fits 38 3 ∷ Fits 123 2 ∷ Fits 123 2 ∷ Fits 123 2 ∷ Fits 26 1 ∷ Fits 79 2 ∷ Fits 23 1 ∷ [];
        remote = 264 ∷ 123 ∷ 246 ∷ 26 ∷ 79 ∷ 23 ∷ [];
        tasks = Searched (Late 2) ∷ Searched (Late 9) ∷ Searched (Late 2) ∷ Searched (Fits 142 6) ∷ Searched (Fits 284 7) ∷ Searched (Fits 296 11) ∷ [];
        waits_at = 248 ∷ 38 ∷ 145 ∷ 145 ∷ 145 ∷ 26 ∷ 79 ∷ 23 ∷ [];
        tasks_at_law = 545 ∷ 392 ∷ 514 ∷ 278 ∷ 304 ∷ 323 ∷ [];
      };
      p_n = record {
        overruns = 0 ∷ 0 ∷ 0 ∷ 0 ∷ [];
        blocked = 0 ∷ 5 ∷ 0 ∷ 9 ∷ 0 ∷ 5 ∷ 0 ∷ 9 ∷ 0 ∷ 5 ∷ 0 ∷ 9 ∷ [];
        vcpus = Fits 15 2 ∷ Fits 16 2 ∷ Fits 10 1 ∷ Fits 12 2 ∷ [];
        responses = 23 ∷ 42 ∷ 22 ∷ 21 ∷ 20 ∷ 19 ∷ 22 ∷ 28 ∷ [];
        waits = Fits 226 3 ∷ Fits 38 3 ∷ Fits 123 2 ∷ Fits 123 2 ∷ Fits 123 2 ∷ Fits 42 1 ∷ Fits 79 2 ∷ Fits 23 1 ∷ [];
        remote = 264 ∷ 123 ∷ 246 ∷ 42 ∷ 79 ∷ 23 ∷ [];
        tasks = Searched (Late 2) ∷ Searched (Late 9) ∷ Searched (Late 2) ∷ Searched (Fits 192 6) ∷ Searched (Fits 284 7) ∷ Searched (Fits 296 11) ∷ [];
        waits_at = 248 ∷ 38 ∷ 145 ∷ 145 ∷ 145 ∷ 42 ∷ 79 ∷ 23 ∷ [];
        tasks_at_law = 545 ∷ 392 ∷ 514 ∷ 294 ∷ 304 ∷ 323 ∷ [];
      };
      d_o = record {
        overruns = 5 ∷ 4 ∷ 2 ∷ 1 ∷ [];
        blocked = 0 ∷ 7 ∷ 0 ∷ 12 ∷ 0 ∷ 14 ∷ 0 ∷ 24 ∷ 0 ∷ 21 ∷ 0 ∷ 32 ∷ [];
        vcpus = Late 1 ∷ Late 1 ∷ Fits 12 1 ∷ Fits 28 2 ∷ [];
        responses = 7 ∷ 10 ∷ 5 ∷ 4 ∷ 3 ∷ 2 ∷ 2 ∷ 1 ∷ [];
        waits = Fits 30 3 ∷ Fits 4 3 ∷ Fits 13 2 ∷ Fits 13 2 ∷ Fits 13 2 ∷ Fits 10 1 ∷ Fits 9 2 ∷ Fits 7 1 ∷ [];
        remote = 34 ∷ 13 ∷ 26 ∷ 10 ∷ 9 ∷ 7 ∷ [];
        tasks = Searched (Fits 235 9) ∷ Searched (Fits 135 6) ∷ Searched (Fits 188 6) ∷ Searched (Fits 92 5) ∷ Searched (Fits 74 4) ∷ Searched (Fits 145 6) ∷ [];
        waits_at = 32 ∷ 4 ∷ 15 ∷ 15 ∷ 15 ∷ 10 ∷ 9 ∷ 7 ∷ [];
        tasks_at_law = 315 ∷ 271 ∷ 290 ∷ 262 ∷ 234 ∷ 307 ∷ [];
      };
      d_n = record {
        overruns = 0 ∷ 0 ∷ 0 ∷ 0 ∷ [];
        blocked = 0 ∷ 7 ∷ 0 ∷ 12 ∷ 0 ∷ 14 ∷ 0 ∷ 24 ∷ 0 ∷ 21 ∷ 0 ∷ 32 ∷ [];
        vcpus = Late 2 ∷ Late 1 ∷ Fits 10 1 ∷ Fits 27 2 ∷ [];
        responses = 23 ∷ 42 ∷ 22 ∷ 21 ∷ 20 ∷ 19 ∷ 22 ∷ 28 ∷ [];
        waits = Fits 226 3 ∷ Fits 38 3 ∷ Fits 123 2 ∷ Fits 123 2 ∷ Fits 123 2 ∷ Fits 42 1 ∷ Fits 79 2 ∷ Fits 23 1 ∷ [];
        remote = 264 ∷ 123 ∷ 246 ∷ 42 ∷ 79 ∷ 23 ∷ [];
        tasks = Searched (Late 2) ∷ Searched (Late 9) ∷ Searched (Late 2) ∷ Searched (Fits 192 6) ∷ Searched (Fits 284 7) ∷ Searched (Fits 296 11) ∷ [];
        waits_at = 248 ∷ 38 ∷ 145 ∷ 145 ∷ 145 ∷ 42 ∷ 79 ∷ 23 ∷ [];
        tasks_at_law = 545 ∷ 392 ∷ 514 ∷ 294 ∷ 304 ∷ 323 ∷ [];
      };
      third = record {
        loads = 5 ∷ 3 ∷ 1 ∷ 5 ∷ [];
        responses = 39 ∷ 20 ∷ 18 ∷ 154 ∷ [];
        local = 0 ∷ 6 ∷ 14 ∷ 18 ∷ 0 ∷ [];
        vcpus = Fits 5 2 ∷ Fits 8 2 ∷ [];
        waits = Fits 154 1 ∷ Late 0 ∷ Fits 154 1 ∷ Fits 174 4 ∷ [];
        tasks = Held ∷ Held ∷ NoWait ∷ Searched (Late 4) ∷ Searched (Late 5) ∷ [];
      };
    })
unfolding when up sum greatest any all first flat solve recur tasks_of global local_to vcpu_at longest_global global_sum global_count ght overrun_of blocking_by blocking vcpu_start vcpu_demand load preemption response wait_start wait_demand ceiling longest_local local_blocking lengths task_demand vcpu_answer wait_answer remote_waits lacks_wait is_held task_answer
second_plan = refl

-- the plans are read from their texts, so they are valid
pub plans_read :
    ◌≡◌ {A = List Reading}
    (reading (text (second Periodic WithOverrun)) ∷ reading (text (second Periodic WithoutOverrun)) ∷ reading (text (second Deferrable WithOverrun)) ∷ reading (text (second Deferrable WithoutOverrun)) ∷ reading (text third) ∷ [])
    (Accepts (second Periodic WithOverrun) ∷ Accepts (second Periodic WithoutOverrun) ∷ Accepts (second Deferrable WithOverrun) ∷ Accepts (second Deferrable WithoutOverrun) ∷ Accepts third ∷ [])
unfolding when up sum greatest any all first flat only pieces joined ended same digit_of scan starts value digits decimal unless tasks_of has_vcpu is_vcpu_of has_guest has_mutex global local_to opened shape has_shape number_at numbers fields_of kind_in item_of line_of written vcpu_items mutex_items open_items lock_items task_items section_items items_of lines_of text_of phase follows vcpu_fits rule tests_of learn reading_by fault judge line_above rest_of plan_of items_in
plans_read = refl
