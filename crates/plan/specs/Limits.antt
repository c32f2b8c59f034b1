-- The numbers of document 01: what a plan, an event and an input may have, what tables and boards have places for, what a global mutex adds to a priority,
-- and the bytes that part fields and end lines. Those that code tests by name stand in src of this crate, tied to these by the contracts that need them.
use Rattle.std.specs.Prelude.{ℕ}

-- v 1 to 16
abbrev pub max_v : ℕ
max_v = 16

-- guest 1 to 4
abbrev pub max_guest : ℕ
max_guest = 4

-- core 0 to 3
abbrev pub max_core : ℕ
max_core = 3

-- m 1 to 32
abbrev pub max_m : ℕ
max_m = 32

-- n 1 to 8
abbrev pub max_n : ℕ
max_n = 8

-- every period 1 to 1,000,000
abbrev pub max_period : ℕ
max_period = 1000000

-- run 0 to 1,000,000, lock 1 to 1,000,000
abbrev pub max_length : ℕ
max_length = 1000000

-- event ticks 1 to 1,000,000
abbrev pub max_ticks : ℕ
max_ticks = 1000000

-- at most 64 tasks in a plan
abbrev pub max_tasks : ℕ
max_tasks = 64

-- at most 8 locks in a task
abbrev pub max_locks : ℕ
max_locks = 8

-- WHAT TABLES, BOARDS AND SCRATCH HAVE PLACES FOR, no fewer than a plan may have: n of a VCPU's tasks, and tasks in all
abbrev pub most_n : ℕ
most_n = 8

abbrev pub most_tasks : ℕ
most_tasks = 64

-- a number has 1 to 7 decimal digits
abbrev pub max_digits : ℕ
max_digits = 7

-- input above 65,536 bytes is not judged by the programs
abbrev pub max_input : ℕ
max_input = 65536

-- a task that holds a global mutex has priority 8 + n
abbrev pub task_raise : ℕ
task_raise = 8

-- a VCPU whose tasks hold a global mutex has priority 16 + v
abbrev pub vcpu_raise : ℕ
vcpu_raise = 16

-- the bytes that part fields and end lines
abbrev pub tab : ℕ
tab = 9

abbrev pub lf : ℕ
lf = 10
