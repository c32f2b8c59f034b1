-- "That any two results allowed by one statement coincide is proved": for each public entry (docs/DECISIONS.md, "Inner functions"), and for `read_lines`, `moved`, `read_line` and `answers`, over its contract as it stands; `Sure` says too that the contract asks nothing. Each contract is one or more equations, so that one law serves all: `once`.
-- A result comes with the last values of what was lent, in the order of the parameters: `tt` for a parameter that is not a `&mut`.
use seplogic.Ra.Ura.{Ura}
use base.Logic.{SProp}
use prog.Memory.{Memory}
use prog.Routine.{Routine}
use types.Logic.{Logic}
use contract.Monad.{Fun}
use Rattle.laws.specs.Once.{once}
use Rattle.laws.specs.Sure.{Sure, Once, free, of_one, of_two, of_five}
use Rattle.text_scan.specs.contracts as text_scan
use Rattle.given_test.specs.contracts as given_test
use Rattle.read_lines.specs.contracts as read_lines
use Rattle.read_plan.specs.contracts as read_plan
use Rattle.records_read.specs.contracts as records_read
use Rattle.answers_tasks.specs.contracts as answers_tasks
use Rattle.answers_rows.specs.contracts as answers_rows
use Rattle.listing_write.specs.contracts as listing_write
use Rattle.write_tables.specs.contracts as write_tables
use Rattle.records_ask.specs.contracts as records_ask
use Rattle.board_tables.specs.contracts as board_tables
use Rattle.records_board.specs.contracts as records_board
use Rattle.log_answers.specs.contracts as log_answers
use Rattle.clock_tables.specs.contracts as clock_tables
use Rattle.desk.specs.contracts as desk
use Rattle.desk_clock.specs.contracts as desk_clock
use Rattle.desk_write.specs.contracts as desk_write

module _ {M : Type 1} {𝓤 : Ura M} (𝓛 : Logic 𝓤) (mem : Memory → SProp 𝓤) (run : Routine → Fun 𝓤) where
  -- READING (read_plan, records_read, read_lines, text_scan)
  pub read_plan_once : Sure 𝓤 read_plan.read_plan.ended (read_plan.read_plan.clauses 𝓛 mem run)
  read_plan_once = (λ κs a. free 𝓤, λ κs a g h x y. of_five 𝓤 (λ p q i. (once p.0 q.0 i, (tt, (once p.1.0 q.1.0 i, (once p.1.1.0 q.1.1.0 i, (once p.1.1.1.0 q.1.1.1.0 i, (once p.1.1.1.1 q.1.1.1.1 i, tt))))))))

  pub read_sheet_once : Sure 𝓤 records_read.read_plan.ended (records_read.read_plan.clauses 𝓛 mem run)
  read_sheet_once = (λ κs a. free 𝓤, λ κs a g h x y. of_one 𝓤 (λ p q i. (once p.0 q.0 i, (tt, (once p.1.0 q.1.0 i, (once p.1.1.0 q.1.1.0 i, (once p.1.1.1.0 q.1.1.1.0 i, (once p.1.1.1.1 q.1.1.1.1 i, tt))))))))

  pub read_lines_once : Sure 𝓤 read_lines.read_lines.ended (read_lines.read_lines.clauses 𝓛 mem run)
  read_lines_once = (λ κs a. free 𝓤, λ κs a g h x y. of_five 𝓤 (λ p q i. (once p.0 q.0 i, (tt, (once p.1.0 q.1.0 i, (once p.1.1.0 q.1.1.0 i, (once p.1.1.1.0 q.1.1.1.0 i, (once p.1.1.1.1 q.1.1.1.1 i, tt))))))))

  pub line_at_once : Sure 𝓤 text_scan.line_at.ended (text_scan.line_at.clauses 𝓛 mem run)
  line_at_once = (λ κs a. free 𝓤, λ κs a g h x y. of_one 𝓤 (λ p q i. (once p q i, x.1)))

  pub next_line_once : Sure 𝓤 text_scan.next_line.ended (text_scan.next_line.clauses 𝓛 mem run)
  next_line_once = (λ κs a. free 𝓤, λ κs a g h x y. of_one 𝓤 (λ p q i. (once p q i, x.1)))

  pub placed_once : Sure 𝓤 text_scan.placed.ended (text_scan.placed.clauses 𝓛 mem run)
  placed_once = (λ κs a. free 𝓤, λ κs a g h x y. of_one 𝓤 (λ p q i. (record { src = once p.0 q.0 i; at = once p.1 q.1 i; line = once p.2 q.2 i }, x.1)))

  pub moved_once : Once 𝓤 text_scan.moved.ended (text_scan.moved.clauses 𝓛 mem run)
  moved_once κs a g h x y = of_one 𝓤 (λ p q i. (record { src = once p.0 q.0 i; at = once p.1 q.1 i; line = once p.2 q.2 i }, x.1))

  pub read_line_once : Once 𝓤 text_scan.read_line.ended (text_scan.read_line.clauses 𝓛 mem run)
  read_line_once κs a g h x y = of_one 𝓤 (λ p q i. (once p q i, x.1))

  -- QUESTIONS ABOUT LENT TABLES (given_test, answers_tasks, answers_rows, records_ask), and what is written of them (listing_write, write_tables, records_ask)
  pub is_given_once : Sure 𝓤 given_test.is_given.ended (given_test.is_given.clauses 𝓛 mem run)
  is_given_once = (λ κs a. free 𝓤, λ κs a g h x y. of_one 𝓤 (λ p q i. (once p q i, x.1)))

  pub vcpu_time_once : Sure 𝓤 answers_rows.vcpu_time.ended (answers_rows.vcpu_time.clauses 𝓛 mem run)
  vcpu_time_once = (λ κs a. free 𝓤, λ κs a g h x y. of_one 𝓤 (λ p q i. (once p q i, x.1)))

  pub wait_time_once : Sure 𝓤 answers_rows.wait_time.ended (answers_rows.wait_time.clauses 𝓛 mem run)
  wait_time_once = (λ κs a. free 𝓤, λ κs a g h x y. of_one 𝓤 (λ p q i. (once p q i, x.1)))

  pub task_time_once : Sure 𝓤 answers_tasks.task_time.ended (answers_tasks.task_time.clauses 𝓛 mem run)
  task_time_once = (λ κs a. free 𝓤, λ κs a g h x y. of_one 𝓤 (λ p q i. (once p q i, x.1)))

  pub section_response_once : Sure 𝓤 answers_rows.section_response.ended (answers_rows.section_response.clauses 𝓛 mem run)
  section_response_once = (λ κs a. free 𝓤, λ κs a g h x y. of_one 𝓤 (λ p q i. (once p q i, x.1)))

  pub reply_once : Sure 𝓤 records_ask.reply.ended (records_ask.reply.clauses 𝓛 mem run)
  reply_once = (λ κs a. free 𝓤, λ κs a g h x y. of_one 𝓤 (λ p q i. (once p q i, x.1)))

  pub write_listing_once : Sure 𝓤 listing_write.write_listing.ended (listing_write.write_listing.clauses 𝓛 mem run)
  write_listing_once = (λ κs a. free 𝓤, λ κs a g h x y. of_two 𝓤 (λ p q i. (once p.0 q.0 i, (tt, (tt, (tt, (tt, (tt, (once p.1 q.1 i, tt)))))))))

  pub write_plan_once : Sure 𝓤 write_tables.write_plan.ended (write_tables.write_plan.clauses 𝓛 mem run)
  write_plan_once = (λ κs a. free 𝓤, λ κs a g h x y. of_two 𝓤 (λ p q i. (once p.0 q.0 i, (tt, (tt, (tt, (tt, (tt, (once p.1 q.1 i, tt)))))))))

  pub write_sheet_once : Sure 𝓤 records_ask.write.ended (records_ask.write.clauses 𝓛 mem run)
  write_sheet_once = (λ κs a. free 𝓤, λ κs a g h x y. of_two 𝓤 (λ p q i. (once p.0 q.0 i, (tt, (tt, (tt, (tt, (tt, (tt, (once p.1 q.1 i, tt))))))))))

  -- THE BOARD (board_tables, records_board): the board handed back is in the outcome; and the answers to events (log_answers)
  pub fresh_once : Sure 𝓤 board_tables.fresh.ended (board_tables.fresh.clauses 𝓛 mem run)
  fresh_once = (λ κs a. free 𝓤, λ κs a g h x y. of_one 𝓤 (λ p q i. (once p q i, x.1)))

  pub step_once : Sure 𝓤 board_tables.step.ended (board_tables.step.clauses 𝓛 mem run)
  step_once = (λ κs a. free 𝓤, λ κs a g h x y. of_one 𝓤 (λ p q i. (once p q i, x.1)))

  pub ask_once : Sure 𝓤 board_tables.ask.ended (board_tables.ask.clauses 𝓛 mem run)
  ask_once = (λ κs a. free 𝓤, λ κs a g h x y. of_one 𝓤 (λ p q i. (once p q i, x.1)))

  pub free_once : Sure 𝓤 board_tables.free.ended (board_tables.free.clauses 𝓛 mem run)
  free_once = (λ κs a. free 𝓤, λ κs a g h x y. of_one 𝓤 (λ p q i. (once p q i, x.1)))

  pub use_ticks_once : Sure 𝓤 board_tables.use_ticks.ended (board_tables.use_ticks.clauses 𝓛 mem run)
  use_ticks_once = (λ κs a. free 𝓤, λ κs a g h x y. of_one 𝓤 (λ p q i. (once p q i, x.1)))

  pub top_once : Sure 𝓤 board_tables.top.ended (board_tables.top.clauses 𝓛 mem run)
  top_once = (λ κs a. free 𝓤, λ κs a g h x y. of_one 𝓤 (λ p q i. (once p q i, x.1)))

  pub show_once : Sure 𝓤 board_tables.show.ended (board_tables.show.clauses 𝓛 mem run)
  show_once = (λ κs a. free 𝓤, λ κs a g h x y. of_one 𝓤 (λ p q i. (once p q i, x.1)))

  pub fresh_sheet_once : Sure 𝓤 records_board.fresh.ended (records_board.fresh.clauses 𝓛 mem run)
  fresh_sheet_once = (λ κs a. free 𝓤, λ κs a g h x y. of_one 𝓤 (λ p q i. (once p q i, x.1)))

  pub step_sheet_once : Sure 𝓤 records_board.step.ended (records_board.step.clauses 𝓛 mem run)
  step_sheet_once = (λ κs a. free 𝓤, λ κs a g h x y. of_one 𝓤 (λ p q i. (once p q i, x.1)))

  pub answers_once : Once 𝓤 log_answers.answers.ended (log_answers.answers.clauses 𝓛 mem run)
  answers_once κs a g h x y = of_two 𝓤 (λ p q i. (once p.0 q.0 i, (tt, (tt, (tt, (tt, (once p.1 q.1 i, tt)))))))

  -- THE PLAN ON A CLOCK (clock_tables; of a plan in bytes: desk_clock)
  pub run_of_once : Sure 𝓤 clock_tables.run_of.ended (clock_tables.run_of.clauses 𝓛 mem run)
  run_of_once = (λ κs a. free 𝓤, λ κs a g h x y. of_one 𝓤 (λ p q i. (once p q i, x.1)))

  pub run_bytes_once : Sure 𝓤 desk_clock.run_bytes.ended (desk_clock.run_bytes.clauses 𝓛 mem run)
  run_bytes_once = (λ κs a. free 𝓤, λ κs a g h x y. of_one 𝓤 (λ p q i. (once p q i, x.1)))

  -- THE PROGRAMS' TEXTS (desk, desk_write), into a lent buffer; of the functions for C: exports/proofs/Once, exports_write/proofs/Once
  pub verdict_text_once : Sure 𝓤 desk.verdict_text.ended (desk.verdict_text.clauses 𝓛 mem run)
  verdict_text_once = (λ κs a. free 𝓤, λ κs a g h x y. of_two 𝓤 (λ p q i. (once p.0 q.0 i, (tt, (once p.1 q.1 i, tt)))))

  pub board_text_once : Sure 𝓤 desk.board_text.ended (desk.board_text.clauses 𝓛 mem run)
  board_text_once = (λ κs a. free 𝓤, λ κs a g h x y. of_two 𝓤 (λ p q i. (once p.0 q.0 i, (tt, (tt, (once p.1 q.1 i, tt))))))

  pub rewrite_text_once : Sure 𝓤 desk_write.rewrite_text.ended (desk_write.rewrite_text.clauses 𝓛 mem run)
  rewrite_text_once = (λ κs a. free 𝓤, λ κs a g h x y. of_two 𝓤 (λ p q i. (once p.0 q.0 i, (tt, (once p.1 q.1 i, tt)))))
