-- Of each entry that no function calls, which equation its contract is: no caller's proof would notice a weaker one. And of every function of Once, that its clauses are what its theorem states.
use Rattle.std.specs.Prelude.{◌≡◌, refl, List, ℕ, ℤ, Result}
use seplogic.Ra.Ura.{Ura}
use base.Logic.{SProp, sep}
use prog.Memory.{Memory}
use prog.Routine.{Routine}
use types.Logic.{Logic}
use contract.Lifetimes.{Lfts}
use contract.Monad.{Fun, fact}
use Rattle.std.specs.Borrow.{Bor, MutBor}
use denote.Triple.Clauses.{AtExit, closing}
use Rattle.plan.specs.declared.Refusal.{Refusal}
use Rattle.plan.specs.declared.Complaint.{Complaint}
use Rattle.plan_tables.specs.declared.PlanRecord.{PlanRecord}
use Rattle.plan_tables.specs.Layout.{lent}
use Rattle.records.specs.declared.Task.{Task}
use Rattle.records.specs.Sheet.{tables_of}
use Rattle.records_read.specs.After.{ReadOut}
use Rattle.records_reply.specs.declared.Question.{Question}
use Rattle.records_reply.specs.declared.Replied.{Replied}
use Rattle.records_reply.specs.Replies.{reply_to}
use Rattle.listing.specs.Listing.{verdict_text}
use Rattle.listing_lines.specs.Into.{text_answer, text_after}
use Rattle.listing_asked.specs.Asked.{text_asked, text_left}
use Rattle.records_ask.specs.declared.Text.{Text}
use Rattle.records_ask.specs.Wanted.{wanted}
use Rattle.board_rules.specs.declared.Board.{Board}
use Rattle.board_rules.specs.declared.Event.{Event}
use Rattle.board_rules.specs.declared.Event.TheVariants.{Ask, Free, Use, Top, Show}
use Rattle.board_rules.specs.declared.Outcome.{Outcome}
use Rattle.board_rules.specs.declared.BoardAnswer.{BoardAnswer}
use Rattle.board_events.specs.Events.{board_text}
use Rattle.board_tables.specs.declared.FreshBoard.{FreshBoard}
use Rattle.board_tables.specs.Entered.{fresh_for, step_for}
use Rattle.desk_runs.specs.Ran.{run_into}
use Rattle.exports_codes.specs.Exported.{exported, run_exported, missed_left}
use Rattle.exports_write.specs.Numbers.{numbers_asked, numbers_left}
use Rattle.text_scan.specs.contracts as text_scan
use Rattle.given_test.specs.contracts as given_test
use Rattle.read_lines.specs.contracts as read_lines
use Rattle.read_plan.specs.contracts as read_plan
use Rattle.records_read.specs.contracts as records_read
use Rattle.answers_tasks.specs.contracts as answers_tasks
use Rattle.answers_rows.specs.contracts as answers_rows
use Rattle.listing_write.specs.contracts as listing_write
use Rattle.write_tables.specs.contracts as write_tables
use Rattle.records_ask.specs.contracts as records_ask
use Rattle.records_board.specs.contracts as records_board
use Rattle.board_tables.specs.contracts as board_tables
use Rattle.log_answers.specs.contracts as log_answers
use Rattle.clock_tables.specs.contracts as clock_tables
use Rattle.desk.specs.contracts as desk
use Rattle.desk_clock.specs.contracts as desk_clock
use Rattle.desk_write.specs.contracts as desk_write
use Rattle.exports.specs.contracts as exports
use Rattle.exports_write.specs.contracts as exports_write

module _ {M : Type 1} {𝓤 : Ura M} (𝓛 : Logic 𝓤) (mem : Memory → SProp 𝓤) (run : Routine → Fun 𝓤) where
  -- READING INTO RECORDS
  pub read_sheet_is :
      (κs : Lfts 5) (s : Bor (List ℕ)) (vt mt ot : MutBor (List ℕ)) (ks : MutBor (List Task)) (z : Result PlanRecord Complaint) (e : AtExit records_read.read_plan.ended κs) →
      (records_read.read_plan.clauses 𝓛 mem run κs (s, (vt, (mt, (ot, (ks, tt)))))).ensures tt z e
      ≡ fact 𝓤 (ReadOut s.now vt.now mt.now ot.now ks.now z e.1.0.now e.1.1.0.now e.1.1.1.0.now e.1.1.1.1.0.now)
  read_sheet_is κs s vt mt ot ks z e = refl

  pub read_sheet_stated : records_read.read_plan.spec 𝓛 mem run ≡ closing 𝓛 records_read.read_plan.ended (records_read.read_plan.clauses 𝓛 mem run)
  read_sheet_stated = refl

  -- QUESTIONS AND TEXTS OVER RECORDS
  pub reply_is :
      (κs : Lfts 4) (r : PlanRecord) (vt mt ot : Bor (List ℕ)) (ks : Bor (List Task)) (q : Question) (z : Replied) (e : AtExit records_ask.reply.ended κs) →
      (records_ask.reply.clauses 𝓛 mem run κs (r, (vt, (mt, (ot, (ks, (q, tt))))))).ensures tt z e
      ≡ fact 𝓤 (z ≡ reply_to r (tables_of vt.now mt.now ot.now ks.now) q)
  reply_is κs r vt mt ot ks q z e = refl

  pub reply_stated : records_ask.reply.spec 𝓛 mem run ≡ closing 𝓛 records_ask.reply.ended (records_ask.reply.clauses 𝓛 mem run)
  reply_stated = refl

  pub write_sheet_is :
      (κs : Lfts 5) (r : PlanRecord) (vt mt ot : Bor (List ℕ)) (ks : Bor (List Task)) (w : Text) (o : MutBor (List ℕ)) (z : Result ℕ Refusal) (e : AtExit records_ask.write.ended κs) →
      (records_ask.write.clauses 𝓛 mem run κs (r, (vt, (mt, (ot, (ks, (w, (o, tt)))))))).ensures tt z e
      ≡ sep 𝓤 (fact 𝓤 (z ≡ text_asked (wanted w) r (tables_of vt.now mt.now ot.now ks.now) o.now))
      (fact 𝓤 (e.1.1.1.1.1.1.0.now ≡ text_left (wanted w) r (tables_of vt.now mt.now ot.now ks.now) o.now))
  write_sheet_is κs r vt mt ot ks w o z e = refl

  pub write_sheet_stated : records_ask.write.spec 𝓛 mem run ≡ closing 𝓛 records_ask.write.ended (records_ask.write.clauses 𝓛 mem run)
  write_sheet_stated = refl

  -- THE BOARD OVER RECORDS
  pub fresh_sheet_is :
      (κs : Lfts 4) (r : PlanRecord) (vt mt ot : Bor (List ℕ)) (ks : Bor (List Task)) (z : FreshBoard) (e : AtExit records_board.fresh.ended κs) →
      (records_board.fresh.clauses 𝓛 mem run κs (r, (vt, (mt, (ot, (ks, tt)))))).ensures tt z e
      ≡ fact 𝓤 (z ≡ fresh_for r (tables_of vt.now mt.now ot.now ks.now))
  fresh_sheet_is κs r vt mt ot ks z e = refl

  pub fresh_sheet_stated : records_board.fresh.spec 𝓛 mem run ≡ closing 𝓛 records_board.fresh.ended (records_board.fresh.clauses 𝓛 mem run)
  fresh_sheet_stated = refl

  pub step_sheet_is :
      (κs : Lfts 4) (b : Board) (r : PlanRecord) (vt mt ot : Bor (List ℕ)) (ks : Bor (List Task)) (x : Event) (z : Outcome) (e : AtExit records_board.step.ended κs) →
      (records_board.step.clauses 𝓛 mem run κs (b, (r, (vt, (mt, (ot, (ks, (x, tt)))))))).ensures tt z e
      ≡ fact 𝓤 (z ≡ step_for r (tables_of vt.now mt.now ot.now ks.now) b x)
  step_sheet_is κs b r vt mt ot ks x z e = refl

  pub step_sheet_stated : records_board.step.spec 𝓛 mem run ≡ closing 𝓛 records_board.step.ended (records_board.step.clauses 𝓛 mem run)
  step_sheet_stated = refl

  -- THE BOARD'S EVENTS OVER ROWS OF NUMBERS
  pub ask_is :
      (κs : Lfts 4) (b : Board) (r : PlanRecord) (vt mt ot ts : Bor (List ℕ)) (v n m : ℕ) (z : Outcome) (e : AtExit board_tables.ask.ended κs) →
      (board_tables.ask.clauses 𝓛 mem run κs (b, (r, (vt, (mt, (ot, (ts, (v, (n, (m, tt)))))))))).ensures tt z e
      ≡ fact 𝓤 (z ≡ step_for r (lent vt.now mt.now ot.now ts.now) b (Ask v n m))
  ask_is κs b r vt mt ot ts v n m z e = refl

  pub ask_stated : board_tables.ask.spec 𝓛 mem run ≡ closing 𝓛 board_tables.ask.ended (board_tables.ask.clauses 𝓛 mem run)
  ask_stated = refl

  pub free_is :
      (κs : Lfts 4) (b : Board) (r : PlanRecord) (vt mt ot ts : Bor (List ℕ)) (v n m : ℕ) (z : Outcome) (e : AtExit board_tables.free.ended κs) →
      (board_tables.free.clauses 𝓛 mem run κs (b, (r, (vt, (mt, (ot, (ts, (v, (n, (m, tt)))))))))).ensures tt z e
      ≡ fact 𝓤 (z ≡ step_for r (lent vt.now mt.now ot.now ts.now) b (Free v n m))
  free_is κs b r vt mt ot ts v n m z e = refl

  pub free_stated : board_tables.free.spec 𝓛 mem run ≡ closing 𝓛 board_tables.free.ended (board_tables.free.clauses 𝓛 mem run)
  free_stated = refl

  pub use_ticks_is :
      (κs : Lfts 4) (b : Board) (r : PlanRecord) (vt mt ot ts : Bor (List ℕ)) (v t : ℕ) (z : Outcome) (e : AtExit board_tables.use_ticks.ended κs) →
      (board_tables.use_ticks.clauses 𝓛 mem run κs (b, (r, (vt, (mt, (ot, (ts, (v, (t, tt))))))))).ensures tt z e
      ≡ fact 𝓤 (z ≡ step_for r (lent vt.now mt.now ot.now ts.now) b (Use v t))
  use_ticks_is κs b r vt mt ot ts v t z e = refl

  pub use_ticks_stated : board_tables.use_ticks.spec 𝓛 mem run ≡ closing 𝓛 board_tables.use_ticks.ended (board_tables.use_ticks.clauses 𝓛 mem run)
  use_ticks_stated = refl

  pub top_is :
      (κs : Lfts 4) (b : Board) (r : PlanRecord) (vt mt ot ts : Bor (List ℕ)) (v : ℕ) (z : Outcome) (e : AtExit board_tables.top.ended κs) →
      (board_tables.top.clauses 𝓛 mem run κs (b, (r, (vt, (mt, (ot, (ts, (v, tt)))))))).ensures tt z e
      ≡ fact 𝓤 (z ≡ step_for r (lent vt.now mt.now ot.now ts.now) b (Top v))
  top_is κs b r vt mt ot ts v z e = refl

  pub top_stated : board_tables.top.spec 𝓛 mem run ≡ closing 𝓛 board_tables.top.ended (board_tables.top.clauses 𝓛 mem run)
  top_stated = refl

  pub show_is :
      (κs : Lfts 4) (b : Board) (r : PlanRecord) (vt mt ot ts : Bor (List ℕ)) (v n : ℕ) (z : BoardAnswer) (e : AtExit board_tables.show.ended κs) →
      (board_tables.show.clauses 𝓛 mem run κs (b, (r, (vt, (mt, (ot, (ts, (v, (n, tt))))))))).ensures tt z e
      ≡ fact 𝓤 (z ≡ (step_for r (lent vt.now mt.now ot.now ts.now) b (Show v n)).answer)
  show_is κs b r vt mt ot ts v n z e = refl

  pub show_stated : board_tables.show.spec 𝓛 mem run ≡ closing 𝓛 board_tables.show.ended (board_tables.show.clauses 𝓛 mem run)
  show_stated = refl

  -- THE FUNCTIONS FOR C
  pub ryefrost_verdict_is :
      (κs : Lfts 2) (s : Bor (List ℕ)) (o : MutBor (List ℕ)) (z : ℤ) (e : AtExit exports.ryefrost_verdict.ended κs) →
      (exports.ryefrost_verdict.clauses 𝓛 mem run κs (s, (o, tt))).ensures tt z e
      ≡ sep 𝓤 (fact 𝓤 (z ≡ exported (text_answer (verdict_text s.now) o.now))) (fact 𝓤 (e.1.0.now ≡ text_after (verdict_text s.now) o.now))
  ryefrost_verdict_is κs s o z e = refl

  pub ryefrost_verdict_stated : exports.ryefrost_verdict.spec 𝓛 mem run ≡ closing 𝓛 exports.ryefrost_verdict.ended (exports.ryefrost_verdict.clauses 𝓛 mem run)
  ryefrost_verdict_stated = refl

  pub ryefrost_board_is :
      (κs : Lfts 3) (s es : Bor (List ℕ)) (o : MutBor (List ℕ)) (z : ℤ) (e : AtExit exports.ryefrost_board.ended κs) →
      (exports.ryefrost_board.clauses 𝓛 mem run κs (s, (es, (o, tt)))).ensures tt z e
      ≡ sep 𝓤 (fact 𝓤 (z ≡ exported (text_answer (board_text s.now es.now) o.now))) (fact 𝓤 (e.1.1.0.now ≡ text_after (board_text s.now es.now) o.now))
  ryefrost_board_is κs s es o z e = refl

  pub ryefrost_board_stated : exports.ryefrost_board.spec 𝓛 mem run ≡ closing 𝓛 exports.ryefrost_board.ended (exports.ryefrost_board.clauses 𝓛 mem run)
  ryefrost_board_stated = refl

  pub ryefrost_run_is :
      (κs : Lfts 2) (s : Bor (List ℕ)) (h : ℕ) (o : MutBor (List ℕ)) (z : ℤ) (e : AtExit exports.ryefrost_run.ended κs) →
      (exports.ryefrost_run.clauses 𝓛 mem run κs (s, (h, (o, tt)))).ensures tt z e
      ≡ sep 𝓤 (fact 𝓤 (z ≡ run_exported (run_into s.now h o.now))) (fact 𝓤 (e.1.1.0.now ≡ missed_left (run_into s.now h o.now) o.now))
  ryefrost_run_is κs s h o z e = refl

  pub ryefrost_run_stated : exports.ryefrost_run.spec 𝓛 mem run ≡ closing 𝓛 exports.ryefrost_run.ended (exports.ryefrost_run.clauses 𝓛 mem run)
  ryefrost_run_stated = refl

  pub ryefrost_write_is :
      (κs : Lfts 6) (ns vt mt ot ts : Bor (List ℕ)) (o : MutBor (List ℕ)) (z : ℤ) (e : AtExit exports_write.ryefrost_write.ended κs) →
      (exports_write.ryefrost_write.clauses 𝓛 mem run κs (ns, (vt, (mt, (ot, (ts, (o, tt))))))).ensures tt z e
      ≡ sep 𝓤 (fact 𝓤 (z ≡ exported (numbers_asked ns.now (lent vt.now mt.now ot.now ts.now) o.now)))
      (fact 𝓤 (e.1.1.1.1.1.0.now ≡ numbers_left ns.now (lent vt.now mt.now ot.now ts.now) o.now))
  ryefrost_write_is κs ns vt mt ot ts o z e = refl

  pub ryefrost_write_stated : exports_write.ryefrost_write.spec 𝓛 mem run ≡ closing 𝓛 exports_write.ryefrost_write.ended (exports_write.ryefrost_write.clauses 𝓛 mem run)
  ryefrost_write_stated = refl

  -- THE OTHER FUNCTIONS OF ONCE: their clauses, too, are what their theorems state
  pub read_plan_stated : read_plan.read_plan.spec 𝓛 mem run ≡ closing 𝓛 read_plan.read_plan.ended (read_plan.read_plan.clauses 𝓛 mem run)
  read_plan_stated = refl

  pub read_lines_stated : read_lines.read_lines.spec 𝓛 mem run ≡ closing 𝓛 read_lines.read_lines.ended (read_lines.read_lines.clauses 𝓛 mem run)
  read_lines_stated = refl

  pub line_at_stated : text_scan.line_at.spec 𝓛 mem run ≡ closing 𝓛 text_scan.line_at.ended (text_scan.line_at.clauses 𝓛 mem run)
  line_at_stated = refl

  pub next_line_stated : text_scan.next_line.spec 𝓛 mem run ≡ closing 𝓛 text_scan.next_line.ended (text_scan.next_line.clauses 𝓛 mem run)
  next_line_stated = refl

  pub placed_stated : text_scan.placed.spec 𝓛 mem run ≡ closing 𝓛 text_scan.placed.ended (text_scan.placed.clauses 𝓛 mem run)
  placed_stated = refl

  pub moved_stated : text_scan.moved.spec 𝓛 mem run ≡ closing 𝓛 text_scan.moved.ended (text_scan.moved.clauses 𝓛 mem run)
  moved_stated = refl

  pub read_line_stated : text_scan.read_line.spec 𝓛 mem run ≡ closing 𝓛 text_scan.read_line.ended (text_scan.read_line.clauses 𝓛 mem run)
  read_line_stated = refl

  pub is_given_stated : given_test.is_given.spec 𝓛 mem run ≡ closing 𝓛 given_test.is_given.ended (given_test.is_given.clauses 𝓛 mem run)
  is_given_stated = refl

  pub vcpu_time_stated : answers_rows.vcpu_time.spec 𝓛 mem run ≡ closing 𝓛 answers_rows.vcpu_time.ended (answers_rows.vcpu_time.clauses 𝓛 mem run)
  vcpu_time_stated = refl

  pub wait_time_stated : answers_rows.wait_time.spec 𝓛 mem run ≡ closing 𝓛 answers_rows.wait_time.ended (answers_rows.wait_time.clauses 𝓛 mem run)
  wait_time_stated = refl

  pub task_time_stated : answers_tasks.task_time.spec 𝓛 mem run ≡ closing 𝓛 answers_tasks.task_time.ended (answers_tasks.task_time.clauses 𝓛 mem run)
  task_time_stated = refl

  pub section_response_stated : answers_rows.section_response.spec 𝓛 mem run ≡ closing 𝓛 answers_rows.section_response.ended (answers_rows.section_response.clauses 𝓛 mem run)
  section_response_stated = refl

  pub write_plan_stated : write_tables.write_plan.spec 𝓛 mem run ≡ closing 𝓛 write_tables.write_plan.ended (write_tables.write_plan.clauses 𝓛 mem run)
  write_plan_stated = refl

  pub write_listing_stated : listing_write.write_listing.spec 𝓛 mem run ≡ closing 𝓛 listing_write.write_listing.ended (listing_write.write_listing.clauses 𝓛 mem run)
  write_listing_stated = refl

  pub fresh_stated : board_tables.fresh.spec 𝓛 mem run ≡ closing 𝓛 board_tables.fresh.ended (board_tables.fresh.clauses 𝓛 mem run)
  fresh_stated = refl

  pub step_stated : board_tables.step.spec 𝓛 mem run ≡ closing 𝓛 board_tables.step.ended (board_tables.step.clauses 𝓛 mem run)
  step_stated = refl

  pub answers_stated : log_answers.answers.spec 𝓛 mem run ≡ closing 𝓛 log_answers.answers.ended (log_answers.answers.clauses 𝓛 mem run)
  answers_stated = refl

  pub run_of_stated : clock_tables.run_of.spec 𝓛 mem run ≡ closing 𝓛 clock_tables.run_of.ended (clock_tables.run_of.clauses 𝓛 mem run)
  run_of_stated = refl

  pub run_bytes_stated : desk_clock.run_bytes.spec 𝓛 mem run ≡ closing 𝓛 desk_clock.run_bytes.ended (desk_clock.run_bytes.clauses 𝓛 mem run)
  run_bytes_stated = refl

  pub verdict_text_stated : desk.verdict_text.spec 𝓛 mem run ≡ closing 𝓛 desk.verdict_text.ended (desk.verdict_text.clauses 𝓛 mem run)
  verdict_text_stated = refl

  pub board_text_stated : desk.board_text.spec 𝓛 mem run ≡ closing 𝓛 desk.board_text.ended (desk.board_text.clauses 𝓛 mem run)
  board_text_stated = refl

  pub rewrite_text_stated : desk_write.rewrite_text.spec 𝓛 mem run ≡ closing 𝓛 desk_write.rewrite_text.ended (desk_write.rewrite_text.clauses 𝓛 mem run)
  rewrite_text_stated = refl
