-- What the board asks of a plan, laid out in one list of numbers, so that an event scans no table.
use Rattle.std.specs.Prelude.{ℕ, List}
use Rattle.plan.specs.declared.Policy.{Policy}
use Rattle.plan.specs.declared.OverrunChoice.{OverrunChoice}
use Rattle.board_seats.specs.Seats as seats
pub use Rattle.board_seats.specs.Seats.{is_v, is_n, is_m, owner_at, at_overrun, at_owner, at_ceiling, at_task, at_lists, view_length, global_owner}
use Rattle.board_rules.specs.Facts.{Facts}

-- the facts that such a list says (its layout, and each look-up: board_seats/Seats)
unfoldable pub facts_in : Policy → OverrunChoice → List ℕ → Facts
facts_in p o t = record {
  policy = p;
  choice = o;
  has_vcpu = λ v. seats.has_vcpu t v;
  budget = λ v. seats.budget_of t v;
  overrun = λ v. seats.overrun_of t v;
  has_task = λ v n. seats.has_task t v n;
  lists = λ v n m. seats.lists_it t v n m;
  has_mutex = λ m. seats.has_mutex t m;
  global = λ m. seats.is_global t m;
  local_to = λ v m. seats.is_local t v m;
  ceiling = λ m. seats.ceiling_of t m;
}
