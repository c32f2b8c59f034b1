-- `wait_answer` meets its contract.
use Rattle.answers_tasks.specs.Found.{lock_global, place_within, wait_of_law}
use borrow.Author.Rules.{rules}
use mathlib.Core.Path.{◌∙◌}
use native.Mathlib.Omega.{arith}
use Rattle.answers_rows.proofs.wait_answer.Goals as goal

pub overflow_sub-i : goal.overflow_sub-i
overflow_sub-i c = let h = c.requires in let p = place_within _ _ _ _ h.1 in omega (arith, p.0)

pub lock_cell-m-requires : goal.lock_cell-m-requires
lock_cell-m-requires c = let h = c.requires in let p = place_within _ _ _ _ h.1 in (h.0, omega (arith, p.0, p.1, c.args.t.now.fit.task_locks _ h.0), omega arith)

pub wait_answer-requires : goal.wait_answer-requires
wait_answer-requires c = let h = c.requires in let g = c.stored.ensures in (g.responses, g.room, lock_global _ _ _ _ h.1 c.lock_cell-m.ensures.is, search rules, omega (arith, c.task_cell-limit.ensures.small))

pub returns : goal.returns
returns c = let h = c.requires in c.wait_answer.ensures ∙ wait_of_law _ _ _ _ h.1 c.task_cell-v.ensures.is c.lock_cell-m.ensures.is c.task_cell-limit.ensures.is
