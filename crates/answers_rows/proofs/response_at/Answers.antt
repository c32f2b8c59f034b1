-- `response_at` meets its contract.
use Rattle.answers_tasks.specs.Found.{place_within, response_of}
use native.Mathlib.Omega.{arith}
use Rattle.answers_rows.proofs.response_at.Goals as goal

pub overflow_sub-result : goal.overflow_sub-result
overflow_sub-result c = let h = c.requires in let p = place_within _ _ _ _ h.1 in omega (arith, p.0)

pub overflow_add-result : goal.overflow_add-result
overflow_add-result c = let h = c.requires in let p = place_within _ _ _ _ h.1 in omega (arith, p.0, p.1, c.args.t.now.fit.task_locks _ h.0, h.0, c.args.t.now.fit.tasks_few)

pub offset_bounds-rf-k : goal.offset_bounds-rf-k
offset_bounds-rf-k c = let h = c.requires in let p = place_within _ _ _ _ h.1 in omega (arith, p.0, p.1, c.args.t.now.fit.task_locks _ h.0, h.0, c.args.t.now.fit.tasks_few)

pub bounds-rf-k : goal.bounds-rf-k
bounds-rf-k c = let h = c.requires in let p = place_within _ _ _ _ h.1 in omega (arith, p.0, p.1, c.args.t.now.fit.task_locks _ h.0, h.0, c.args.t.now.fit.tasks_few)

pub returns : goal.returns
returns c = let h = c.requires in let p = place_within _ _ _ _ h.1 in response_of _ _ _ _ h.1 c.stored.ensures.responses (omega (arith, p.0, p.1, c.args.t.now.fit.task_locks _ h.0, h.0, c.args.t.now.fit.tasks_few)) (omega (arith, p.0, p.1, c.args.t.now.fit.task_locks _ h.0, h.0, c.args.t.now.fit.tasks_few))
