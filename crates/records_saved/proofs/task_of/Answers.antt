-- `records_saved::task_of` meets its contract.
use native.Mathlib.Omega.{arith}
use Rattle.records.specs.SaveLaws.{task_read}
use Rattle.records_saved.proofs.task_of.Goals as goal

pub overflow_add-k-2 : goal.overflow_add-k-2
overflow_add-k-2 c = let p = c.requires in omega arith

pub overflow_add-k-3 : goal.overflow_add-k-3
overflow_add-k-3 c = let p = c.requires in omega arith

pub overflow_add-k-4 : goal.overflow_add-k-4
overflow_add-k-4 c = let p = c.requires in omega arith

pub returns : goal.returns
returns c =
    task_read _ _ _ _ _ _ _ _ _ _ _ _ _ _ _ c.lock_of.ensures c.lock_of-2.ensures c.lock_of-3.ensures c.lock_of-4.ensures c.lock_of-5.ensures c.lock_of-6.ensures c.lock_of-7.ensures c.lock_of-8.ensures
    c.at.ensures c.at-2.ensures c.at-3.ensures c.at-4.ensures c.at-5.ensures
