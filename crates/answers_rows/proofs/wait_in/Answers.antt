-- `wait_in` meets its contract.
use Rattle.answers_tasks.specs.Found.{wait_lacking, wait_nowhere, wait_there}
use mathlib.Core.Path.{◌∙◌, sym}
use Rattle.answers_rows.proofs.wait_in.Goals as goal

pub returns-then-e-k : goal.returns-then-e-k
returns-then-e-k c = wait_lacking _ _ _ _ _ _ c.task_row-k.ensures _ c.if-e-k.true

pub returns-then-not-has_section : goal.returns-then-not-has_section
returns-then-not-has_section c = wait_nowhere _ _ _ _ _ _ c.task_row-k.ensures _ c.if-e-k.false c.has_section.ensures c.if-not-has_section.true

pub wait_answer-x-requires : goal.wait_answer-x-requires
wait_answer-x-requires c = (c.if-e-k.false, sym c.has_section.ensures ∙ c.if-not-has_section.false)

pub returns : goal.returns
returns c = wait_there _ _ _ _ _ _ c.task_row-k.ensures _ c.if-e-k.false c.has_section.ensures c.if-not-has_section.false c.wait_answer-x.ensures
