-- `response_in` meets its contract.
use Rattle.answers_tasks.specs.Found.{response_lacking, response_nowhere, response_there}
use mathlib.Core.Path.{◌∙◌, sym}
use Rattle.answers_rows.proofs.response_in.Goals as goal

pub returns-then-e-k : goal.returns-then-e-k
returns-then-e-k c = response_lacking _ _ _ _ _ _ c.task_row-k.ensures _ c.if-e-k.true

pub returns-then-not-has_section : goal.returns-then-not-has_section
returns-then-not-has_section c = response_nowhere _ _ _ _ _ _ c.task_row-k.ensures _ c.if-e-k.false c.has_section.ensures c.if-not-has_section.true

pub response_at-x-requires : goal.response_at-x-requires
response_at-x-requires c = (c.if-e-k.false, sym c.has_section.ensures ∙ c.if-not-has_section.false)

pub returns : goal.returns
returns c = response_there _ _ _ _ _ _ c.task_row-k.ensures _ c.if-e-k.false c.has_section.ensures c.if-not-has_section.false c.response_at-x.ensures
