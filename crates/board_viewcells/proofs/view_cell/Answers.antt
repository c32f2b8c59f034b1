-- `view_cell` meets its contract: k says which part it is in, and which names it is of.
use Rattle.board_viewcells.proofs.FillLaws.{budget_place, ceiling_place, overrun_place, owner_place, task_place}
use Rattle.board_viewcells.specs.ViewOf.{bit}
use mathlib.Core.Path.{◌∙◌, ap}
use Rattle.board_viewcells.proofs.view_cell.Goals as goal

pub returns-then-k-lt16 : goal.returns-then-k-lt16
returns-then-k-lt16 c = c.budget_of.ensures ∙ budget_place _ _ c.if-k-lt16.true

pub returns-then-k-lt32 : goal.returns-then-k-lt32
returns-then-k-lt32 c = c.overrun_of.ensures ∙ overrun_place _ _ c.if-k-lt16.false c.if-k-lt32.true

pub returns-then-k-lt64 : goal.returns-then-k-lt64
returns-then-k-lt64 c = c.owner_of.ensures ∙ owner_place _ _ c.if-k-lt32.false c.if-k-lt64.true

pub returns-then-k-lt96 : goal.returns-then-k-lt96
returns-then-k-lt96 c = c.ceiling_of.ensures.is ∙ ceiling_place _ _ c.if-k-lt64.false c.if-k-lt96.true

pub returns : goal.returns
returns c = c.bit_of.ensures ∙ ap bit c.has_task.ensures ∙ task_place _ _ c.if-k-lt96.false c.requires
