-- `lengths_of` meets its contract.
use Rattle.figures.specs.Figures.{lengths}
use Rattle.clock_cells.specs.TimesLaws.{no_length}
use Rattle.clock_cells.specs.FillLaws.{task_none, task_row_law}
use mathlib.Core.Path.{◌∙◌, ap, sym}
use Rattle.clock_cells.proofs.lengths_of.Goals as goal

pub returns-then-n-a : goal.returns-then-n-a
returns-then-n-a c = sym (ap lengths (task_none _ _ _ c.if-n-a.true) ∙ no_length)

pub returns : goal.returns
returns c = c.lengths_of.ensures.is ∙ ap lengths (sym (task_row_law _ _ _ c.if-n-a.false))
