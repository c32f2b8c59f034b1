-- `global_count` meets its contract.
use Rattle.figures_cells.specs.Held.{system_of}
use Rattle.figures.specs.Figures.{is_section}
use Rattle.laws.specs.Choice.{when}
use Rattle.laws.specs.Rows.{Summed}
use Rattle.plan_tables.specs.Layout.{lock_row}
use Rattle.figures_sections.proofs.global_count.Given as goal

abbrev pub invariant-loop-j : goal.invariant-loop-j
invariant-loop-j at = Summed (λ l. when (is_section (system_of at.t) l) 1) (lock_row at.t.tasks.now at.i) 1 at.n at.s at.j
