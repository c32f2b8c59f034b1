-- `wait_ticks` meets its contract.
use Rattle.figures_slices.specs.Places.{ticks_read}
use Rattle.plan_tables.specs.Layout.{task_row}
use native.Mathlib.Omega.{arith}
use Rattle.answers_sums.proofs.wait_ticks.Goals as goal

pub returns : goal.returns
unfolding task_row
returns c = let h = c.requires in ticks_read h.0 c.args.i c.args.j (omega (arith, h.1, h.2)) h.3 h.2 (c.args.t.now.fit.task_small _ (omega (arith, h.1)))
