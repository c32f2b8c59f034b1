-- `wait_answer` meets its contract: the rows and the base have the demand of equation 11.
use Prim.Native.Nat.{◌+◌}
use Rattle.figures.specs.Tabled.{system_in}
use Rattle.figures_slices.specs.CostLaws.{wait_found, wait_sound}
use Rattle.figures_slices.specs.Costs.{wait_cost}
use mathlib.Core.Path.{◌∙◌, ap₂}
use native.Mathlib.Omega.{arith}
use Rattle.times_waits.proofs.wait_answer.Goals as goal

pub overflow_add-start : goal.overflow_add-start
unfolding system_in
overflow_add-start c = omega (arith, c.wait_costs-costs.ensures.small, c.wait_start-start.ensures.small)

pub least-requires : goal.least-requires
unfolding system_in
least-requires c = let h = c.requires in
    let w = c.wait_rows-n in (
      omega (arith, w.ensures.0, w.auto.rows, h.3),
      omega (arith, h.4),
      omega arith,
      wait_sound (wait_cost _ _ _) c.args.t.now.fit w.ensures.1,
    )

pub returns : goal.returns
unfolding system_in
returns c = c.least.ensures
    ∙ wait_found _ _ _ _ (ap₂ ◌+◌ c.wait_start-start.ensures.is c.wait_costs-costs.ensures.is) c.wait_start-start.ensures.is c.wait_rows-n.ensures.1
