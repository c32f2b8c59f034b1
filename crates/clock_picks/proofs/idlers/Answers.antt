use native.Mathlib.Omega.{arith}
use Rattle.clock_picks.specs.PickedV.{idlers_are}
use Rattle.clock_picks.proofs.idlers.Goals as goal

pub returns : goal.returns
returns c = (
  omega (arith, c.requires.0.core_sets c.args.c c.requires.1, c.less.ensures.within, c.meet-budget.ensures.within),
  idlers_are c.args.marks.now c.args.c c.requires.1 c.at.ensures c.at-2.ensures c.at-3.ensures
      c.meet-budget.ensures c.less.ensures,
)
