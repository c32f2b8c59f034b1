use native.Mathlib.Omega.{arith}
use Rattle.clock_picks.specs.PickedV.{candidates_are}
use Rattle.clock_picks.proofs.candidates.Goals as goal

pub join-awake-requires : goal.join-awake-requires
join-awake-requires c =
    let z = c.requires.0 in
    let budget = z.sets 0 (omega arith) in
    let spare = z.sets 1 (omega arith) in (omega arith, omega arith)

pub returns : goal.returns
returns c = (
  omega (arith, c.requires.0.core_sets c.args.c c.requires.1, c.meet.ensures.within, c.meet-ready.ensures.within),
  candidates_are c.args.marks.now c.args.c c.at-4.ensures c.at.ensures c.at-2.ensures
      c.at-3.ensures c.at-5.ensures c.meet-spared.ensures c.join-awake.ensures c.meet-ready.ensures c.meet.ensures,
)
