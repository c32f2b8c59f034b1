-- `handed` meets its contract.
use mathlib.Core.Path.{◌∙◌}
use native.Mathlib.Omega.{arith}
use Rattle.board_rules.specs.Names.{InV}
use Rattle.clock_supplies.specs.SizedLaws.{sized_put_held, sized_put_ready}
use Rattle.clock_hands.proofs.handed.Goals as goal

pub put_ready-requires : goal.put_ready-requires
put_ready-requires c =
    let q = c.requires in
    (sized_put_held q.0 (record { from = q.1; to = q.2 }) (record { from = q.3; to = q.4 }) c.put_held.ensures, q.1, q.2, q.3, q.4)

pub put_in-requires : goal.put_in-requires
put_in-requires c =
    let q = c.requires in
    let i : InV c.args.w = record { from = q.1; to = q.2 } in
    (sized_put_ready (sized_put_held q.0 i (record { from = q.3; to = q.4 }) c.put_held.ensures) i c.put_ready.ensures, omega arith, q.1, q.2)

pub shape_of-marks : goal.shape_of-marks
shape_of-marks c = c.put_in.auto.marks ∙ c.put_ready.auto.marks ∙ c.put_held.auto.marks

pub returns : goal.returns
returns c = record {
  with_held_law = _;
  with_ready_law = _;
  held = c.put_held.ensures;
  ready = c.put_ready.ensures;
  holding = c.put_in.ensures;
}
