-- `after_free` meets its contract.
use mathlib.Core.Path.{subst, ◌∙◌}
use native.Mathlib.Omega.{arith}
use Rattle.clock_marks.specs.Changes.{PutIn}
use Rattle.clock_supplies.specs.SizedLaws.{sized_put_held, sized_put_in}
use Rattle.clock_hands.specs.Freed.{passed_sized}
use Rattle.clock_frees.proofs.after_free.Goals as goal

pub passed-requires : goal.passed-requires
passed-requires c =
    let q = c.requires in
    (sized_put_held q.0 (record { from = q.1; to = q.2 }) (record { from = q.3; to = q.4 }) c.put_held.ensures, q.5, q.6)

pub holds_in-held-requires : goal.holds_in-held-requires
holds_in-held-requires c =
    let a = c.args in
    let q = c.requires in
    let z = sized_put_held q.0 (record { from = q.1; to = q.2 }) (record { from = q.3; to = q.4 }) c.put_held.ensures in
    let y = passed_sized a.view.now a.holder.now a.next c.passed.new.marks z q.5 c.passed.ensures in
    (y, q.1, q.2)

pub put_in-requires : goal.put_in-requires
put_in-requires c =
    let a = c.args in
    let q = c.requires in
    let z = sized_put_held q.0 (record { from = q.1; to = q.2 }) (record { from = q.3; to = q.4 }) c.put_held.ensures in
    let y = passed_sized a.view.now a.holder.now a.next c.passed.new.marks z q.5 c.passed.ensures in
    (y, omega arith, q.1, q.2)

pub after_use-requires : goal.after_use-requires
after_use-requires c =
    let a = c.args in
    let q = c.requires in
    let z = sized_put_held q.0 (record { from = q.1; to = q.2 }) (record { from = q.3; to = q.4 }) c.put_held.ensures in
    let y = passed_sized a.view.now a.holder.now a.next c.passed.new.marks z q.5 c.passed.ensures in
    (sized_put_in y (omega arith) c.put_in.ensures, q.1, q.2)

pub shape_of-marks : goal.shape_of-marks
shape_of-marks c = c.after_use.auto.marks ∙ c.put_in.auto.marks ∙ c.passed.auto.marks ∙ c.put_held.auto.marks

pub returns : goal.returns
returns c = record {
  with_held_law = _;
  with_next = _;
  with_holding_law = _;
  held = c.put_held.ensures;
  passed = c.passed.ensures;
  holding = subst (PutIn _ _ 3 c.args.v) c.holds_in-held.ensures c.put_in.ensures;
  supply = c.after_use.ensures;
}
