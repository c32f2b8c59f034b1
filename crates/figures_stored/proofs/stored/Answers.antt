-- `stored` meets its contract.
use native.Mathlib.Omega.{arith}
use Rattle.figures_stored.proofs.stored.Goals as goal

pub fill_responses-requires : goal.fill_responses-requires
fill_responses-requires c = let h = c.fill_preemptions.ensures in
    let e = c.requires in
    (c.fill_blockings.ensures.0, h.0, h.1, e.2)

pub returns : goal.returns
returns c = let e = c.requires in
    let h = c.fill_blockings.ensures in
    let g = c.fill_preemptions.ensures in
    record {
      tasks = h.0;
      blockings = h.1;
      vcpus = g.0;
      preemptions = g.1;
      room = omega (arith, c.fill_responses.auto.rf, e.2);
      responses = c.fill_responses.ensures;
    }
