-- `start` meets its contract.
use mathlib.Core.Path.{◌∙◌}
use Rattle.clock_firsts.specs.StartLaws.{done_sized}
use Rattle.clock_starts.specs.FirstLaws.{fresh_is, started}
use Rattle.clock_starts.proofs.start.Goals as goal

pub put_supplies-requires : goal.put_supplies-requires
put_supplies-requires c = done_sized c.put_lengths.ensures c.clear_marks.ensures.sized

pub put_nexts-requires : goal.put_nexts-requires
put_nexts-requires c = (c.requires.7.long, c.requires.6)

pub put_bounds-requires : goal.put_bounds-requires
put_bounds-requires c = c.put_nexts.ensures.length_same ∙ c.requires.6

pub returns : goal.returns
returns c =
    let v = c.put_vcpus.ensures in
    started c.requires.7 c.clear_marks.ensures c.put_lengths.ensures c.put_supplies.ensures c.requires.8 c.requires.9
    (λ p. fresh_is p c.args.choice c.args.view.now v.0 v.1 v.2 c.put_holders.ensures c.put_waits.ensures)
    c.requires.6 c.put_nexts.ensures c.put_bounds.ensures
