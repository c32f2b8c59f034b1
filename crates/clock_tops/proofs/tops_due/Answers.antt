-- `tops_due` meets its contract.
use Rattle.clock_renews.specs.PartLaws.{nexts_tops}
use Rattle.clock_misses.specs.DueLaws.{paired_periods}
use Rattle.clock_tops.specs.WalkLaws.{due_in}
use Rattle.clock_tops.specs.MadeLaws.{tops_room, tops_quiet, tops_made}
use Rattle.clock_tops.proofs.tops_due.Goals as goal

pub returns-then-nexts-t : goal.returns-then-nexts-t
returns-then-nexts-t c =
    tops_quiet c.requires.0 c.requires.1 c.requires.2 c.args.on c.args.out.now c.args.at c.if-nexts-t.true

pub recurring-all-requires : goal.recurring-all-requires
recurring-all-requires c = c.requires.0.paired.long

pub tops-w-requires : goal.tops-w-requires
tops-w-requires c =
    let p = c.requires in
    (p.0, p.1.long, tops_room p.0 p.1 p.2 c.args.on c.args.out.now c.args.at p.3, due_in p.1 p.2 c.recurring-all.ensures)

pub renew_tops-requires : goal.renew_tops-requires
renew_tops-requires c =
    let p = c.requires in
    (paired_periods p.0.paired, p.1.long, nexts_tops p.1, p.2, c.recurring-all.ensures)

pub returns : goal.returns
returns c =
    let p = c.requires in
    tops_made p.0 p.1 p.2 c.tops-w.ensures c.renew_tops.ensures
