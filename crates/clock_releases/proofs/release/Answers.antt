-- `release` meets its contract: three writes.
use Rattle.clock_releases.specs.ReleaseLaws.{done_sized, place_sized, release_wrote}
use Rattle.clock_releases.proofs.release.Goals as goal

pub put_place-requires : goal.put_place-requires
put_place-requires c =
    let p = c.requires in
    (done_sized p.0 (record { from = p.1; to = p.2 }) (record { from = p.3; to = p.4 }) c.put_done.ensures, p.1, p.2, p.3, p.4)

pub put_ready-requires : goal.put_ready-requires
put_ready-requires c =
    let p = c.requires in (
      place_sized (done_sized p.0 (record { from = p.1; to = p.2 }) (record { from = p.3; to = p.4 }) c.put_done.ensures) (record { from = p.1; to = p.2 }) (record { from = p.3; to = p.4 }) c.put_place.ensures,
      p.1,
      p.2,
      p.3,
      p.4,
    )

pub returns : goal.returns
returns c =
    let p = c.requires in
    release_wrote p.0 (record { from = p.1; to = p.2 }) (record { from = p.3; to = p.4 }) c.put_done.ensures c.put_place.ensures c.at-e.ensures c.seat.ensures.0 c.put_ready.ensures
