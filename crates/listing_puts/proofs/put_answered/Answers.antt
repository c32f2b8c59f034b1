-- `put_answered` meets its contract.
use Rattle.figures_cells.specs.Held.{system_of}
use mathlib.Core.Path.{refl}
use Rattle.listing.specs.Listing.{listing}
use Rattle.listing_lines.specs.IntoLaws.{tested_room, tested_in, tested_out, answered_as}
use Rattle.listing_puts.proofs.put_answered.Goals as goal

pub returns-then-not-has_room : goal.returns-then-not-has_room
returns-then-not-has_room c = let h = answered_as c.no_room.ensures (tested_out (record { is = c.has_room.ensures }) refl c.if-not-has_room.true) in record { value = h.0; out_after = h.1 }

pub put_listing-k-requires : goal.put_listing-k-requires
put_listing-k-requires c =
    let a = c.args in
    let h = c.requires in
    let room = tested_room {t = listing (system_of a.t.now)} (record { is = c.has_room.ensures }) c.if-not-has_room.false in
    (h.0, h.1, h.2, room)

pub returns : goal.returns
returns c = let h = answered_as c.written.ensures (tested_in (record { is = c.has_room.ensures }) refl c.if-not-has_room.false c.put_listing-k.ensures) in record { value = h.0; out_after = h.1 }
