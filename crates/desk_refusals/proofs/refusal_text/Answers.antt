-- `refusal_text` meets its contract.
use native.Mathlib.Omega.{arith}
use Rattle.listing_lines.specs.IntoLaws.{into_room, into_none}
use Rattle.desk_refusals.proofs.refusal_text.Goals as goal

pub returns-then-out-refused_size : goal.returns-then-out-refused_size
returns-then-out-refused_size c = let h = into_none _ _ (omega (arith, c.refused_size.ensures.is, c.if-out-refused_size.true)) in record { value = h.0; out_after = h.1 }

pub refused_line-n-requires : goal.refused_line-n-requires
refused_line-n-requires c = omega (arith, c.refused_size.ensures.is, c.if-out-refused_size.false)

pub returns : goal.returns
returns c = let h = into_room _ _ (omega (arith, c.refused_size.ensures.is, c.if-out-refused_size.false)) c.refused_line-n.ensures in record { value = h.0; out_after = h.1 }
