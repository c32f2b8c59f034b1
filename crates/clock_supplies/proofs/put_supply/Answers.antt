-- `put_supply` meets its contract.
use native.Mathlib.Omega.{arith}
use Rattle.clock_supplies.specs.SizedLaws.{sized_put_in}
use Rattle.clock_supplies.specs.CoreLaws.{supply_is}
use Rattle.clock_supplies.proofs.put_supply.Goals as goal

pub put_in-requires-2 : goal.put_in-requires-2
put_in-requires-2 c = let p = c.requires in
    (sized_put_in p.0 (omega arith) c.put_in.ensures, omega arith, p.1, p.2)

pub returns : goal.returns
returns c = rw (← c.figure-p.ensures, ← c.mark.ensures, ← c.figure.ensures, ← c.spares-q.ensures)
    (supply_is _ _ _ _ _ _ c.put_in.ensures c.put_in-2.ensures)
