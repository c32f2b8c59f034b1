-- `text_written::unwritten_of` meets its contract.
use Rattle.text_written.specs.CodeLaws.{unwritten_told}
use Rattle.text_written.proofs.unwritten_of.Goals as goal

pub returns : goal.returns
returns c =
    let a = c.args in
    unwritten_told a.kind a.a a.b a.c a.d a.e c.size_of-n.ensures c.spot.ensures c.spot-2.ensures c.spot-later.ensures
    c.spot-3.ensures c.spot-4.ensures
