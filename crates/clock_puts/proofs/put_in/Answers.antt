-- `put_in` meets its contract.
use Rattle.clock_puts.specs.PutLaws.{put_in_is}
use Rattle.clock_puts.proofs.put_in.Goals as goal

pub put-requires : goal.put-requires
put-requires c = (c.requires.0.sets _ c.requires.1, c.requires.2, c.requires.3)

pub returns : goal.returns
returns c = put_in_is _ _ _ _ _ c.requires.0 c.requires.1 c.put.ensures
