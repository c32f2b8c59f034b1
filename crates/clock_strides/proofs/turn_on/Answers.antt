use Rattle.clock_strides.specs.TurnsOn.{stride_put}
use Rattle.clock_strides.proofs.turn_on.Goals as goal

pub returns-then-whole : goal.returns-then-whole
returns-then-whole c = c.taken-whole.ensures.0 c.if-whole.true

pub put_plain-requires : goal.put_plain-requires
put_plain-requires c = let u = c.taken-whole.ensures.1 c.if-whole.false in (u.going, u.long, c.requires.2)

pub returns : goal.returns
returns c = stride_put (c.taken-whole.ensures.1 c.if-whole.false) c.put_plain.ensures
