use Rattle.clock_strides.specs.TurnsOn.{forgot_handed}
use mathlib.Core.Path.{refl}
use Rattle.clock_strides.proofs.forget_if.Goals as goal

pub shape_of-plain-then-handed : goal.shape_of-plain-then-handed
shape_of-plain-then-handed c = c.forget.ensures.long

pub returns-then-handed : goal.returns-then-handed
returns-then-handed c = forgot_handed c.if-handed.true c.forget.ensures

pub returns : goal.returns
returns c = record { long = refl; kept = λ i l m. (c.if-handed.false, refl) }
