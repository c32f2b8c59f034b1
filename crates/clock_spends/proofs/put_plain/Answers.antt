use native.Mathlib.Omega.{arith}
use Rattle.clock_spends.specs.Putting.{reach_needs, put_none, put_some}
use Rattle.clock_spends.proofs.put_plain.Goals as goal

pub pick_v-v-requires : goal.pick_v-v-requires
pick_v-v-requires c = let q = c.requires in (q.0.mirrors.sized, q.2)

pub idling-set-requires : goal.idling-set-requires
idling-set-requires c = let q = c.requires in (q.0.mirrors.sized, q.2)

pub bound-free-requires : goal.bound-free-requires
bound-free-requires c = c.idling-set.ensures.0

pub put-requires : goal.put-requires
put-requires c = let q = c.requires in (q.1, q.2)

pub shape_of-plain-then-v-eq0 : goal.shape_of-plain-then-v-eq0
shape_of-plain-then-v-eq0 c = c.put.ensures.long

pub returns-then-v-eq0 : goal.returns-then-v-eq0
returns-then-v-eq0 c =
    put_none c.requires.0 c.args.c c.pick_v-v.ensures.1 c.idling-set.ensures.1 c.if-v-eq0.true c.bound-free.ensures.1 c.put.ensures

pub pick_n-n-requires : goal.pick_n-n-requires
pick_n-n-requires c = let q = c.requires in let nz = c.if-v-eq0.false in (q.0.mirrors.sized, omega arith, c.pick_v-v.ensures.0)

pub reach-most-requires : goal.reach-most-requires
reach-most-requires c =
    reach_needs c.requires.0 c.args.c c.pick_v-v.ensures.1 c.if-v-eq0.false c.pick_n-n.ensures.1

pub bound-k-requires : goal.bound-k-requires
bound-k-requires c = c.idling-set.ensures.0

pub put-requires-2 : goal.put-requires-2
put-requires-2 c = let q = c.requires in (q.1, q.2)

pub shape_of-plain : goal.shape_of-plain
shape_of-plain c = c.put-2.ensures.long

pub returns : goal.returns
returns c =
    put_some c.requires.0 c.args.c c.pick_v-v.ensures.1 c.idling-set.ensures.1 c.if-v-eq0.false c.pick_n-n.ensures.1 c.pick_v-v.ensures.0 c.pick_n-n.ensures.0 c.reach-most.ensures c.bound-k.ensures.0 c.bound-k.ensures.1 c.put-2.ensures
