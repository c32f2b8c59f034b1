-- `clock_asks::pick` meets its contract: whoever was known or found is picked.
use native.Mathlib.Omega.{arith}
use Rattle.clock_asks.specs.PickLaws.{code_none, code_picks, code_in, code_some}
use Rattle.clock_asks.proofs.pick.Goals as goal
use Rattle.clock_asks.proofs.pick.Goals.{then-v-eq0+else-v-eq0-2, else-v-eq0}

pub returns-then-v-eq0-2 : goal.returns-then-v-eq0-2
returns-then-v-eq0-2 c = code_none c.requires.going.0 c.args.c c.pick_v-v.ensures.1 c.if-v-eq0-2.true

pub due-m-requires : goal.due-m-requires
due-m-requires c =
    let g = c.requires.going.0 in
    elim c.if-v-eq0.branch [
      | then-v-eq0+else-v-eq0-2 w ↦ rw (w.v-is, w.n-is) (code_in g c.args.c (code_picks g c.args.c w.pick_v-v.ensures.1 w.if-v-eq0-2.false w.pick_n-n.ensures.1))
      | else-v-eq0 w ↦ rw (w.v-is, w.n-is) (code_in g c.args.c (c.requires.known_pick (let z = w.if-v-eq0.false in omega arith)))
    ]

pub returns : goal.returns
returns c =
    let g = c.requires.going.0 in
    code_some g c.args.c
    (elim c.if-v-eq0.branch [
      | then-v-eq0+else-v-eq0-2 w ↦ rw (w.v-is, w.n-is) (code_picks g c.args.c w.pick_v-v.ensures.1 w.if-v-eq0-2.false w.pick_n-n.ensures.1)
      | else-v-eq0 w ↦ rw (w.v-is, w.n-is) (c.requires.known_pick (let z = w.if-v-eq0.false in omega arith))
    ])
    c.due-m.ensures
