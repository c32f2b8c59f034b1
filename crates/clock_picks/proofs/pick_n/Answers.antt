use native.Mathlib.Omega.{arith}
use Rattle.board_keeps.specs.Fair.{InV}
use Rattle.clock_picks.specs.PickedN.{pick_n_plain, pick_n_alone, some_highest, pick_n_ranked}
use Rattle.clock_picks.proofs.pick_n.Goals as goal

pub highest_in-one-requires : goal.highest_in-one-requires
highest_in-one-requires c =
    omega (arith, c.requires.0.few_tasks c.args.v (record { from = c.requires.1; to = c.requires.2 }))

pub returns-then-holders-eq0 : goal.returns-then-holders-eq0
returns-then-holders-eq0 c =
    let h = c.highest_in-one in
    let i : InV c.args.v = record { from = c.requires.1; to = c.requires.2 } in
    let few = c.requires.0.few_tasks c.args.v i in (
      h.ensures.narrow (omega arith),
      λ p s x b w y. pick_n_plain y c.args.v i c.at-ready.ensures c.at.ensures c.meet-holders.ensures c.if-holders-eq0.true
          (h.ensures.narrow_is (omega arith)),
    )

pub without-requires : goal.without-requires
without-requires c =
    let h = c.highest_in-one in
    let few = c.requires.0.few_tasks c.args.v (record { from = c.requires.1; to = c.requires.2 }) in
    (some_highest (omega arith) c.meet-holders.ensures.within c.if-holders-eq0.false (h.ensures.narrow_is (omega arith)), h.ensures.wide)

pub returns-then-without-eq0 : goal.returns-then-without-eq0
returns-then-without-eq0 c =
    let h = c.highest_in-one in
    let i : InV c.args.v = record { from = c.requires.1; to = c.requires.2 } in
    let few = c.requires.0.few_tasks c.args.v i in
    let is = h.ensures.narrow_is (omega arith) in (
      h.ensures.narrow (omega arith),
      λ p s x b w y. pick_n_alone y c.args.v i c.at-ready.ensures
          (some_highest (omega arith) c.meet-holders.ensures.within c.if-holders-eq0.false is) (h.ensures.narrow (omega arith)) is c.without.ensures c.if-without-eq0.true,
    )

pub returns : goal.returns
returns c =
    let a = c.args in (
      c.pick_ranked.ensures.1,
      pick_n_ranked a.view.now a.waits.now a.marks.now a.v (record { from = c.requires.1; to = c.requires.2 }) c.at-ready.ensures c.pick_ranked.ensures.0,
    )
