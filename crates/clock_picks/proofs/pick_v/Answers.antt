use borrow.Author.Rules.{rules}
use Rattle.clock_picks.specs.PickedV.{pick_v_plain, pick_v_raised}
use Rattle.clock_picks.proofs.pick_v.Goals as goal

pub returns-then-raised-eq0 : goal.returns-then-raised-eq0
returns-then-raised-eq0 c = (
  c.highest_in.ensures.wide,
  λ T x b h. pick_v_plain h c.args.c c.requires.1 c.candidates-may.ensures.1 c.at.ensures c.meet-raised.ensures c.if-raised-eq0.true
      c.highest_in.ensures.is,
)

pub returns : goal.returns
returns c = (
  c.highest_in-2.ensures.wide,
  λ T x b h. pick_v_raised h c.args.c c.requires.1 c.candidates-may.ensures.1 c.at.ensures c.meet-raised.ensures c.if-raised-eq0.false
      (search rules) c.highest_in-2.ensures.is,
)
