use Rattle.board_supply.proofs.vcpu_good.Goals as goal

pub returns : goal.returns
returns c = rw (c.both.ensures, c.mark_good.ensures, c.figures_good-figures.ensures, c.overrun.ensures, c.budget.ensures, c.figure-o.ensures, c.figure-l.ensures)
