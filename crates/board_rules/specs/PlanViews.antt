-- The facts of a plan as a board sees it.
use Rattle.board_rules.specs.Facts.{Facts}
use Rattle.board_rules.specs.View.{facts_in}
use Rattle.board_rules.specs.declared.PlanView.{PlanView}

abbrev pub facts : PlanView → Facts
facts p = facts_in p.policy p.overrun p.view.now
