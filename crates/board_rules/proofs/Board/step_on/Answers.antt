use Rattle.board_rules.specs.BoardLaws.{show_board}
use Rattle.board_rules.proofs.Board.step_on.Goals as goal

pub ask_on-requires : goal.ask_on-requires
ask_on-requires c = c.requires

pub free_on-requires : goal.free_on-requires
free_on-requires c = c.requires

pub use_on-requires : goal.use_on-requires
use_on-requires c = c.requires

pub top_on-requires : goal.top_on-requires
top_on-requires c = c.requires

pub returns-in-Ask : goal.returns-in-Ask
returns-in-Ask c = rw c.in-Ask.is c.ask_on.ensures

pub returns-in-Free : goal.returns-in-Free
returns-in-Free c = rw c.in-Free.is c.free_on.ensures

pub returns-in-Use : goal.returns-in-Use
returns-in-Use c = rw c.in-Use.is c.use_on.ensures

pub returns-in-Top : goal.returns-in-Top
returns-in-Top c = rw c.in-Top.is c.top_on.ensures

pub returns-in-Show : goal.returns-in-Show
returns-in-Show c = let a = c.args in
    rw (c.in-Show.is, c.shown.ensures, c.show_on.ensures) (show_board a.plan.now.policy a.plan.now.overrun a.plan.now.view.now a.self _ _)
