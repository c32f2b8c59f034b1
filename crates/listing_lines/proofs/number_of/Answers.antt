-- `listing_lines::number_of` meets its contract. Assumes nothing.
use borrow.Author.Rules.{rules}
use Rattle.plan.specs.Refusals.{number_of}
use Rattle.listing_lines.proofs.number_of.Goals as goal

pub returns-in-Shape : goal.returns-in-Shape
unfolding number_of
returns-in-Shape c = search rules

pub returns-in-Number : goal.returns-in-Number
unfolding number_of
returns-in-Number c = search rules

pub returns-in-Range : goal.returns-in-Range
unfolding number_of
returns-in-Range c = search rules

pub returns-in-Order : goal.returns-in-Order
unfolding number_of
returns-in-Order c = search rules

pub returns-in-Missing : goal.returns-in-Missing
unfolding number_of
returns-in-Missing c = search rules

pub returns-in-Outside : goal.returns-in-Outside
unfolding number_of
returns-in-Outside c = search rules

pub returns-in-TooMany : goal.returns-in-TooMany
unfolding number_of
returns-in-TooMany c = search rules

pub returns-in-Room : goal.returns-in-Room
unfolding number_of
returns-in-Room c = search rules

pub returns-in-Foreign : goal.returns-in-Foreign
unfolding number_of
returns-in-Foreign c = search rules

pub returns-in-Unknown : goal.returns-in-Unknown
unfolding number_of
returns-in-Unknown c = search rules

pub returns-in-Unlisted : goal.returns-in-Unlisted
unfolding number_of
returns-in-Unlisted c = search rules

pub returns-in-Asleep : goal.returns-in-Asleep
unfolding number_of
returns-in-Asleep c = search rules

pub returns-in-Busy : goal.returns-in-Busy
unfolding number_of
returns-in-Busy c = search rules

pub returns-in-NotHolder : goal.returns-in-NotHolder
unfolding number_of
returns-in-NotHolder c = search rules

pub returns-in-Supply : goal.returns-in-Supply
unfolding number_of
returns-in-Supply c = search rules
