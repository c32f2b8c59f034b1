-- `leave_missed` meets its contract.
use borrow.Author.Rules.{rules}
use mathlib.Core.Path.{ap, sym}
use Rattle.exports_codes.specs.Exported.{missed_left, second_below, missed_left_law}
use Rattle.exports_codes.proofs.leave_missed.Goals as goal

pub bounds-missed-1 : goal.bounds-missed-1
bounds-missed-1 c = search (rules, second_below c.requires)

pub returns-in-Missed : goal.returns-in-Missed
returns-in-Missed c = missed_left_law c.in-Missed.is _ c.requires

pub returns-in-Ended : goal.returns-in-Ended
unfolding missed_left
returns-in-Ended c = ap (λ a. missed_left a c.args.missed.now) (sym c.in-Ended.is)

pub returns-in-NoRun : goal.returns-in-NoRun
unfolding missed_left
returns-in-NoRun c = ap (λ a. missed_left a c.args.missed.now) (sym c.in-NoRun.is)
