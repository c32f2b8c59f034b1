-- `negated` meets its contract.
use mathlib.Core.Path.{sym, ap}
use Rattle.plan.specs.Refusals.{number_of}
use Rattle.exports_codes.specs.Exported.{negated}
use Rattle.exports_codes.proofs.negated.Goals as goal

pub returns-in-Shape : goal.returns-in-Shape
unfolding negated number_of
returns-in-Shape c = ap negated (sym c.in-Shape.is)

pub returns-in-Number : goal.returns-in-Number
unfolding negated number_of
returns-in-Number c = ap negated (sym c.in-Number.is)

pub returns-in-Range : goal.returns-in-Range
unfolding negated number_of
returns-in-Range c = ap negated (sym c.in-Range.is)

pub returns-in-Order : goal.returns-in-Order
unfolding negated number_of
returns-in-Order c = ap negated (sym c.in-Order.is)

pub returns-in-Missing : goal.returns-in-Missing
unfolding negated number_of
returns-in-Missing c = ap negated (sym c.in-Missing.is)

pub returns-in-Outside : goal.returns-in-Outside
unfolding negated number_of
returns-in-Outside c = ap negated (sym c.in-Outside.is)

pub returns-in-TooMany : goal.returns-in-TooMany
unfolding negated number_of
returns-in-TooMany c = ap negated (sym c.in-TooMany.is)

pub returns-in-Room : goal.returns-in-Room
unfolding negated number_of
returns-in-Room c = ap negated (sym c.in-Room.is)

pub returns-in-Foreign : goal.returns-in-Foreign
unfolding negated number_of
returns-in-Foreign c = ap negated (sym c.in-Foreign.is)

pub returns-in-Unknown : goal.returns-in-Unknown
unfolding negated number_of
returns-in-Unknown c = ap negated (sym c.in-Unknown.is)

pub returns-in-Unlisted : goal.returns-in-Unlisted
unfolding negated number_of
returns-in-Unlisted c = ap negated (sym c.in-Unlisted.is)

pub returns-in-Asleep : goal.returns-in-Asleep
unfolding negated number_of
returns-in-Asleep c = ap negated (sym c.in-Asleep.is)

pub returns-in-Busy : goal.returns-in-Busy
unfolding negated number_of
returns-in-Busy c = ap negated (sym c.in-Busy.is)

pub returns-in-NotHolder : goal.returns-in-NotHolder
unfolding negated number_of
returns-in-NotHolder c = ap negated (sym c.in-NotHolder.is)

pub returns-in-Supply : goal.returns-in-Supply
unfolding negated number_of
returns-in-Supply c = ap negated (sym c.in-Supply.is)
