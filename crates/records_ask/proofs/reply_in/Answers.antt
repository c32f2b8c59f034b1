-- `records_ask::reply_in` meets its contract.
use mathlib.Core.Path.{sym}
use lib.Seq.{length-take-le}
use Rattle.records_ask.proofs.reply_in.Goals as goal

pub slice_bounds-reply_on-end : goal.slice_bounds-reply_on-end
slice_bounds-reply_on-end c = sym (length-take-le _ _ c.requires)
