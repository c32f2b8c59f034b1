-- `log_answers::line_at` meets its contract.
use native.Mathlib.Omega.{arith}
use lib.ListN.{take}
use Rattle.listing.specs.Listing.{line}
use Rattle.text_letters.specs.WroteLaws.{joins, both_wrote}
use Rattle.board_events.specs.Events.{answer_fields}
use Rattle.log_answers.specs.LoopLaws.{start_fits, wrote_start}
use Rattle.log_answers.proofs.line_at.Goals as goal

pub returns : goal.returns
returns c =
    let o = c.args.out.now in
    let n = c.args.n in
    both_wrote (joins (take n o) (line (answer_fields c.args.a))) (start_fits o _ n c.requires) (wrote_start o n (omega (arith, c.requires))) c.answer_line.ensures
