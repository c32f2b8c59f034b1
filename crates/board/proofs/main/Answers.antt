-- What is printed are bytes at the start of the answer's buffer, which is as long as it is written.
use Rattle.std.proofs.Common.{ℕ, sym}
use Rattle.std.proofs.lemmas.List.{length-replicate}
use Rattle.std.proofs.Math.Nat.{le_of_eq}
use Rattle.board.proofs.main.Goals as goal

pub slice_bounds-board_in-end-3 : goal.slice_bounds-board_in-end-3
slice_bounds-board_in-end-3 c = sym (length-replicate {0} {A = ℕ} 655360 0)

pub board_in-w-requires : goal.board_in-w-requires
board_in-w-requires c = le_of_eq (sym (length-replicate {0} {A = ℕ} 655360 0))

pub slice_bounds-out-end : goal.slice_bounds-out-end
slice_bounds-out-end c = c.board_in-w.ensures.counted.0

pub slice_bounds-print-end : goal.slice_bounds-print-end
slice_bounds-print-end c = c.board_in-w.ensures.counted.1
