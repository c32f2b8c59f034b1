use native.Mathlib.Nat.{lt_of_le_of_lt}
use lib.Dec.{lit<}
use lib.Count.{leading_le}
use Rattle.clock_sets.specs.SetLaws.{odd_zeros, highest_in_is}
use Rattle.clock_sets.proofs.highest_in.Goals as goal

pub overflow_cast-result : goal.overflow_cast-result
overflow_cast-result c = record { fits = lt_of_le_of_lt (leading_le 64 _) (lit< tt) }

pub overflow_sub-result : goal.overflow_sub-result
overflow_sub-result c = odd_zeros _

pub returns : goal.returns
returns c = highest_in_is c.args.s c.requires
