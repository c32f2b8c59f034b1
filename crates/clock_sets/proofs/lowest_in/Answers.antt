use mathlib.Core.Path.{sym, ◌∙◌, ap}
use native.Mathlib.Nat.{lt_of_le_of_lt}
use native.Mathlib.Omega.{arith}
use borrow.Author.Rules.{rules}
use lib.Dec.{lit<}
use lib.Count.{trailing_le}
use Rattle.laws_picks.specs.Picks.{lowest}
use Rattle.clock_sets.specs.Sets.{in_set}
use Rattle.clock_sets.specs.SetLaws.{lowest_empty, lowest_in_is, trailing_to}
use Rattle.clock_sets.proofs.lowest_in.Goals as goal

pub returns-then-s-eq0 : goal.returns-then-s-eq0
returns-then-s-eq0 c = (sym (ap (λ s. lowest 16 (in_set s)) c.if-s-eq0.true ∙ lowest_empty 16), search rules)

pub overflow_cast-result : goal.overflow_cast-result
overflow_cast-result c = record { fits = lt_of_le_of_lt (trailing_le 64 _) (lit< tt) }

pub overflow_add-result : goal.overflow_add-result
overflow_add-result c = omega (arith, trailing_le 64 c.args.s)

pub returns : goal.returns
returns c = (
  lowest_in_is 16 c.args.s (omega arith) c.requires (omega arith),
  omega (arith, trailing_to 16 c.args.s c.requires (omega arith)),
)
