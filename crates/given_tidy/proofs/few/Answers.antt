use borrow.Author.Rules.{rules}
use Rattle.given_tidy.specs.Tests as tests
use Rattle.given_tidy.proofs.few.Goals as goal

pub returns : goal.returns
unfolding tests.few
returns c = search rules
