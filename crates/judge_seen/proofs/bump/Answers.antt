use Rattle.judge_coded.specs.Coded.{bump}
use borrow.Author.Tests.{lt-ltb, le-ltb}
use Rattle.judge_seen.proofs.bump.Goals as goal

pub returns-then-n-lt-MAX_TASKS : goal.returns-then-n-lt-MAX_TASKS
unfolding bump
returns-then-n-lt-MAX_TASKS c = simp (lt-ltb _ _ c.if-n-lt-MAX_TASKS.true)

pub returns-else-n-lt-MAX_TASKS : goal.returns-else-n-lt-MAX_TASKS
unfolding bump
returns-else-n-lt-MAX_TASKS c = simp (le-ltb _ _ c.if-n-lt-MAX_TASKS.false)
